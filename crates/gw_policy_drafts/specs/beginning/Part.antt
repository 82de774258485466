-- What a word of a call says of a site, and how it is written.
use Rattle.std.specs.Prelude.{ℕ, ◌+◌, ◌-◌, ◌%◌, Bool, true, false, ◌&&◌, nat_le, nat_lt, if◌then◌else◌, List, [], ◌++◌, codes, decimal}
use Rattle.std.specs.Prelude.{Option, Some, None}
use Rattle.std.specs.Int.{from_be_bytes, w32}
use Rattle.gw_addr.specs.Text.{four_text}
use Rattle.gw_policy_drafts.specs.declared.beginning.part.SitePart.{SitePart}
use Rattle.gw_policy_drafts.specs.declared.beginning.part.SiteOption.{SiteOption}
use Rattle.gw_policy_drafts.specs.declared.beginning.part.SiteOption.TheVariants as option
use Rattle.gw_policy_drafts.specs.migration.Items.{size_of}

-- ---- the options

abbrev pub option_name : SiteOption → List ℕ
option_name option.Port = codes "port"
option_name option.Peer = codes "peer"
option_name option.Router = codes "router"
option_name option.Operator = codes "operator"
option_name option.Manager = codes "bbmd"

-- a number comes first, of a port or of a network
abbrev pub is_numbered : SiteOption → Bool
is_numbered option.Peer = true
is_numbered option.Router = true
is_numbered option.Manager = true
is_numbered _ = false

-- the length of a prefix comes last
abbrev pub has_prefix : SiteOption → Bool
has_prefix option.Port = true
has_prefix option.Peer = true
has_prefix _ = false

-- ---- the words: `10.1.0.2/24`, `2=203.0.113.2/24`, `300=10.2.0.254`, `10.1.0.10`, `1=10.1.0.3`, each perhaps with a UDP port, `:47809`

abbrev pub number_text : Bool → ℕ → List ℕ
number_text numbered number = if numbered then decimal number ++ codes "=" else []

abbrev pub prefix_text : Bool → ℕ → List ℕ
prefix_text prefixed prefix = if prefixed then codes "/" ++ decimal prefix else []

abbrev pub udp_text : Option ℕ → List ℕ
udp_text (Some udp) = codes ":" ++ decimal udp
udp_text None = []

unfoldable pub word_of : SiteOption → SitePart → List ℕ
word_of option part =
    number_text (is_numbered option) part.number
    ++ (four_text part.ip ++ (prefix_text (has_prefix option) part.prefix ++ udp_text part.udp))

-- ---- the subnet

-- the address as a number
abbrev pub host_of : SitePart → ℕ
host_of part = from_be_bytes w32 part.ip

-- the first address of the subnet, and the last, to which its broadcasts go
abbrev pub first_of : SitePart → ℕ
first_of part = host_of part - host_of part % size_of part.prefix

abbrev pub last_of : SitePart → ℕ
last_of part = first_of part + (size_of part.prefix - 1)

-- it has an address that a station may have
abbrev pub has_station : ℕ → SitePart → Bool
has_station host part = nat_lt (first_of part) host && nat_lt host (last_of part)

-- two subnets share an address
abbrev pub overlaps : SitePart → SitePart → Bool
overlaps part other = nat_le (first_of part) (last_of other) && nat_le (first_of other) (last_of part)
