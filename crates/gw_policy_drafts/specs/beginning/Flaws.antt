-- What is wrong with what the words of a call say, and which word is the first that is wrong.
use Rattle.std.specs.Prelude.{ℕ, ◌-◌, ◌==◌, Bool, false, ◌&&◌, ◌||◌, not, nat_le, List, [], ◌∷◌, ◌++◌, length}
use Rattle.std.specs.Prelude.{codes, filter, find, is_none, is_some, Option, Some, None, slice_get}
use Rattle.std.specs.List.{list_any}
use Rattle.std.specs.Option.{option_map, option_map_or}
use Rattle.gw_addr.specs.declared.TheConstants.{MAX_PORTS}
use Rattle.gw_policy_drafts.specs.beginning.Part.{has_station, host_of, option_name, overlaps}
use Rattle.gw_policy_drafts.specs.beginning.Site.{Site, SiteText, parts_in, words_in}
use Rattle.gw_policy_drafts.specs.declared.beginning.fault.Flaw.{Flaw}
use Rattle.gw_policy_drafts.specs.declared.beginning.fault.Flaw.TheVariants as flaw
use Rattle.gw_policy_drafts.specs.declared.beginning.fault.WrongWord.{WrongWord}
use Rattle.gw_policy_drafts.specs.declared.beginning.part.SitePart.{SitePart}
use Rattle.gw_policy_drafts.specs.declared.beginning.part.SiteOption.{SiteOption}
use Rattle.gw_policy_drafts.specs.declared.beginning.part.SiteOption.TheVariants as option

-- ---- what a part has

-- a prefix of 8 to 30 bits
abbrev pub is_subnet : SitePart → Bool
is_subnet part = nat_le 8 part.prefix && nat_le part.prefix 30

abbrev pub overlaps_one : SitePart → List SitePart → Bool
overlaps_one part parts = list_any (λ other. overlaps part other) parts

abbrev pub is_given : ℕ → List SitePart → Bool
is_given number parts = list_any (λ other. other.number == number) parts

-- one of these subnets has its address
abbrev pub is_station : SitePart → List SitePart → Bool
is_station part parts = list_any (λ other. has_station (host_of part) other) parts

abbrev pub is_named : SitePart → List SitePart → Bool
is_named part parts = list_any (λ other. host_of other == host_of part) parts

-- a port's number
abbrev pub is_port : Site → ℕ → Bool
is_port s number = nat_le 1 number && nat_le number (length s.ports)

-- the address of a station of one of these ports, which is none of theirs
abbrev pub is_beside : SitePart → List SitePart → Bool
is_beside part ports = is_station part ports && not (is_named part ports)

-- the address of a station of the port of its number, which isn't the port's own
abbrev pub is_at : SitePart → SitePart → Bool
is_at part port = has_station (host_of part) port && not (host_of port == host_of part)

abbrev pub is_at_port : Site → SitePart → Bool
is_at_port s part = option_map_or (is_at part) (slice_get s.ports (part.number - 1)) false

-- it names no UDP port, while the port does whose subnet has its address; or, of a peer, whose number it has
abbrev pub lacks_udp : SitePart → List SitePart → Bool
lacks_udp part ports = is_none part.udp && list_any (λ port. is_some port.udp && has_station (host_of part) port) ports

abbrev pub lacks_udp_of : Site → SitePart → Bool
lacks_udp_of s part = option_map_or (λ port. is_none part.udp && is_some port.udp) (slice_get s.ports (part.number - 1)) false

-- those of a number
abbrev pub of_number : ℕ → List SitePart → List SitePart
of_number number parts = filter (λ part. part.number == number) parts

-- ---- the flaws of a part, which comes after these parts of its option

abbrev pub first_flaw : List (Bool × Flaw) → Option Flaw
first_flaw flaws = option_map (λ f. f.1) (find (λ f. f.0) flaws)

unfoldable pub port_flaw : Site → (before : List SitePart) → SitePart → Option Flaw
port_flaw s before part = first_flaw (
    (not (is_subnet part), flaw.Prefix)
    ∷ (not (has_station (host_of part) part), flaw.End)
    ∷ (overlaps_one part before, flaw.Overlap)
    ∷ (nat_le MAX_PORTS (length before), flaw.TooMany)
    ∷ (length s.ports == 1, flaw.Alone) ∷ [])

-- with 15 peers the stations of a port are 16 subnets, which is the most
unfoldable pub peer_flaw : Site → (before : List SitePart) → SitePart → Option Flaw
peer_flaw s before part = first_flaw (
    (not (is_subnet part), flaw.Prefix)
    ∷ (not (has_station (host_of part) part), flaw.End)
    ∷ (not (is_port s part.number), flaw.NoPort)
    ∷ (overlaps_one part s.ports || overlaps_one part before, flaw.Overlap)
    ∷ (lacks_udp_of s part, flaw.Udp)
    ∷ (nat_le 15 (length (of_number part.number before)), flaw.TooMany) ∷ [])

-- a number is no network's, or that of the gateway's device, a port or another network behind a router
abbrev pub is_taken : Site → (before : List SitePart) → ℕ → Bool
is_taken s before number =
    (number == 0) || ((number == 65535) || ((number == 100) || (is_port s number || is_given number before)))

unfoldable pub router_flaw : Site → (before : List SitePart) → SitePart → Option Flaw
router_flaw s before part = first_flaw (
    (is_taken s before part.number, flaw.Taken)
    ∷ (not (is_beside part s.ports), flaw.NoPort)
    ∷ (lacks_udp part s.ports, flaw.Udp)
    ∷ (nat_le 32 (length before), flaw.TooMany) ∷ [])

unfoldable pub operator_flaw : Site → (before : List SitePart) → SitePart → Option Flaw
operator_flaw s before part = first_flaw (
    (not (is_station part s.ports) && not (is_station part s.peers), flaw.NoPort)
    ∷ (lacks_udp part s.ports, flaw.Udp)
    ∷ (is_named part before, flaw.Taken)
    ∷ (nat_le 32 (length before), flaw.TooMany) ∷ [])

unfoldable pub manager_flaw : Site → (before : List SitePart) → SitePart → Option Flaw
manager_flaw s before part = first_flaw (
    (not (is_port s part.number), flaw.NoPort)
    ∷ (not (is_at_port s part), flaw.NoPort)
    ∷ (lacks_udp part s.ports, flaw.Udp)
    ∷ (is_given part.number before, flaw.Taken)
    ∷ (is_given part.number s.peers, flaw.HasPeers) ∷ [])

abbrev pub flaw_of : Site → SiteOption → (before : List SitePart) → SitePart → Option Flaw
flaw_of s option.Port before part = port_flaw s before part
flaw_of s option.Peer before part = peer_flaw s before part
flaw_of s option.Router before part = router_flaw s before part
flaw_of s option.Operator before part = operator_flaw s before part
flaw_of s option.Manager before part = manager_flaw s before part

-- ---- the first word that is wrong

abbrev pub wrong : SiteOption → ℕ → Flaw → WrongWord
wrong option place f = record { option = option; place = place; flaw = f }

abbrev pub wrong_or : Option Flaw → SiteOption → ℕ → Option WrongWord → Option WrongWord
wrong_or (Some f) option place later = Some (wrong option place f)
wrong_or None option place later = later

-- of an option, of whose parts these come before
unfoldable pub wrong_from : Site → SiteOption → (before parts : List SitePart) → Option WrongWord
wrong_from s option before [] = None
wrong_from s option before (part ∷ parts) =
    wrong_or (flaw_of s option before part) option (length before) (wrong_from s option (before ++ part ∷ []) parts)

abbrev pub wrong_of : Site → SiteOption → Option WrongWord
wrong_of s option = wrong_from s option [] (parts_in s option)

abbrev pub or_else : Option WrongWord → Option WrongWord → Option WrongWord
or_else (Some w) later = Some w
or_else None later = later

-- the options one after the other
abbrev pub wrong_in : Site → Option WrongWord
wrong_in s =
    or_else (wrong_of s option.Port)
    (or_else (wrong_of s option.Peer)
    (or_else (wrong_of s option.Router)
    (or_else (wrong_of s option.Operator) (wrong_of s option.Manager))))

-- ---- the line that names it, and one below it that says what to write

abbrev pub form_of : SiteOption → List ℕ
form_of option.Port = codes "it takes ADDRESS/PREFIX, as 10.1.0.2/24"
form_of option.Peer = codes "it takes PORT=ADDRESS/PREFIX, as 2=203.0.113.2/24"
form_of option.Router = codes "it takes NETWORK=ADDRESS, as 300=10.2.0.254"
form_of option.Operator = codes "it takes ADDRESS, as 10.1.0.10"
form_of option.Manager = codes "it takes PORT=ADDRESS, as 1=10.1.0.3"

abbrev pub flaw_words : SiteOption → Flaw → List ℕ
flaw_words option flaw.Form = form_of option
flaw_words option flaw.Prefix = codes "a prefix has 8 to 30 bits"
flaw_words option flaw.End = codes "a subnet's first and last address are no station's"
flaw_words option flaw.Overlap = codes "an earlier subnet has its addresses"
flaw_words option flaw.NoPort = codes "no port has it"
flaw_words option flaw.Taken = codes "it is taken, or no network's"
flaw_words option flaw.HasPeers = codes "its port has peers"
flaw_words option flaw.TooMany = codes "there are too many"
flaw_words option flaw.Alone = codes "a gateway joins two ports or more"
flaw_words option flaw.Udp = codes "its port has another UDP port than 47808, and it names none"

-- what to write
abbrev pub port_advice : SiteOption → List ℕ
port_advice option.Peer = codes "write the number of its port first, from 1 in the order of --port"
port_advice option.Router = codes "write the router's address on the subnet of a port, which isn't the port's own"
port_advice option.Operator = codes "write a station on the subnet of a port or of a peer"
port_advice _ = codes "write the number of its port first, and an address on its subnet, which isn't the port's own"

abbrev pub taken_advice : SiteOption → List ℕ
taken_advice option.Router =
    codes "write a number from 1 to 65534 that no other network has: the ports have 1, 2, .., and the gateway's device 100"
taken_advice option.Operator = codes "name each operator once"
taken_advice _ = codes "name one manager for a port"

abbrev pub advice_words : SiteOption → Flaw → List ℕ
advice_words option flaw.Form = codes "write numbers without leading zeros, and a UDP port other than 47808 last, as :47809"
advice_words option flaw.Prefix = codes "write how many bits of the address name its subnet, as 24 for the mask 255.255.255.0"
advice_words option flaw.End = codes "write the address of the machine itself, not its subnet's"
advice_words option flaw.Overlap = codes "give each port and each peer a subnet of its own"
advice_words option flaw.NoPort = port_advice option
advice_words option flaw.Taken = taken_advice option
advice_words option flaw.HasPeers = codes "give the peers to that manager, or leave out --bbmd"
advice_words option flaw.TooMany = codes "leave it out here, and write it into the configuration"
advice_words option flaw.Alone = codes "write another --port, for the subnet that it is joined with"
advice_words option flaw.Udp = codes "write its UDP port last, as :47808 or :47809"

abbrev pub word_at : List (List ℕ) → ℕ → List ℕ
word_at words place = option_map_or (λ word. word) (slice_get words place) []

unfoldable pub wrong_line : SiteText → WrongWord → List ℕ
wrong_line text w =
    codes "--" ++ (option_name w.option ++ (codes " " ++ (word_at (words_in text w.option) w.place
    ++ (codes ": " ++ (flaw_words w.option w.flaw ++ (codes "\n  " ++ (advice_words w.option w.flaw ++ codes "\n")))))))
