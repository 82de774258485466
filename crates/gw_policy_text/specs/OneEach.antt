-- Texts whose rules have none of the keys by which a table is another number of rules than one, or a quiet one: each table is
-- one rule of the list.
use Rattle.std.specs.Prelude.{◌≡◌, ℕ, Bool, true, ◌&&◌, not, is_some, List, length, codes, Ok, Err}
use Rattle.std.specs.List.{list_all}
use Rattle.toml.specs.Data.{Data, Members, get_member}
use Rattle.gw_rules.specs.RuleList.{has_no_quiet}
use Rattle.gw_rules.specs.declared.format.Format.{Format}
use Rattle.gw_configuration.specs.Configuration.{are_counted}
use Rattle.gw_configuration.specs.Located.{Read}
use Rattle.gw_policy_text.specs.keys.Value.{table_in}
use Rattle.gw_policy_text.specs.Policy.{Listing, listing_at}

-- a key isn't in a table
abbrev pub lacks : List ℕ → Members → Bool
lacks key table = not (is_some (get_member key table))

-- none of the three is
abbrev pub lacks_three : Members → Bool
lacks_three table = lacks (codes "both_ways") table && (lacks (codes "enabled") table && lacks (codes "quiet") table)

abbrev pub lacks_in : Read Members → Bool
lacks_in (Ok table) = lacks_three table
lacks_in (Err fault) = true

-- one rule for each of so many tables, in their order, and none is quiet
pub record IsOneEach (size : ℕ) (all : Listing) : Type 0 where
  pub count : length all.rules ≡ size
  pub tables : are_counted 0 all.tables ≡ true
  pub loud : has_no_quiet all.rules ≡ true

-- law: such tables are so
abbrev pub TablesAreOneEach : Type 0
TablesAreOneEach = (format : Format) (sets values : List Data) (all : Listing) → list_all (λ value. lacks_in (table_in value)) values ≡ true
    → listing_at format sets values ≡ Ok all → IsOneEach (length values) all
