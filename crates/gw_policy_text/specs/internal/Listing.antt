-- How the rules of the list are kept, and what the written ones have that they stand for.
use Rattle.std.specs.Prelude.{◌≡◌, ℕ, ◌++◌, ◌==◌, Bool, ◌&&◌, ◌||◌, not, false, List, [], ◌∷◌, length, map, codes, Option, Some, None, IsTrue}
use Rattle.std.specs.List.{list_all}
use Rattle.gw_rules.specs.declared.format.Format.{Format}
use Rattle.gw_rules.specs.declared.rule.Rule.{Rule}
use Rattle.gw_rules.specs.Bounds.{is_within}
use Rattle.gw_rules.specs.Format.{names_stations}
use Rattle.gw_rules.specs.Name.{is_name}
use Rattle.gw_configuration.specs.Configuration.{is_configurable}
use Rattle.gw_policy_text.specs.declared.listing.Listing.{Listing as Kept}
use Rattle.gw_policy_text.specs.declared.written.Written.{Written}
use Rattle.gw_policy_text.specs.Policy.{Listing, audits_for, listing_of, notes_for, or_none, stands_for}

abbrev pub listing_view : Kept → Listing
listing_view l = record { rules = l.rules.items; tables = l.tables; notes = l.notes; audits = l.audits }

-- with one rule more, of this table
abbrev pub with_rule : ℕ → List ℕ → Bool → Rule → Listing → Listing
with_rule table note audit rule l = record {
  rules = l.rules ++ rule ∷ [];
  tables = l.tables ++ table ∷ [];
  notes = l.notes ++ note ∷ [];
  audits = l.audits ++ audit ∷ [];
}

-- with one or none that goes with another
abbrev pub with_other : ℕ → Option Rule → Listing → Listing
with_other table None l = l
with_other table (Some rule) l = with_rule table [] false rule l

-- with all that a written one stands for
abbrev pub with_written : ℕ → Written → Listing → Listing
with_written table written l = record {
  rules = l.rules ++ stands_for written;
  tables = l.tables ++ map (λ rule. table) (stands_for written);
  notes = l.notes ++ notes_for written;
  audits = l.audits ++ audits_for written;
}

-- the rules that go with one that goes both ways have names
abbrev pub has_names : Written → Bool
has_names written =
    not written.both_ways || (is_name (written.rule.name ++ codes "-way") && is_name (written.rule.name ++ codes "-back"))

-- and networks as they may
abbrev pub has_networks : Format → Written → Bool
has_networks format written =
    not written.both_ways
    || (names_stations format
    && list_all (is_within (record { low = 1; high = 65534 })) written.rule.ranges.destination_network)

-- what one of format 1 or 2 is
abbrev pub is_plain_written : Written → Bool
is_plain_written written =
    written.enabled && (not written.both_ways && (not written.rule.quiet && ((length written.note == 0) && not written.audit)))

-- a written one whose rules a configuration can have
abbrev pub is_listable : Format → Written → Bool
is_listable format written =
    is_configurable format written.rule
    && (has_names written && (has_networks format written && (names_stations format || is_plain_written written)))

-- the list of so many such ones
pub record IsListed (format : Format) (size : ℕ) (all : Listing) : Type 0 where
  pub written : List Written
  pub listing : all ≡ listing_of written
  pub count : length written ≡ size
  pub listable : IsTrue (list_all (is_listable format) written)
