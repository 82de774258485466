-- Tables without the three keys are one rule each.
use Rattle.std.proofs.Common.{◌≡◌, ◌∙◌, ◌+◌, ◌&&◌, ◌==◌, ◌∷◌, ◌++◌, [], ℕ, suc, Bool, List, true, false, not, length, map, refl, ap, arith, sym, Option, Some, None, Ok, Err, codes, length-append}
use Rattle.std.specs.Prelude.{is_some, if◌then◌else◌}
use Rattle.std.specs.List.{list_all}
use Rattle.std.proofs.lemmas.Bool.{and_from, and_parts, eq-eqb}
use Rattle.toml.specs.Data.{Data, Members, as_table, get_member}
use Rattle.gw_addr.proofs.Reading.{bind_ok, ok_is}
use Rattle.gw_addr.specs.Reading.{◌>>=◌}
use Rattle.gw_rules.specs.RuleList.{has_no_quiet}
use Rattle.gw_rules.specs.declared.format.Format.{Format}
use Rattle.gw_rules.specs.declared.format.Format.TheVariants as formats
use Rattle.gw_rules.specs.declared.rule.Rule.{Rule}
use Rattle.gw_configuration.specs.Configuration.{are_counted}
use Rattle.gw_configuration.specs.Located.{Find, Located, Read, unless, whole}
use Rattle.gw_configuration.specs.declared.located.Place.TheVariants as places
use Rattle.gw_policy_text.specs.declared.written.Written.{Written}
use Rattle.gw_policy_text.specs.keys.Field.{located_beside}
use Rattle.gw_policy_text.specs.keys.Tables.{is_both_ways, naming_of, rule_fields}
use Rattle.gw_policy_text.specs.keys.Value.{table_in}
use Rattle.gw_policy_text.specs.Parts.{at}
use Rattle.gw_policy_text.specs.Policy.{Listing, boolean_at, crowd, fields_of, flag_at, listing_at, listing_of, name_in, note_at, rule_in, rule_of, rule_parts, rules_behind, rules_of, stands_for, tables_from, written_parts}
use Rattle.gw_policy_text.specs.OneEach.{IsOneEach, TablesAreOneEach, lacks, lacks_in, lacks_three}
use Rattle.gw_policy_text.proofs.Limits.{all_more}

-- it is there, goes one way, and isn't quiet
abbrev is_single : Written → Bool
is_single w = w.enabled && (not w.both_ways && not w.rule.quiet)

none_of : (o : Option Data) → not (is_some o) ≡ true → o ≡ None
none_of None e = refl
none_of (Some d) e = absurd cc

flag_none : (format : Format) (default : Bool) (key : List ℕ) (table : Members) → get_member key table ≡ None → flag_at format default key table ≡ Ok default
flag_none formats.One default key table none = refl
flag_none formats.Two default key table none = refl
flag_none formats.Three default key table none = rw none refl

one_way : (format : Format) (table : Members) → get_member (codes "both_ways") table ≡ None → is_both_ways format table ≡ false
one_way formats.One table none = refl
one_way formats.Two table none = refl
one_way formats.Three table none = rw none refl

-- the rule isn't quiet
loud_rule : (format : Format) (sets : List Data) (table : Members) (rule : Rule) → get_member (codes "quiet") table ≡ None → rule_parts format sets table ≡ Ok rule → rule.quiet ≡ false
loud_rule format sets table rule none e =
    let name = bind_ok (at (codes "name") table >>= name_in (is_both_ways format table)) _ rule e in
    let allow = bind_ok (boolean_at (codes "allow") table) _ rule name.2 in
    let ranges = bind_ok (fields_of (naming_of format table) sets table) _ rule allow.2 in
    let quiet = bind_ok (flag_at format false (codes "quiet") table) _ rule ranges.2 in
    let said : quiet.0 ≡ false = sym (ok_is _ _ (sym (flag_none format false (codes "quiet") table none) ∙ quiet.1)) in
    let made : record { name = name.0; allow = allow.0; quiet = quiet.0; ranges = ranges.0 } ≡ rule = ok_is _ _ quiet.2 in
    sym (ap (λ (r : Rule). r.quiet) made) ∙ said

trues : (a b c : Bool) → a ≡ true → b ≡ false → c ≡ false → (a && (not b && not c)) ≡ true
trues a b c e f g = rw (e, f, g) refl

single_parts : (format : Format) (sets : List Data) (table : Members) (w : Written) → lacks_three table ≡ true → written_parts format sets table ≡ Ok w → is_single w ≡ true
single_parts format sets table w lacking e =
    let one = and_parts (lacks (codes "both_ways") table) (lacks (codes "enabled") table && lacks (codes "quiet") table) lacking in
    let two = and_parts (lacks (codes "enabled") table) (lacks (codes "quiet") table) one.1 in
    let rule = bind_ok (rule_parts format sets table) _ w e in
    let note = bind_ok (note_at format table) _ w rule.2 in
    let audit = bind_ok (flag_at format false (codes "audit") table) _ w note.2 in
    let enabled = bind_ok (flag_at format true (codes "enabled") table) _ w audit.2 in
    let there : enabled.0 ≡ true = sym (ok_is _ _ (sym (flag_none format true (codes "enabled") table (none_of _ two.0)) ∙ enabled.1)) in
    let loud = loud_rule format sets table rule.0 (none_of _ two.1) rule.1 in
    let single = one_way format table (none_of _ one.0) in
    let made : record { rule = rule.0; note = note.0; audit = audit.0; enabled = enabled.0; both_ways = is_both_ways format table } ≡ w = ok_is _ _ enabled.2 in
    ap is_single (sym made) ∙ trues enabled.0 (is_both_ways format table) rule.0.quiet there single loud

single_of : (format : Format) (sets : List Data) (k : ℕ) (table : Members) (w : Written) → lacks_three table ≡ true → rule_of format sets k table ≡ Ok w → is_single w ≡ true
unfolding rule_of
single_of format sets k table w lacking e = by (located_beside sets (places.Rule k) (rule_fields format table) table) (written_parts format sets table) refl e
  where
    by : (found : Option Located) (r : Read Written) → written_parts format sets table ≡ r → unless found (whole r) ≡ Ok w → is_single w ≡ true
    by (Some located) r is h = absurd cc
    by None (Err fault) is h = absurd cc
    by None (Ok x) is h = single_parts format sets table w lacking (is ∙ ap Ok (ok_is _ _ h))

single_in : (format : Format) (sets : List Data) (k : ℕ) (v : Data) (w : Written) → lacks_in (table_in v) ≡ true → rule_in format sets k v ≡ Ok w → is_single w ≡ true
single_in format sets k v w lacking e = by (table_in v) lacking e
  where
    by : (read : Read Members) → lacks_in read ≡ true → (whole read >>= rule_of format sets k) ≡ Ok w → is_single w ≡ true
    by (Err fault) l h = absurd cc
    by (Ok table) l h = single_of format sets k table w l h

-- so are all that are read
pub record AreSingle (size : ℕ) (ws : List Written) : Type 0 where
  pub count : length ws ≡ size
  pub each : list_all is_single ws ≡ true

all_single : (format : Format) (sets : List Data) (before ws : List Written) (k : ℕ) (vs : List Data) → list_all (λ value. lacks_in (table_in value)) vs ≡ true → list_all is_single before ≡ true
    → rules_behind format sets before k vs ≡ Ok ws → AreSingle (length before + length vs) ws
all_single format sets before ws k [] lacking single e =
    let same : before ≡ ws = ok_is _ _ e in
    record { count = ap length (sym same) ∙ plus (length before); each = ap (list_all is_single) (sym same) ∙ single }
  where
    plus : (n : ℕ) → n ≡ n + 0
    plus n = omega arith
all_single format sets before ws k (v ∷ vs) lacking single e =
    let parts = and_parts (lacks_in (table_in v)) (list_all (λ value. lacks_in (table_in value)) vs) lacking in
    by (λ more s h. all_single format sets more ws (k + 1) vs parts.1 s h) (rule_in format sets k v) refl parts.0 e
  where
    on : ((more : List Written) → list_all is_single more ≡ true → rules_behind format sets more (k + 1) vs ≡ Ok ws → AreSingle (length more + length vs) ws)
        → (w : Written) (found : Option Located) → is_single w ≡ true
        → unless found (rules_behind format sets (before ++ w ∷ []) (k + 1) vs) ≡ Ok ws → AreSingle (length before + suc (length vs)) ws
    on later w (Some located) first h = absurd cc
    on later w None first h =
        let rest = later (before ++ w ∷ []) (all_more is_single before w single first) h in
        record { count = omega (arith, rest.count, length-append before (w ∷ [])); each = rest.each }

    by : ((more : List Written) → list_all is_single more ≡ true → rules_behind format sets more (k + 1) vs ≡ Ok ws → AreSingle (length more + length vs) ws)
        → (read : Find Written) → rule_in format sets k v ≡ read → lacks_in (table_in v) ≡ true
        → (read >>= λ w. unless (crowd format k (rules_of (before ++ w ∷ []))) (rules_behind format sets (before ++ w ∷ []) (k + 1) vs)) ≡ Ok ws
        → AreSingle (length before + suc (length vs)) ws
    by later (Err located) is here h = absurd cc
    by later (Ok w) is here h = on later w (crowd format k (rules_of (before ++ w ∷ []))) (single_in format sets k v w here is) h

-- what they stand for

not_true : (b : Bool) → not b ≡ true → b ≡ false
not_true true e = absurd cc
not_true false e = refl

alone : (w : Written) → is_single w ≡ true → (stands_for w ≡ w.rule ∷ []) × (not w.rule.quiet ≡ true)
alone w single =
    let one = and_parts w.enabled (not w.both_ways && not w.rule.quiet) single in
    let two = and_parts (not w.both_ways) (not w.rule.quiet) one.1 in
    let way : w.both_ways ≡ false = not_true w.both_ways two.0 in
    (rw (one.0, way) refl, two.1)

pub record AreAlone (from : ℕ) (ws : List Written) : Type 0 where
  pub count : length (rules_of ws) ≡ length ws
  pub tables : are_counted from (tables_from from ws) ≡ true
  pub loud : has_no_quiet (rules_of ws) ≡ true

all_alone : (from : ℕ) (ws : List Written) → list_all is_single ws ≡ true → AreAlone from ws
all_alone from [] all = record { count = refl; tables = refl; loud = refl }
all_alone from (w ∷ ws) all =
    let parts = and_parts (is_single w) (list_all is_single ws) all in
    let here = alone w parts.0 in
    let later = all_alone (from + 1) ws parts.1 in
    let same : (from == from) ≡ true = eq-eqb from from refl in
    record {
      count = rw (here.0, later.count) refl;
      tables = rw (here.0, same, later.tables) refl;
      loud = rw (here.0, here.1, later.loud) refl;
    }

pub one_each : TablesAreOneEach
one_each format sets values all lacking e =
    let read = bind_ok (rules_behind format sets [] 0 values) (λ ws. Ok (listing_of ws)) all e in
    let ws = read.0 in
    let single = all_single format sets [] ws 0 values lacking refl read.1 in
    let made : listing_of ws ≡ all = ok_is _ _ read.2 in
    let are = all_alone 0 ws single.each in
    record {
      count = ap (λ (l : Listing). length l.rules) (sym made) ∙ are.count ∙ single.count ∙ none (length values);
      tables = ap (λ (l : Listing). are_counted 0 l.tables) (sym made) ∙ are.tables;
      loud = ap (λ (l : Listing). has_no_quiet l.rules) (sym made) ∙ are.loud;
    }
  where
    none : (n : ℕ) → 0 + n ≡ n
    none n = omega arith
