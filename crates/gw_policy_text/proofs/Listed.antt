-- What holds of the list of the rules that written ones stand for.
use Rattle.std.proofs.Common.{◌≡◌, ◌≤◌, ◌<◌, ◌+◌, ◌&&◌, ◌||◌, ◌==◌, ◌∷◌, ◌++◌, ◌∙◌, [], ℕ, suc, Bool, List, true, false, not, length, map, refl, ap, arith, sym, nat_le, nat_lt, Option, Some, None, Result, Ok, Err, OnOk, cond, length-append, append_assoc}
use Rattle.std.specs.Prelude.{if◌then◌else◌}
use Rattle.std.specs.List.{flat_map, list_all}
use Rattle.std.proofs.lemmas.Bool.{and_from, and_parts, eq-eqb, le-leb, leb-true, lt-ltb}
use Rattle.std.proofs.lemmas.List.{append-nil, length-map, map-append}
use Rattle.std.proofs.lemmas.List.Folds.{list_all-append}
use Rattle.gw_rules.specs.BothWays.{back_of, way_of}
use Rattle.gw_rules.specs.Bounds.{is_within}
use Rattle.gw_rules.specs.Format.{names_stations}
use Rattle.gw_rules.specs.declared.format.Format.{Format}
use Rattle.gw_rules.specs.declared.format.Format.TheVariants as formats
use Rattle.gw_rules.specs.declared.rule.Rule.{Rule}
use Rattle.gw_configuration.specs.Configuration.{are_counted, are_places, is_configurable}
use Rattle.gw_policy_text.specs.declared.written.Written.{Written}
use Rattle.gw_policy_text.specs.Policy.{Listing, audits_for, audits_of, back_for, listing_of, notes_for, notes_of, or_none, others_of, rules_of, stands_for, tables_from, way_for}
use Rattle.gw_policy_text.specs.internal.Listing.{has_names, has_networks, is_listable, is_plain_written, with_other, with_rule, with_written}
use Rattle.gw_policy_text.proofs.Joined.{back_configurable, way_configurable}

-- one written rule more

flat_more : {A B : Type 0} (f : A → List B) (xs : List A) (x : A) → flat_map f (xs ++ x ∷ []) ≡ flat_map f xs ++ f x
flat_more f [] x = append-nil (f x)
flat_more f (first ∷ xs) x = ap (λ ys. f first ++ ys) (flat_more f xs x) ∙ sym (simp append_assoc)

tables_more : (from : ℕ) (ws : List Written) (w : Written) → tables_from from (ws ++ w ∷ []) ≡ tables_from from ws ++ map (λ rule. from + length ws) (stands_for w)
tables_more from [] w =
    append-nil (map (λ rule. from) (stands_for w)) ∙ ap (λ (k : ℕ). map (λ rule. k) (stands_for w)) (plus from)
  where
    plus : (n : ℕ) → n ≡ n + 0
    plus n = omega arith
tables_more from (first ∷ ws) w =
    ap (λ ys. map (λ rule. from) (stands_for first) ++ ys) (tables_more (from + 1) ws w)
    ∙ sym (simp append_assoc)
    ∙ ap (λ (k : ℕ). (map (λ rule. from) (stands_for first) ++ tables_from (from + 1) ws) ++ map (λ rule. k) (stands_for w)) (plus from (length ws))
  where
    plus : (n m : ℕ) → (n + 1) + m ≡ n + suc m
    plus n m = omega arith

pub listing_more : (ws : List Written) (w : Written) (table : ℕ) → length ws ≡ table → listing_of (ws ++ w ∷ []) ≡ with_written table w (listing_of ws)
listing_more ws w table count =
    let place : 0 + length ws ≡ table = omega (arith, count) in
    let tables : tables_from 0 (ws ++ w ∷ []) ≡ tables_from 0 ws ++ map (λ rule. table) (stands_for w) =
    tables_more 0 ws w ∙ ap (λ (k : ℕ). tables_from 0 ws ++ map (λ rule. k) (stands_for w)) place in
    rw (flat_more stands_for ws w, tables, flat_more notes_for ws w, flat_more audits_for ws w) refl

-- what is added one after the other

other_added : (table : ℕ) (o : Option Rule) (l : Listing) → with_other table o l ≡ record { rules = l.rules ++ or_none o; tables = l.tables ++ map (λ rule. table) (or_none o); notes = l.notes ++ map (λ rule. []) (or_none o); audits = l.audits ++ map (λ rule. false) (or_none o) }
other_added table None l = rw (append-nil l.rules, append-nil l.tables, append-nil l.notes, append-nil l.audits) refl
other_added table (Some rule) l = refl

joined : {A : Type 0} (a : List A) (x : A) (b c : List A) → ((a ++ x ∷ []) ++ b) ++ c ≡ a ++ (x ∷ (b ++ c))
joined a x b c = simp append_assoc

mapped : {A B : Type 0} (f : A → B) (a : List B) (x : B) (b c : List A) → ((a ++ x ∷ []) ++ map f b) ++ map f c ≡ a ++ (x ∷ map f (b ++ c))
mapped f a x b c = joined a x (map f b) (map f c) ∙ ap (λ ys. a ++ (x ∷ ys)) (sym (map-append f b c))

pub written_added : (table : ℕ) (w : Written) (l one two three : Listing) (way back : Option Rule) → w.enabled ≡ true → way ≡ way_for w → back ≡ back_for w
    → one ≡ with_rule table w.note w.audit w.rule l → two ≡ with_other table way one → three ≡ with_other table back two → three ≡ with_written table w l
written_added table w l one two three way back enabled is_way is_back first second third =
    let stands : stands_for w ≡ w.rule ∷ (or_none way ++ or_none back) = rw (enabled, is_way, is_back) refl in
    let noted : notes_for w ≡ w.note ∷ map (λ rule. []) (or_none way ++ or_none back) = rw (enabled, is_way, is_back) refl in
    let audited : audits_for w ≡ w.audit ∷ map (λ rule. false) (or_none way ++ or_none back) = rw (enabled, is_way, is_back) refl in
    third ∙ ap (with_other table back) (second ∙ ap (with_other table way) first)
    ∙ other_added table back (with_other table way (with_rule table w.note w.audit w.rule l))
    ∙ ap (λ (m : Listing). record { rules = m.rules ++ or_none back; tables = m.tables ++ map (λ rule. table) (or_none back); notes = m.notes ++ map (λ rule. []) (or_none back); audits = m.audits ++ map (λ rule. false) (or_none back) })
    (other_added table way (with_rule table w.note w.audit w.rule l))
    ∙ rw (stands, noted, audited, joined l.rules w.rule (or_none way) (or_none back), mapped (λ (rule : Rule). table) l.tables table (or_none way) (or_none back), mapped (λ (rule : Rule). []) l.notes w.note (or_none way) (or_none back), mapped (λ (rule : Rule). false) l.audits w.audit (or_none way) (or_none back)) refl

-- what holds of a result that is there
pub onward : {T F : Type 0} {P Q : Type 0} (result : Result T F) → (P → Q) → OnOk result P → OnOk result Q
onward (Ok done) f p = f p
onward (Err fault) f p = p

-- as many of each

pub notes_counted : (w : Written) → length (notes_for w) ≡ length (stands_for w)
notes_counted w = on w.enabled
  where
    on : (b : Bool) → length (if b then (w.note ∷ map (λ rule. []) (others_of w)) else []) ≡ length (if b then (w.rule ∷ others_of w) else [])
    on true = ap suc (length-map (others_of w) (λ rule. []))
    on false = refl

pub audits_counted : (w : Written) → length (audits_for w) ≡ length (stands_for w)
audits_counted w = on w.enabled
  where
    on : (b : Bool) → length (if b then (w.audit ∷ map (λ rule. false) (others_of w)) else []) ≡ length (if b then (w.rule ∷ others_of w) else [])
    on true = ap suc (length-map (others_of w) (λ rule. false))
    on false = refl

pub flat_counted : {B C : Type 0} (f : Written → List B) (g : Written → List C) → ((w : Written) → length (f w) ≡ length (g w)) → (ws : List Written) → length (flat_map f ws) ≡ length (flat_map g ws)
flat_counted f g same [] = refl
flat_counted f g same (w ∷ ws) =
    length-append (f w) (flat_map f ws) ∙ rw (same w, flat_counted f g same ws) (sym (length-append (g w) (flat_map g ws)))

pub tables_counted : (from : ℕ) (ws : List Written) → length (tables_from from ws) ≡ length (rules_of ws)
tables_counted from [] = refl
tables_counted from (w ∷ ws) =
    length-append (map (λ rule. from) (stands_for w)) (tables_from (from + 1) ws)
    ∙ rw (length-map (stands_for w) (λ (rule : Rule). from), tables_counted (from + 1) ws) (sym (length-append (stands_for w) (rules_of ws)))

-- each can be configured

or_none_all : (test : Rule → Bool) (o : Option Rule) → ((rule : Rule) → o ≡ Some rule → test rule ≡ true) → list_all test (or_none o) ≡ true
or_none_all test None so = refl
or_none_all test (Some rule) so = rw (so rule refl) refl

stands_configurable : (format : Format) (w : Written) → is_listable format w ≡ true → list_all (is_configurable format) (stands_for w) ≡ true
stands_configurable format w can = on w.enabled
  where
    first : (is_configurable format w.rule ≡ true) × ((has_names w && (has_networks format w && (names_stations format || is_plain_written w))) ≡ true)
    first = and_parts (is_configurable format w.rule) (has_names w && (has_networks format w && (names_stations format || is_plain_written w))) can

    second : (has_names w ≡ true) × ((has_networks format w && (names_stations format || is_plain_written w)) ≡ true)
    second = and_parts (has_names w) (has_networks format w && (names_stations format || is_plain_written w)) first.1

    third : (has_networks format w ≡ true) × ((names_stations format || is_plain_written w) ≡ true)
    third = and_parts (has_networks format w) (names_stations format || is_plain_written w) second.1

    networks_of : (f : Format) (rule : Rule) → (names_stations f && list_all (is_within (record { low = 1; high = 65534 })) rule.ranges.destination_network) ≡ true
        → is_configurable f rule ≡ true → (is_configurable f (back_of rule) ≡ true) × ((way : Rule) → way_of rule ≡ Some way → is_configurable f way ≡ true)
    networks_of formats.One rule e c = absurd cc
    networks_of formats.Two rule e c = absurd cc
    networks_of formats.Three rule e c = (back_configurable rule c e, λ way is. way_configurable rule way c is)

    others : (both : Bool) → (not both || (names_stations format && list_all (is_within (record { low = 1; high = 65534 })) w.rule.ranges.destination_network)) ≡ true
        → list_all (is_configurable format) (or_none (if both then way_of w.rule else None) ++ or_none (if both then Some (back_of w.rule) else None)) ≡ true
    others false e = refl
    others true e =
        let so = networks_of format w.rule e first.0 in
        list_all-append (is_configurable format) (or_none (way_of w.rule)) (back_of w.rule ∷ [])
        ∙ rw (or_none_all (is_configurable format) (way_of w.rule) so.1, so.0) refl

    on : (b : Bool) → list_all (is_configurable format) (if b then (w.rule ∷ others_of w) else []) ≡ true
    on true = and_from (is_configurable format w.rule) (list_all (is_configurable format) (others_of w)) first.0 (others w.both_ways third.0)
    on false = refl

pub list_configurable : (format : Format) (ws : List Written) → list_all (is_listable format) ws ≡ true → list_all (is_configurable format) (rules_of ws) ≡ true
list_configurable format [] can = refl
list_configurable format (w ∷ ws) can =
    let parts = and_parts (is_listable format w) (list_all (is_listable format) ws) can in
    list_all-append (is_configurable format) (stands_for w) (rules_of ws)
    ∙ rw (stands_configurable format w parts.0, list_configurable format ws parts.1) refl

pub named : (format : Format) (w : Written) → is_listable format w ≡ true → has_names w ≡ true
named format w can =
    let first = and_parts (is_configurable format w.rule) (has_names w && (has_networks format w && (names_stations format || is_plain_written w))) can in
    (and_parts (has_names w) (has_networks format w && (names_stations format || is_plain_written w)) first.1).0

-- their tables are in order

repeated : (written least place : ℕ) (rules : List Rule) (rest : List ℕ) → least ≤ place → place < written
    → ((low : ℕ) → low ≤ place → are_places written low rest ≡ true) → are_places written least (map (λ rule. place) rules ++ rest) ≡ true
repeated written least place [] rest low within so = so least low
repeated written least place (rule ∷ rules) rest low within so =
    rw (le-leb least place low, lt-ltb place written within, repeated written place place rules rest (omega arith) within so) refl

pub in_order : (written least from : ℕ) (ws : List Written) → least ≤ from → from + length ws ≤ written → are_places written least (tables_from from ws) ≡ true
in_order written least from [] low fits = refl
in_order written least from (w ∷ ws) low fits =
    repeated written least from (stands_for w) (tables_from (from + 1) ws) low (omega (arith, fits))
    (λ l under. in_order written l (from + 1) ws (omega (arith, under)) (omega (arith, fits)))

-- in formats 1 and 2 each stands for itself

pub record IsAlone (w : Written) : Type 0 where
  pub rules : stands_for w ≡ w.rule ∷ []
  pub notes : notes_for w ≡ w.note ∷ []
  pub audits : audits_for w ≡ w.audit ∷ []
  pub loud : not w.rule.quiet ≡ true
  pub unnoted : (length w.note == 0) ≡ true
  pub unaudited : not w.audit ≡ true

not_true : (b : Bool) → not b ≡ true → b ≡ false
not_true true e = absurd cc
not_true false e = refl

pub alone : (w : Written) → is_plain_written w ≡ true → IsAlone w
alone w plain =
    let one = and_parts w.enabled (not w.both_ways && (not w.rule.quiet && ((length w.note == 0) && not w.audit))) plain in
    let two = and_parts (not w.both_ways) (not w.rule.quiet && ((length w.note == 0) && not w.audit)) one.1 in
    let three = and_parts (not w.rule.quiet) ((length w.note == 0) && not w.audit) two.1 in
    let four = and_parts (length w.note == 0) (not w.audit) three.1 in
    let single : w.both_ways ≡ false = not_true w.both_ways two.0 in
    record { rules = rw (one.0, single) refl; notes = rw (one.0, single) refl; audits = rw (one.0, single) refl; loud = three.0; unnoted = four.0; unaudited = four.1 }

pub plain_parts : (format : Format) → names_stations format ≡ false → (w : Written) → is_listable format w ≡ true → is_plain_written w ≡ true
plain_parts format other w can =
    let first = and_parts (is_configurable format w.rule) (has_names w && (has_networks format w && (names_stations format || is_plain_written w))) can in
    let second = and_parts (has_names w) (has_networks format w && (names_stations format || is_plain_written w)) first.1 in
    let third = and_parts (has_networks format w) (names_stations format || is_plain_written w) second.1 in
    ap (λ (b : Bool). b || is_plain_written w) (sym other) ∙ third.1

-- so the whole list has nothing that they don't have
pub record IsPlainList (from : ℕ) (ws : List Written) : Type 0 where
  pub loud : list_all (λ rule. not rule.quiet) (rules_of ws) ≡ true
  pub unnoted : list_all (λ note. length note == 0) (notes_of ws) ≡ true
  pub unaudited : list_all not (audits_of ws) ≡ true
  pub count : length (tables_from from ws) ≡ length ws
  pub counted : are_counted from (tables_from from ws) ≡ true

pub plain_list : (from : ℕ) (ws : List Written) → list_all is_plain_written ws ≡ true → IsPlainList from ws
plain_list from [] all = record { loud = refl; unnoted = refl; unaudited = refl; count = refl; counted = refl }
plain_list from (w ∷ ws) all =
    let parts = and_parts (is_plain_written w) (list_all is_plain_written ws) all in
    let here = alone w parts.0 in
    let later = plain_list (from + 1) ws parts.1 in
    let same : (from == from) ≡ true = eq-eqb from from refl in
    record {
      loud = rw (here.rules, here.loud, later.loud) refl;
      unnoted = rw (here.notes, here.unnoted, later.unnoted) refl;
      unaudited = rw (here.audits, here.unaudited, later.unaudited) refl;
      count = rw (here.rules, later.count) refl;
      counted = rw (here.rules, same, later.counted) refl;
    }

pub all_plain : (format : Format) → names_stations format ≡ false → (ws : List Written) → list_all (is_listable format) ws ≡ true → list_all is_plain_written ws ≡ true
all_plain format other [] can = refl
all_plain format other (w ∷ ws) can =
    let parts = and_parts (is_listable format w) (list_all (is_listable format) ws) can in
    rw (plain_parts format other w parts.0, all_plain format other ws parts.1) refl
