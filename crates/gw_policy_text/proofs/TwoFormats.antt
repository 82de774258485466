-- Texts of formats 1 and 2 are read as where there is no third.
use Rattle.std.proofs.Common.{◌≡◌, ◌≢◌, ◌≤◌, ◌<◌, ◌+◌, ◌++◌, ◌&&◌, ◌||◌, ◌∷◌, ◌∙◌, ℕ, zero, suc, [], Bool, true, false, List, Option, Some, None, Result, Ok, Err, ap, arith, codes, if◌then◌else◌, length, map, nat_le, nat_lt, refl, sym}
use Rattle.std.specs.Prelude.{ℤ, pos, negsuc, is_some}
use Rattle.std.specs.Option.{ok_or, option_map}
use Rattle.std.specs.Result.{result_err}
use Rattle.std.proofs.lemmas.Bool.{lt-leb}
use Rattle.std.proofs.lemmas.List.{append-nil}
use Rattle.toml.specs.Data.{Data, Members, no_members, member, as_integer, get_member}
use Rattle.gw_addr.specs.Reading.{◌>>=◌}
use Rattle.gw_addr.specs.declared.TheConstants.{MAX_PORTS}
use Rattle.gw_rules.specs.declared.format.Format.{Format}
use Rattle.gw_rules.specs.declared.format.Format.TheVariants as formats
use Rattle.gw_rules.specs.declared.rule.Rule.{Rule}
use Rattle.gw_rules.specs.Format.{names_stations}
use Rattle.gw_configuration.specs.declared.fault.ConfigFault.{ConfigFault}
use Rattle.gw_configuration.specs.declared.fault.ConfigFault.TheVariants.{Kind, Missing, Range, TooMany, UnknownKey}
use Rattle.gw_configuration.specs.declared.fault.ConfigFault.TheVariants as faults
use Rattle.gw_configuration.specs.declared.located.Place.TheVariants.{Top}
use Rattle.gw_configuration.specs.declared.shape.Scalar.TheVariants.{Table}
use Rattle.gw_configuration.specs.declared.shape.Shape.TheVariants.{One}
use Rattle.gw_configuration.specs.Configuration.{Configuration, format_of}
use Rattle.gw_configuration.specs.Duplicates.{unique}
use Rattle.gw_configuration.specs.Located.{Find, Located, Read, at_key, of_text, unless, whole}
use Rattle.gw_policy_text.specs.keys.Field.{Field, at_field, fault_of, fault_where, field_fault, field_with, has, is_key, is_this, item_of, item_with, located_as, located_beside, located_in, position_in, stranger}
use Rattle.gw_policy_text.specs.keys.Range.{is_kind, is_missing, is_range, is_too_many}
use Rattle.gw_policy_text.specs.keys.Tables.{common_rule_fields, common_top_fields, format_in, format_read, may, needs, number, tables, top_fields}
use Rattle.gw_policy_text.specs.keys.Value.{list_in, natural_within, number_in, reading, table_in}
use Rattle.gw_policy_text.specs.Document.{configuration_of, document, located_configuration, parts_of, parts_of_format}
use Rattle.gw_policy_text.specs.Parts.{announce_at, each_at, list_at, number_at, port_in, ports_at}
use Rattle.gw_configuration.specs.declared.policing.Policing.{Policing}
use Rattle.gw_configuration.specs.declared.located.Place.TheVariants as places
use Rattle.gw_policy_text.specs.declared.written.Written.{Written}
use Rattle.gw_policy_text.specs.Policy.{Listing, audits_of, crowd, listing_at, listing_of, notes_of, policy_at, policy_of, rule_in, rule_of, rules_behind, rules_of, tables_from, written_parts}
use Rattle.gw_policy_text.specs.TwoFormats as two
use Rattle.gw_policy_text.proofs.EachAt.{regroup, with_front}

-- steps that come to the same
bind_same : {A B F : Type 0} (r : Result A F) (f g : A → Result B F) → ((x : A) → f x ≡ g x) → (r >>= f) ≡ (r >>= g)
bind_same (Ok x) f g same = same x
bind_same (Err e) f g same = refl

each_at_same : {A : Type 0} (f g : ℕ → Data → Find A) → ((k : ℕ) (v : Data) → f k v ≡ g k v) → (k : ℕ) (vs : List Data) → each_at f k vs ≡ each_at g k vs
each_at_same f g same k [] = refl
each_at_same f g same k (v ∷ vs) = rw (same k v, each_at_same f g same (k + 1) vs) refl

-- a port

same_port : (format : Format) → names_stations format ≡ false → (k : ℕ) (v : Data) → port_in format k v ≡ two.port_in k v
same_port formats.One other k v = refl
same_port formats.Two other k v = refl
same_port formats.Three other k v = absurd (cc)

-- a rule, which stands for itself

plain : Rule → Written
plain rule = record { rule = rule; note = []; audit = false; enabled = true; both_ways = false }

abbrev read_plain : Format → ℕ → Data → Find Written
read_plain format k v = two.rule_in format k v >>= λ rule. Ok (plain rule)

push : (found : Option Located) (reading : Read Rule) → unless found (whole (reading >>= λ rule. Ok (plain rule))) ≡ (unless found (whole reading) >>= λ rule. Ok (plain rule))
push (Some located) reading = refl
push None (Ok rule) = refl
push None (Err fault) = refl

rule_parts_one : (table : Members) → written_parts formats.One [] table ≡ (two.rule_parts formats.One table >>= λ rule. Ok (plain rule))
unfolding plain
rule_parts_one table = refl

rule_parts_two : (table : Members) → written_parts formats.Two [] table ≡ (two.rule_parts formats.Two table >>= λ rule. Ok (plain rule))
unfolding plain
rule_parts_two table = refl

same_rule : (format : Format) → names_stations format ≡ false → (k : ℕ) (v : Data) → rule_in format [] k v ≡ read_plain format k v
unfolding rule_of
same_rule formats.One other k v = on (table_in v)
  where
    on : (read : Read Members) → (whole read >>= rule_of formats.One [] k) ≡ ((whole read >>= λ table. unless (located_in (places.Rule k) (common_rule_fields formats.One) table) (whole (two.rule_parts formats.One table))) >>= λ rule. Ok (plain rule))
    on (Err fault) = refl
    on (Ok table) =
        ap (λ (r : Read Written). unless (located_in (places.Rule k) (common_rule_fields formats.One) table) (whole r)) (rule_parts_one table)
        ∙ push (located_in (places.Rule k) (common_rule_fields formats.One) table) (two.rule_parts formats.One table)
same_rule formats.Two other k v = on (table_in v)
  where
    on : (read : Read Members) → (whole read >>= rule_of formats.Two [] k) ≡ ((whole read >>= λ table. unless (located_in (places.Rule k) (common_rule_fields formats.Two) table) (whole (two.rule_parts formats.Two table))) >>= λ rule. Ok (plain rule))
    on (Err fault) = refl
    on (Ok table) =
        ap (λ (r : Read Written). unless (located_in (places.Rule k) (common_rule_fields formats.Two) table) (whole r)) (rule_parts_two table)
        ∙ push (located_in (places.Rule k) (common_rule_fields formats.Two) table) (two.rule_parts formats.Two table)
same_rule formats.Three other k v = absurd (cc)

no_crowd : (format : Format) → names_stations format ≡ false → (k : ℕ) (rules : List Rule) → crowd format k rules ≡ None
no_crowd format other k rules = rw other refl

same_rules : (format : Format) → names_stations format ≡ false → (before : List Written) (k : ℕ) (vs : List Data) → rules_behind format [] before k vs ≡ with_front before (each_at (read_plain format) k vs)
same_rules format other before k [] = ap (λ rules. Ok rules) (sym (append-nil before))
same_rules format other before k (v ∷ vs) =
    ap (λ (r : Find Written). r >>= next) (same_rule format other k v) ∙ step (λ (b : List Written). same_rules format other b (k + 1) vs) (read_plain format k v)
  where
    next : Written → Find (List Written)
    next r = unless (crowd format k (rules_of (before ++ r ∷ []))) (rules_behind format [] (before ++ r ∷ []) (k + 1) vs)

    step : ((b : List Written) → rules_behind format [] b (k + 1) vs ≡ with_front b (each_at (read_plain format) (k + 1) vs))
        → (read : Find Written) → (read >>= next) ≡ with_front before (read >>= λ first. each_at (read_plain format) (k + 1) vs >>= λ others. Ok (first ∷ others))
    step later (Err e) = refl
    step later (Ok r) =
        ap (λ (c : Option Located). unless c (rules_behind format [] (before ++ r ∷ []) (k + 1) vs)) (no_crowd format other k (rules_of (before ++ r ∷ [])))
        ∙ later (before ++ r ∷ []) ∙ sym (regroup before r (each_at (read_plain format) (k + 1) vs))

no_front : {A : Type 0} (reading : Find (List A)) → with_front [] reading ≡ reading
no_front (Ok xs) = refl
no_front (Err e) = refl

each_plain : (f : ℕ → Data → Find Rule) (k : ℕ) (vs : List Data) → each_at (λ k v. f k v >>= λ rule. Ok (plain rule)) k vs ≡ (each_at f k vs >>= λ rules. Ok (map plain rules))
each_plain f k [] = refl
each_plain f k (v ∷ vs) = by (f k v) (each_plain f (k + 1) vs)
  where
    later : (r : Rule) (reading : Find (List Rule)) → ((reading >>= λ rules. Ok (map plain rules)) >>= λ others. Ok (plain r ∷ others)) ≡ ((reading >>= λ others. Ok (r ∷ others)) >>= λ rules. Ok (map plain rules))
    later r (Ok rules) = refl
    later r (Err e) = refl

    by : (first : Find Rule) → each_at (λ k v. f k v >>= λ rule. Ok (plain rule)) (k + 1) vs ≡ (each_at f (k + 1) vs >>= λ rules. Ok (map plain rules))
        → ((first >>= λ rule. Ok (plain rule)) >>= λ one. each_at (λ k v. f k v >>= λ rule. Ok (plain rule)) (k + 1) vs >>= λ others. Ok (one ∷ others))
        ≡ ((first >>= λ one. each_at f (k + 1) vs >>= λ others. Ok (one ∷ others)) >>= λ rules. Ok (map plain rules))
    by (Err e) same = refl
    by (Ok r) same = ap (λ (x : Find (List Written)). x >>= λ others. Ok (plain r ∷ others)) same ∙ later r (each_at f (k + 1) vs)

-- the list

abbrev plain_listing : List Rule → Listing
plain_listing rules = record { rules = rules; tables = two.positions 0 rules; notes = two.no_notes rules; audits = two.no_audits rules }

rules_plain : (rules : List Rule) → rules_of (map plain rules) ≡ rules
unfolding plain
rules_plain [] = refl
rules_plain (r ∷ rs) = ap (λ xs. r ∷ xs) (rules_plain rs)

tables_plain : (from : ℕ) (rules : List Rule) → tables_from from (map plain rules) ≡ two.positions from rules
unfolding plain
tables_plain from [] = refl
tables_plain from (r ∷ rs) = ap (λ xs. from ∷ xs) (tables_plain (from + 1) rs)

notes_plain : (rules : List Rule) → notes_of (map plain rules) ≡ two.no_notes rules
unfolding plain
notes_plain [] = refl
notes_plain (r ∷ rs) = ap (λ xs. [] ∷ xs) (notes_plain rs)

audits_plain : (rules : List Rule) → audits_of (map plain rules) ≡ two.no_audits rules
unfolding plain
audits_plain [] = refl
audits_plain (r ∷ rs) = ap (λ xs. false ∷ xs) (audits_plain rs)

listing_plain : (rules : List Rule) → listing_of (map plain rules) ≡ plain_listing rules
listing_plain rules = rw (rules_plain rules, tables_plain 0 rules, notes_plain rules, audits_plain rules) refl

same_listing : (format : Format) → names_stations format ≡ false → (vs : List Data) → listing_at format [] vs ≡ (each_at (two.rule_in format) 0 vs >>= λ rules. Ok (plain_listing rules))
same_listing format other vs =
    ap (λ (r : Find (List Written)). r >>= λ all. Ok (listing_of all))
    (same_rules format other [] 0 vs ∙ no_front (each_at (read_plain format) 0 vs) ∙ each_plain (two.rule_in format) 0 vs)
    ∙ by (each_at (two.rule_in format) 0 vs)
  where
    by : (read : Find (List Rule)) → ((read >>= λ rules. Ok (map plain rules)) >>= λ all. Ok (listing_of all)) ≡ (read >>= λ rules. Ok (plain_listing rules))
    by (Ok rules) = ap (λ (l : Listing). Ok l) (listing_plain rules)
    by (Err e) = refl

-- the policy

abbrev with_listing : Format → List Data → Listing → Find Policing
with_listing format tables listing =
    whole (policy_of format listing.rules) >>= λ rules.
    Ok (record { rules = rules; tables = listing.tables; notes = listing.notes; audits = listing.audits; written = length tables; sets = []; assertions = [] })

-- of format 1 or 2 there are no sets and no assertions
abbrev policy_without_sets : Format → Members → Find Policing
policy_without_sets format top =
    whole (list_at 0 512 (codes "rule") top) >>= λ tables. listing_at format [] tables >>= with_listing format tables

without_sets : (format : Format) → names_stations format ≡ false → (top : Members) → policy_at format top ≡ policy_without_sets format top
without_sets formats.One other top = refl
without_sets formats.Two other top = refl
without_sets formats.Three other top = absurd (cc)

same_policy_of : (format : Format) → names_stations format ≡ false → (rules : List Rule) → policy_of format rules ≡ two.policy_of rules
same_policy_of formats.One other rules = refl
same_policy_of formats.Two other rules = refl
same_policy_of formats.Three other rules = absurd (cc)

same_policy : (format : Format) → names_stations format ≡ false → (top : Members) → policy_at format top ≡ two.policy_at format top
same_policy format other top =
    without_sets format other top
    ∙ bind_same (whole (list_at 0 512 (codes "rule") top)) _ _ (λ tables.
    ap (λ (r : Find Listing). r >>= with_listing format tables) (same_listing format other tables)
    ∙ by tables (each_at (two.rule_in format) 0 tables))
  where
    by : (tables : List Data) (read : Find (List Rule)) → ((read >>= λ rules. Ok (plain_listing rules)) >>= with_listing format tables)
        ≡ (read >>= λ rules. whole (two.policy_of rules) >>= λ kept. Ok (record { rules = kept; tables = two.positions 0 rules; notes = two.no_notes rules; audits = two.no_audits rules; written = length tables; sets = []; assertions = [] }))
    by tables (Err e) = refl
    by tables (Ok rules) =
        ap (λ (r : Read (List Rule)). whole r >>= λ kept. Ok (record { rules = kept; tables = two.positions 0 rules; notes = two.no_notes rules; audits = two.no_audits rules; written = length tables; sets = []; assertions = [] })) (same_policy_of format other rules)

same_ports : (format : Format) → names_stations format ≡ false → (top : Members) → ports_at format (codes "port") top ≡ two.ports_at top
same_ports format other top =
    bind_same (whole (list_at 1 MAX_PORTS (codes "port") top)) _ _ (λ vs. each_at_same (port_in format) two.port_in (same_port format other) 0 vs)

silent : (format : Format) → names_stations format ≡ false → (top : Members) → announce_at format (codes "announce") top ≡ Ok false
silent format other top = rw other refl

same_parts : (format : Format) → names_stations format ≡ false → (top : Members) → parts_of_format format top ≡ two.parts_of_format format top
same_parts format other top = rw (silent format other top, same_ports format other top, same_policy format other top) refl

-- the format

above : (n limit : ℕ) → limit ≤ 3 → nat_le (suc (suc (suc (suc n)))) limit ≡ false
above n limit few = lt-leb (suc (suc (suc (suc n)))) limit (omega (arith, few))

-- the number of another format than the third is 1 or 2
within : (n : ℕ) → names_stations (format_read (ok_or (natural_within 1 3 (pos n)) Range)) ≡ false → natural_within 1 3 (pos n) ≡ natural_within 1 2 (pos n)
within zero other = refl
within (suc zero) other = refl
within (suc (suc zero)) other = refl
within (suc (suc (suc zero))) other = absurd (cc)
within (suc (suc (suc (suc n)))) other = rw (above n 3 (omega arith), above n 2 (omega arith)) refl

read_within : (found : Option ℤ) → names_stations (format_read (reading (natural_within 1 3) found)) ≡ false → reading (natural_within 1 3) found ≡ reading (natural_within 1 2) found
read_within None other = refl
read_within (Some (pos n)) other = ap (λ (m : Option ℕ). ok_or m Range) (within n other)
read_within (Some (negsuc n)) other = refl

-- what is read at the key of the format
read_at : (value : Option Data) → names_stations (format_read (ok_or value Kind >>= number_in 1 3)) ≡ false → (ok_or value Missing >>= number_in 1 3) ≡ (ok_or value Missing >>= number_in 1 2)
read_at None other = refl
read_at (Some v) other = read_within (as_integer v) other

fault_at : (value : Option Data) → names_stations (format_read (ok_or value Kind >>= number_in 1 3)) ≡ false
    → fault_where [] (needs (codes "format") (number 1 3)) value ≡ fault_where [] (needs (codes "format") (number 1 2)) value
fault_at None other = refl
fault_at (Some v) other = ap (λ (r : Read ℕ). result_err r) (read_within (as_integer v) other)

-- the format that is read isn't the third
read_other : (value : Option Data) → names_stations (format_read (ok_or value Kind >>= number_in 1 3)) ≡ false → (number : ℕ) → (ok_or value Missing >>= number_in 1 3) ≡ Ok number → names_stations (format_of number) ≡ false
read_other None other n is = absurd (cc)
read_other (Some v) other n is = ap (λ (r : Read ℕ). names_stations (format_read r)) (sym is) ∙ other

-- the tables after the format
parts_of_read : (top : Members) (read : Read ℕ) → ((number : ℕ) → read ≡ Ok number → names_stations (format_of number) ≡ false)
    → (whole (read >>= λ number. Ok (format_of number)) >>= λ format. parts_of_format format top) ≡ (whole read >>= λ number. two.parts_of_format (format_of number) top)
parts_of_read top (Ok n) other = same_parts (format_of n) (other n refl) top
parts_of_read top (Err e) other = refl

same_parts_of : (top : Members) → names_stations (format_in top) ≡ false → parts_of top ≡ two.parts_of top
same_parts_of top other =
    parts_of_read top (number_at 1 3 (codes "format") top) (read_other (get_member (codes "format") top) other)
    ∙ ap (λ (r : Read ℕ). whole r >>= λ number. two.parts_of_format (format_of number) top) (read_at (get_member (codes "format") top) other)

-- the top table

same_stranger : (top : Members) → stranger common_top_fields top ≡ stranger two.top_fields top
same_stranger no_members = refl
same_stranger (member key value members) = ap (λ (s : Option (List ℕ)). if is_key two.top_fields key then s else Some key) (same_stranger members)

-- the other fields
abbrev others : List Field
others =
    needs (codes "device") (One Table)
    ∷ needs (codes "port") (tables 1 MAX_PORTS)
    ∷ may (codes "route") (tables 0 512)
    ∷ may (codes "object") (tables 0 256)
    ∷ may (codes "rule") (tables 0 512)
    ∷ []

-- the fault of the table by that of its first field
abbrev fault_by : Members → Option (List ℕ) → Option ConfigFault → Option ConfigFault
fault_by top strange first =
    if is_some strange then Some UnknownKey
    else if is_missing first || has [] is_missing others top then Some Missing
    else if is_kind first || has [] is_kind others top then Some Kind
    else if is_range first || has [] is_range others top then Some Range
    else if is_too_many first || has [] is_too_many others top then Some TooMany
    else None

same_fault : (top : Members) → names_stations (format_in top) ≡ false → fault_of [] common_top_fields top ≡ fault_of [] two.top_fields top
same_fault top other =
    ap (λ (s : Option (List ℕ)). fault_by top s (field_fault [] top (needs (codes "format") (number 1 3)))) (same_stranger top)
    ∙ ap (fault_by top (stranger two.top_fields top)) (fault_at (get_member (codes "format") top) other)

-- where it is
abbrev blind : Located → Located
blind located = record located { wanted = None }

abbrev with_first : ConfigFault → Members → Field → Option ConfigFault → Located
with_first fault top field first = at_field [] Top fault top (if is_this fault first then Some field else field_with [] fault others top)

-- the format is no list, so no item of it is at fault
same_item : (fault : ConfigFault) (value : Option Data) → item_of [] fault (number 1 3) value ≡ item_of [] fault (number 1 2) value
same_item fault None = refl
same_item fault (Some v) = of_list (list_in v)
  where
    of_items : (f : ConfigFault) (items : List Data) → item_with [] f (number 1 3) items ≡ item_with [] f (number 1 2) items
    of_items faults.Kind items = refl
    of_items faults.Range items = refl
    of_items faults.NotToml items = refl
    of_items faults.UnknownKey items = refl
    of_items faults.Missing items = refl
    of_items faults.TooMany items = refl
    of_items faults.Duplicate items = refl
    of_items faults.Memory items = refl

    of_list : (r : Read (List Data)) → position_in [] fault (number 1 3) r ≡ position_in [] fault (number 1 2) r
    of_list (Ok items) = of_items fault items
    of_list (Err e) = refl

same_first : (fault : ConfigFault) (top : Members) (first : Option ConfigFault)
    → blind (with_first fault top (needs (codes "format") (number 1 3)) first) ≡ blind (with_first fault top (needs (codes "format") (number 1 2)) first)
same_first fault top first = at (is_this fault first)
  where
    at : (here : Bool)
        → blind (at_field [] Top fault top (if here then Some (needs (codes "format") (number 1 3)) else field_with [] fault others top))
        ≡ blind (at_field [] Top fault top (if here then Some (needs (codes "format") (number 1 2)) else field_with [] fault others top))
    at true =
        ap (λ (item : Option ℕ). record { fault = fault; place = Top; key = codes "format"; item = item; wanted = None }) (same_item fault (get_member (codes "format") top))
    at false = refl

same_at : (fault : ConfigFault) (top : Members) → names_stations (format_in top) ≡ false
    → blind (at_field [] Top fault top (field_with [] fault common_top_fields top)) ≡ blind (at_field [] Top fault top (field_with [] fault two.top_fields top))
same_at fault top other =
    same_first fault top (field_fault [] top (needs (codes "format") (number 1 3)))
    ∙ ap (λ (first : Option ConfigFault). blind (with_first fault top (needs (codes "format") (number 1 2)) first)) (fault_at (get_member (codes "format") top) other)

same_located : (fault : ConfigFault) (top : Members) → names_stations (format_in top) ≡ false
    → blind (located_as [] Top common_top_fields top fault) ≡ blind (located_as [] Top two.top_fields top fault)
same_located faults.UnknownKey top other = ap (λ (s : Option (List ℕ)). blind (at_key Top UnknownKey s)) (same_stranger top)
same_located faults.Kind top other = same_at Kind top other
same_located faults.Range top other = same_at Range top other
same_located faults.NotToml top other = same_at faults.NotToml top other
same_located faults.Missing top other = same_at Missing top other
same_located faults.TooMany top other = same_at TooMany top other
same_located faults.Duplicate top other = same_at faults.Duplicate top other
same_located faults.Memory top other = same_at faults.Memory top other

-- the whole

same_keys : (format : Format) → names_stations format ≡ false → top_fields format ≡ common_top_fields
same_keys formats.One other = refl
same_keys formats.Two other = refl
same_keys formats.Three other = absurd (cc)

by_fault : (top : Members) → names_stations (format_in top) ≡ false → (found : Option ConfigFault)
    → two.without_wanted (unless (option_map (located_as [] Top common_top_fields top) found) (parts_of top >>= unique))
    ≡ two.without_wanted (unless (option_map (located_as [] Top two.top_fields top) found) (two.parts_of top >>= unique))
by_fault top other None = ap (λ (r : Find Configuration). two.without_wanted (r >>= unique)) (same_parts_of top other)
by_fault top other (Some fault) = ap (λ (l : Located). Err l) (same_located fault top other)

kept_in : (top : Members) → names_stations (format_in top) ≡ false → two.without_wanted (configuration_of top) ≡ two.without_wanted (two.configuration_of top)
unfolding configuration_of two.configuration_of located_beside
kept_in top other =
    ap (λ (fields : List Field). two.without_wanted (unless (located_beside [] Top fields top) (parts_of top >>= unique))) (same_keys (format_in top) other)
    ∙ by_fault top other (fault_of [] common_top_fields top)
    ∙ ap (λ (found : Option ConfigFault). two.without_wanted (unless (option_map (located_as [] Top two.top_fields top) found) (two.parts_of top >>= unique))) (same_fault top other)

by_document : (long : Bool) (read : Read Members) → two.is_third_in read ≡ false
    → two.without_wanted (if long then Err (of_text TooMany) else (whole read >>= configuration_of))
    ≡ two.without_wanted (if long then Err (of_text TooMany) else (whole read >>= two.configuration_of))
by_document true read other = refl
by_document false (Ok top) other = kept_in top other
by_document false (Err e) other = refl

pub kept : two.TwoFormatsAreKept
kept text other = by_document (nat_lt 1048576 (length text)) (document text) other
