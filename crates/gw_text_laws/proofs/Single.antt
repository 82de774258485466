-- Texts whose rules have none of the three keys, and that assert nothing, are read as where there are no such keys.
use Rattle.std.proofs.Common.{◌≡◌, ◌&&◌, ◌++◌, ◌∷◌, ◌∙◌, ◌+◌, ℕ, [], Bool, true, false, not, List, Option, Some, None, Ok, Err, ap, codes, if◌then◌else◌, length, map, nat_lt, refl}
use Rattle.std.specs.Prelude.{is_some}
use Rattle.std.specs.List.{list_all}
use Rattle.std.proofs.lemmas.Bool.{and_parts}
use Rattle.toml.specs.Data.{Data, Members, get_member}
use Rattle.gw_addr.specs.Reading.{◌>>=◌}
use Rattle.gw_rules.specs.declared.fields.Fields.{Fields}
use Rattle.gw_rules.specs.declared.format.Format.{Format}
use Rattle.gw_rules.specs.declared.format.Format.TheVariants as formats
use Rattle.gw_rules.specs.declared.range.Range.{Range}
use Rattle.gw_rules.specs.declared.rule.Rule.{Rule}
use Rattle.gw_configuration.specs.declared.fault.ConfigFault.TheVariants as faults
use Rattle.gw_configuration.specs.declared.located.Place.TheVariants as places
use Rattle.gw_configuration.specs.declared.policing.Policing.{Policing}
use Rattle.gw_configuration.specs.declared.set.Set.{Set}
use Rattle.gw_configuration.specs.declared.shape.Naming.TheVariants as namings
use Rattle.gw_configuration.specs.declared.shape.Scalar.TheVariants.{Boolean}
use Rattle.gw_configuration.specs.declared.shape.Shape.TheVariants.{One}
use Rattle.gw_configuration.specs.Configuration.{Configuration}
use Rattle.gw_configuration.specs.Duplicates.{unique}
use Rattle.gw_configuration.specs.Located.{Find, Located, Read, of_text, unless, whole}
use Rattle.gw_policy_text.specs.declared.written.Written.{Written}
use Rattle.gw_policy_text.specs.keys.Field.{located_beside}
use Rattle.gw_policy_text.specs.keys.Tables as keys
use Rattle.gw_policy_text.specs.keys.Tables.{format_in, is_both_ways, quiet_for}
use Rattle.gw_policy_text.specs.keys.Value.{table_in}
use Rattle.gw_policy_text.specs.Document as whole_text
use Rattle.gw_policy_text.specs.OneEach.{lacks, lacks_in, lacks_three}
use Rattle.gw_policy_text.specs.Parts.{each_at, format_at, list_or, within}
use Rattle.gw_policy_text.specs.Policy as now
use Rattle.gw_policy_text.specs.Policy.{boolean_at, crowd, fields_of, flag_at, long_tables, note_at, rule_name_at, set_in}
use Rattle.gw_text_laws.specs.SingleRules as before
use Rattle.gw_text_laws.specs.SingleRules.{Noted}
use Rattle.gw_text_laws.proofs.Fields.{located_more, missed}

none_of : (o : Option Data) → not (is_some o) ≡ true → o ≡ None
none_of None e = refl
none_of (Some d) e = absurd cc

-- ---- a table without the three keys

pub record AreNone (table : Members) : Type 0 where
  pub both : get_member (codes "both_ways") table ≡ None
  pub enabled : get_member (codes "enabled") table ≡ None
  pub quiet : get_member (codes "quiet") table ≡ None

all_none : (table : Members) → lacks_three table ≡ true → AreNone table
all_none table lacking =
    let one = and_parts (lacks (codes "both_ways") table) (lacks (codes "enabled") table && lacks (codes "quiet") table) lacking in
    let two = and_parts (lacks (codes "enabled") table) (lacks (codes "quiet") table) one.1 in
    record { both = none_of _ one.0; enabled = none_of _ two.0; quiet = none_of _ two.1 }

one_way : (format : Format) (table : Members) → get_member (codes "both_ways") table ≡ None → is_both_ways format table ≡ false
one_way formats.One table none = refl
one_way formats.Two table none = refl
one_way formats.Three table none = rw none refl

flag_none : (format : Format) (default : Bool) (key : List ℕ) (table : Members) → get_member key table ≡ None → flag_at format default key table ≡ Ok default
flag_none formats.One default key table none = refl
flag_none formats.Two default key table none = refl
flag_none formats.Three default key table none = rw none refl

every_less : (sets : List Data) (k : ℕ) (allows : Bool) (table : Members) → AreNone table
    → located_beside sets (places.Rule k) (keys.every_rule_field (namings.Rule formats.Three) allows) table
    ≡ located_beside sets (places.Rule k) (before.rule_fields formats.Three) table
every_less sets k allows table none =
    let front = before.rule_fields formats.Three in
    let both = keys.may (codes "both_ways") (One Boolean) in
    let enabled = keys.may (codes "enabled") (One Boolean) in
    let quiet = keys.may (codes "quiet") (One (quiet_for allows)) in
    located_more sets (places.Rule k) (front ++ both ∷ enabled ∷ []) [] quiet table (missed sets (codes "quiet") (One (quiet_for allows)) table none.quiet)
    ∙ located_more sets (places.Rule k) (front ++ both ∷ []) [] enabled table (missed sets (codes "enabled") (One Boolean) table none.enabled)
    ∙ located_more sets (places.Rule k) front [] both table (missed sets (codes "both_ways") (One Boolean) table none.both)

same_rule_table : (format : Format) (sets : List Data) (k : ℕ) (table : Members) → AreNone table
    → located_beside sets (places.Rule k) (keys.rule_fields format table) table ≡ located_beside sets (places.Rule k) (before.rule_fields format) table
same_rule_table formats.One sets k table none = refl
same_rule_table formats.Two sets k table none = refl
same_rule_table formats.Three sets k table none =
    ap (λ (both : Bool). located_beside sets (places.Rule k) (keys.every_rule_field (keys.naming_by formats.Three both) (keys.is_true_at (codes "allow") table)) table)
    (one_way formats.Three table none.both)
    ∙ every_less sets k (keys.is_true_at (codes "allow") table) table none

-- ---- a rule

-- as it is written
abbrev single : Noted → Written
single n = record { rule = n.rule; note = n.note; audit = n.audit; enabled = true; both_ways = false }

abbrev made_of : List ℕ → Bool → Fields (List Range) → Rule
made_of name allow ranges = record { name = name; allow = allow; quiet = false; ranges = ranges }

joined : (name : Read (List ℕ)) (allow : Read Bool) (ranges : Read (Fields (List Range))) (note : Read (List ℕ)) (audit : Read Bool)
    → ((name >>= λ n. allow >>= λ a. ranges >>= λ rs. Ok (made_of n a rs)) >>= λ rule. note >>= λ said. audit >>= λ au.
    Ok (record { rule = rule; note = said; audit = au; enabled = true; both_ways = false }))
    ≡ (((name >>= λ n. allow >>= λ a. ranges >>= λ rs. Ok (made_of n a rs)) >>= λ rule. note >>= λ said. audit >>= λ au.
    Ok (record { rule = rule; note = said; audit = au })) >>= λ n. Ok (single n))
joined (Err f) allow ranges note audit = refl
joined (Ok n) (Err f) ranges note audit = refl
joined (Ok n) (Ok a) (Err f) note audit = refl
joined (Ok n) (Ok a) (Ok rs) (Err f) audit = refl
joined (Ok n) (Ok a) (Ok rs) (Ok said) (Err f) = refl
joined (Ok n) (Ok a) (Ok rs) (Ok said) (Ok au) = refl

same_parts : (format : Format) (sets : List Data) (table : Members) → AreNone table
    → now.written_parts format sets table ≡ (before.noted_parts format sets table >>= λ n. Ok (single n))
same_parts format sets table none =
    rw (one_way format table none.both, flag_none format false (codes "quiet") table none.quiet, flag_none format true (codes "enabled") table none.enabled)
    (joined (rule_name_at (codes "name") table) (boolean_at (codes "allow") table) (fields_of (namings.Rule format) sets table) (note_at format table)
    (flag_at format false (codes "audit") table))

pushed : (found : Option Located) (r : Read Noted) → unless found (whole (r >>= λ n. Ok (single n))) ≡ (unless found (whole r) >>= λ n. Ok (single n))
pushed (Some located) r = refl
pushed None (Err f) = refl
pushed None (Ok n) = refl

same_rule_of : (format : Format) (sets : List Data) (k : ℕ) (table : Members) → AreNone table
    → now.rule_of format sets k table ≡ (before.rule_of format sets k table >>= λ n. Ok (single n))
unfolding now.rule_of
same_rule_of format sets k table none =
    ap (λ (l : Option Located). unless l (whole (now.written_parts format sets table))) (same_rule_table format sets k table none)
    ∙ ap (λ (r : Read Written). unless (located_beside sets (places.Rule k) (before.rule_fields format) table) (whole r)) (same_parts format sets table none)
    ∙ pushed (located_beside sets (places.Rule k) (before.rule_fields format) table) (before.noted_parts format sets table)

same_rule_in : (format : Format) (sets : List Data) (k : ℕ) (v : Data) → lacks_in (table_in v) ≡ true
    → now.rule_in format sets k v ≡ (before.rule_in format sets k v >>= λ n. Ok (single n))
same_rule_in format sets k v lacking = by (table_in v) lacking
  where
    by : (read : Read Members) → lacks_in read ≡ true
        → (whole read >>= now.rule_of format sets k) ≡ ((whole read >>= before.rule_of format sets k) >>= λ n. Ok (single n))
    by (Err f) l = refl
    by (Ok table) l = same_rule_of format sets k table (all_none table l)

-- ---- all rules

same_rules : (ns : List Noted) → now.rules_of (map single ns) ≡ before.rules_of ns
same_rules [] = refl
same_rules (n ∷ ns) = ap (λ (rs : List Rule). n.rule ∷ rs) (same_rules ns)

map_more : (ns : List Noted) (n : Noted) → map single ns ++ single n ∷ [] ≡ map single (ns ++ n ∷ [])
map_more [] n = refl
map_more (first ∷ ns) n = ap (λ (ws : List Written). single first ∷ ws) (map_more ns n)

abbrev all_single : Find (List Noted) → Find (List Written)
all_single read = read >>= λ ns. Ok (map single ns)

same_behind : (format : Format) (sets : List Data) (ns : List Noted) (k : ℕ) (vs : List Data) → list_all (λ value. lacks_in (table_in value)) vs ≡ true
    → now.rules_behind format sets (map single ns) k vs ≡ all_single (before.rules_behind format sets ns k vs)
same_behind format sets ns k [] lacking = refl
same_behind format sets ns k (v ∷ vs) lacking =
    let parts = and_parts (lacks_in (table_in v)) (list_all (λ value. lacks_in (table_in value)) vs) lacking in
    ap (λ (r : Find Written). r >>= λ w. unless (crowd format k (now.rules_of (map single ns ++ w ∷ []))) (now.rules_behind format sets (map single ns ++ w ∷ []) (k + 1) vs))
    (same_rule_in format sets k v parts.0)
    ∙ by (before.rule_in format sets k v) (λ more. same_behind format sets more (k + 1) vs parts.1)
  where
    step : (found : Option Located) (r : Find (List Noted)) → unless found (all_single r) ≡ all_single (unless found r)
    step (Some located) r = refl
    step None r = refl

    by : (r : Find Noted) → ((more : List Noted) → now.rules_behind format sets (map single more) (k + 1) vs ≡ all_single (before.rules_behind format sets more (k + 1) vs))
        → ((r >>= λ n. Ok (single n)) >>= λ w. unless (crowd format k (now.rules_of (map single ns ++ w ∷ []))) (now.rules_behind format sets (map single ns ++ w ∷ []) (k + 1) vs))
        ≡ all_single (r >>= λ n. unless (crowd format k (before.rules_of (ns ++ n ∷ []))) (before.rules_behind format sets (ns ++ n ∷ []) (k + 1) vs))
    by (Err f) later = refl
    by (Ok n) later =
        ap (λ (ws : List Written). unless (crowd format k (now.rules_of ws)) (now.rules_behind format sets ws (k + 1) vs)) (map_more ns n)
        ∙ ap (λ (rs : List Rule). unless (crowd format k rs) (now.rules_behind format sets (map single (ns ++ n ∷ [])) (k + 1) vs)) (same_rules (ns ++ n ∷ []))
        ∙ ap (λ (r : Find (List Written)). unless (crowd format k (before.rules_of (ns ++ n ∷ []))) r) (later (ns ++ n ∷ []))
        ∙ step (crowd format k (before.rules_of (ns ++ n ∷ []))) (before.rules_behind format sets (ns ++ n ∷ []) (k + 1) vs)

same_tables : (from : ℕ) (ns : List Noted) → now.tables_from from (map single ns) ≡ before.positions from ns
same_tables from [] = refl
same_tables from (n ∷ ns) = ap (λ (ts : List ℕ). from ∷ ts) (same_tables (from + 1) ns)

same_notes : (ns : List Noted) → now.notes_of (map single ns) ≡ map (λ n. n.note) ns
same_notes [] = refl
same_notes (n ∷ ns) = ap (λ (ts : List (List ℕ)). n.note ∷ ts) (same_notes ns)

same_audits : (ns : List Noted) → now.audits_of (map single ns) ≡ map (λ n. n.audit) ns
same_audits [] = refl
same_audits (n ∷ ns) = ap (λ (ts : List Bool). n.audit ∷ ts) (same_audits ns)

-- ---- the policy

abbrev policing : ℕ → List Set → List Rule → List ℕ → List (List ℕ) → List Bool → Policing
policing written sets rules tables notes audits = record {
  rules = rules;
  tables = tables;
  notes = notes;
  audits = audits;
  written = written;
  sets = sets;
  assertions = [];
}

same_listed : (format : Format) (written : ℕ) (sets : List Set) (read : Find (List Noted))
    → ((all_single read >>= λ all. Ok (now.listing_of all)) >>= λ l. whole (now.policy_of format l.rules) >>= λ rules. Ok (policing written sets rules l.tables l.notes l.audits))
    ≡ (read >>= λ ns. whole (now.policy_of format (before.rules_of ns)) >>= λ rules. Ok (policing written sets rules (before.positions 0 ns) (map (λ n. n.note) ns) (map (λ n. n.audit) ns)))
same_listed format written sets (Err f) = refl
same_listed format written sets (Ok ns) = rw (same_rules ns, same_tables 0 ns, same_notes ns, same_audits ns) refl

nothing_asserted : (format : Format) (top : Members) → get_member (codes "assert") top ≡ None → now.assertion_tables format (codes "assert") top ≡ Ok []
nothing_asserted formats.One top none = refl
nothing_asserted formats.Two top none = refl
nothing_asserted formats.Three top none = rw none refl

abbrev read_now : Format → List Data → List Data → List Set → Find Policing
read_now format tables items sets =
    now.listing_at format items tables >>= λ l. whole (now.policy_of format l.rules) >>= λ rules. Ok (policing (length tables) sets rules l.tables l.notes l.audits)

abbrev read_before : Format → List Data → List Data → List Set → Find Policing
read_before format tables items sets =
    before.rules_behind format items [] 0 tables >>= λ ns. whole (now.policy_of format (before.rules_of ns))
    >>= λ rules. Ok (policing (length tables) sets rules (before.positions 0 ns) (map (λ n. n.note) ns) (map (λ n. n.audit) ns))

same_policy : (format : Format) (top : Members) → before.lacks_keys top ≡ true → now.policy_at format top ≡ before.policy_at format top
same_policy format top e =
    rw (nothing_asserted format top (none_of _ parted.0)) (on (list_or (get_member (codes "rule") top)) parted.1)
  where
    parted : (lacks (codes "assert") top ≡ true) × (before.all_lack (list_or (get_member (codes "rule") top)) ≡ true)
    parted = and_parts (lacks (codes "assert") top) (before.all_lack (list_or (get_member (codes "rule") top))) e

    same_read : (tables items : List Data) (sets : List Set) → list_all (λ value. lacks_in (table_in value)) tables ≡ true → read_now format tables items sets ≡ read_before format tables items sets
    same_read tables items sets lacking =
        ap (λ (r : Find (List Written)). (r >>= λ all. Ok (now.listing_of all)) >>= λ l. whole (now.policy_of format l.rules) >>= λ rules. Ok (policing (length tables) sets rules l.tables l.notes l.audits))
        (same_behind format items [] 0 tables lacking)
        ∙ same_listed format (length tables) sets (before.rules_behind format items [] 0 tables)

    at_items : (tables : List Data) → list_all (λ value. lacks_in (table_in value)) tables ≡ true → (items : Read (List Data))
        → (whole items >>= λ is. each_at (set_in tables []) 0 is >>= λ sets. read_now format tables is sets)
        ≡ (whole items >>= λ is. each_at (set_in tables []) 0 is >>= λ sets. read_before format tables is sets)
    at_items tables lacking (Err f) = refl
    at_items tables lacking (Ok is) = by (each_at (set_in tables []) 0 is)
      where
        by : (sets : Find (List Set)) → (sets >>= λ ss. read_now format tables is ss) ≡ (sets >>= λ ss. read_before format tables is ss)
        by (Err f) = refl
        by (Ok ss) = same_read tables is ss lacking

    on : (r : Read (List Data)) → before.all_lack r ≡ true
        → (whole (r >>= within 0 512) >>= λ tables. whole (long_tables format (codes "set") top) >>= λ is. each_at (set_in tables []) 0 is >>= λ sets. read_now format tables is sets)
        ≡ (whole (r >>= within 0 512) >>= λ tables. whole (long_tables format (codes "set") top) >>= λ is. each_at (set_in tables []) 0 is >>= λ sets. read_before format tables is sets)
    on (Err f) lacking = refl
    on (Ok tables) lacking = by (nat_lt (length tables) 0) (nat_lt 512 (length tables))
      where
        by : (few many : Bool)
            → (whole (if few then Err faults.Range else if many then Err faults.TooMany else Ok tables) >>= λ tables. whole (long_tables format (codes "set") top) >>= λ is. each_at (set_in tables []) 0 is >>= λ sets. read_now format tables is sets)
            ≡ (whole (if few then Err faults.Range else if many then Err faults.TooMany else Ok tables) >>= λ tables. whole (long_tables format (codes "set") top) >>= λ is. each_at (set_in tables []) 0 is >>= λ sets. read_before format tables is sets)
        by true many = refl
        by false true = refl
        by false false = at_items tables lacking (long_tables format (codes "set") top)

-- ---- the whole

same_top : (format : Format) (top : Members) → get_member (codes "assert") top ≡ None
    → located_beside [] places.Top (keys.top_fields format) top ≡ located_beside [] places.Top (before.top_fields format) top
same_top formats.One top none = refl
same_top formats.Two top none = refl
same_top formats.Three top none =
    located_more [] places.Top (before.top_fields formats.Three) [] (keys.may (codes "assert") (keys.tables 0 512)) top (missed [] (codes "assert") (keys.tables 0 512) top none)

same_parts_of : (top : Members) → before.lacks_keys top ≡ true → whole_text.parts_of top ≡ before.parts_of top
same_parts_of top e = on (format_at (codes "format") top)
  where
    on : (r : Read Format) → (whole r >>= λ format. whole_text.parts_of_format format top) ≡ (whole r >>= λ format. before.parts_of_format format top)
    on (Err f) = refl
    on (Ok format) = rw (same_policy format top e) refl

same_in : (top : Members) → before.lacks_keys top ≡ true → whole_text.configuration_of top ≡ before.configuration_of top
unfolding whole_text.configuration_of before.configuration_of
same_in top e =
    let parted = and_parts (lacks (codes "assert") top) (before.all_lack (list_or (get_member (codes "rule") top))) e in
    ap (λ (l : Option Located). unless l (whole_text.parts_of top >>= unique)) (same_top (format_in top) top (none_of _ parted.0))
    ∙ ap (λ (r : Find Configuration). unless (located_beside [] places.Top (before.top_fields (format_in top)) top) (r >>= unique)) (same_parts_of top e)

by_document : (long : Bool) (read : Read Members) → before.lacks_keys_in read ≡ true
    → (if long then Err (of_text faults.TooMany) else (whole read >>= whole_text.configuration_of))
    ≡ (if long then Err (of_text faults.TooMany) else (whole read >>= before.configuration_of))
by_document true read e = refl
by_document false (Ok top) e = same_in top e
by_document false (Err f) e = refl

pub kept : before.TextsOfSingleRulesAreAsBefore
kept text e = by_document (nat_lt 1048576 (length text)) (whole_text.document text) e
