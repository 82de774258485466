-- A rule is read part after part.
use Rattle.std.proofs.Common.{◌≡◌, ◌∙◌, ℕ, Bool, List, false, codes, ap, refl, Ok, Err}
use Rattle.toml.specs.Data.{Data, Members}
use Rattle.gw_addr.specs.Reading.{◌>>=◌}
use Rattle.gw_rules.specs.declared.fields.Fields.{Fields}
use Rattle.gw_rules.specs.declared.format.Format.{Format}
use Rattle.gw_rules.specs.declared.range.Range.{Range}
use Rattle.gw_rules.specs.declared.rule.Rule.{Rule}
use Rattle.gw_configuration.specs.Located.{Read}
use Rattle.gw_policy_text.specs.keys.Tables.{is_both_ways, naming_by}
use Rattle.gw_policy_text.specs.keys.Value.{boolean_in}
use Rattle.gw_policy_text.specs.Parts.{at}
use Rattle.gw_policy_text.specs.Policy.{fields_of, flag_at, name_in, rule_parts}

-- by what was read before its ranges
abbrev pub behind_verdict : Format → Members → List ℕ → Bool → Read (Fields (List Range)) → Read Rule
behind_verdict format table name allow reading =
    reading >>= λ ranges. flag_at format false (codes "quiet") table >>= λ quiet. Ok (record { name = name; allow = allow; quiet = quiet; ranges = ranges })

abbrev pub behind_ranges : List ℕ → Bool → Fields (List Range) → Read Bool → Read Rule
behind_ranges name allow ranges reading = reading >>= λ quiet. Ok (record { name = name; allow = allow; quiet = quiet; ranges = ranges })

pub read_on : (format : Format) (sets : List Data) (table : Members) (named said : Data) (name : List ℕ) (allow : Bool) (reading : Read (Fields (List Range)))
    → at (codes "name") table ≡ Ok named → name_in (is_both_ways format table) named ≡ Ok name → at (codes "allow") table ≡ Ok said → boolean_in said ≡ Ok allow
    → fields_of (naming_by format (is_both_ways format table)) sets table ≡ reading → rule_parts format sets table ≡ behind_verdict format table name allow reading
read_on format sets table named said name allow reading e f g h ranges =
    ap (λ (r : Read Data). (r >>= name_in (is_both_ways format table)) >>= λ name. (at (codes "allow") table >>= boolean_in) >>= λ allow. behind_verdict format table name allow (fields_of (naming_by format (is_both_ways format table)) sets table)) e
    ∙ ap (λ (r : Read (List ℕ)). r >>= λ name. (at (codes "allow") table >>= boolean_in) >>= λ allow. behind_verdict format table name allow (fields_of (naming_by format (is_both_ways format table)) sets table)) f
    ∙ ap (λ (r : Read Data). (r >>= boolean_in) >>= λ allow. behind_verdict format table name allow (fields_of (naming_by format (is_both_ways format table)) sets table)) g
    ∙ ap (λ (r : Read Bool). r >>= λ allow. behind_verdict format table name allow (fields_of (naming_by format (is_both_ways format table)) sets table)) h
    ∙ ap (behind_verdict format table name allow) ranges
