use Rattle.std.proofs.Common.{rules, ◌≡◌, ◌≢◌, ◌∙◌, ◌||◌, Bool, ap, map, nat_le, length, not, sym, true, Ok, Err}
use Rattle.std.proofs.lemmas.Bool.{and_from}
use Rattle.toml.specs.View.{table_view, view}
use Rattle.gw_rules.specs.Bounds.{are_bounded}
use Rattle.gw_rules.specs.Name.{is_name, is_no_rule}
use Rattle.gw_configuration.specs.declared.fault.ConfigFault.TheVariants.{Memory}
use Rattle.gw_policy_text.specs.internal.Limits.{are_limited}
use Rattle.gw_policy_text.specs.keys.Tables.{is_both_ways, naming_by}
use Rattle.gw_policy_text.specs.Policy.{fields_of, name_in, rule_parts}
use Rattle.gw_policy_text.proofs.Parted.{bounded, joined}
use Rattle.gw_policy_text.proofs.RuleReading.{behind_ranges, behind_verdict, read_on}
use Rattle.gw_policy_text.proofs.rules.rule_parts.Goals as goal

pub returns-in_err-ranges-clause-rule : goal.returns-in_err-ranges-clause-rule
returns-in_err-ranges-clause-rule c =
    let format = c.args.format in
    let sets = map view c.args.sets.now in
    let table = table_view c.args.table.now in
    let fault = c.in_err-ranges.field-0.0 in
    let both = c.is_both_ways-both_ways.ensures in
    let naming : c.naming_by.result ≡ naming_by format (is_both_ways format table) = c.naming_by.ensures ∙ ap (naming_by format) both in
    let stopped : fault ≢ Memory → rule_parts format sets table ≡ Err fault = λ other.
    read_on format sets table _ _ _ _ (Err fault) c.in_ok-at.ensures (ap (λ b. name_in b (view c.in_ok-at.field-0.now)) (sym both) ∙ c.in_ok-name.ensures.name) c.in_ok-at-2.ensures c.in_ok-allow.ensures
    (ap (λ n. fields_of n sets table) (sym naming) ∙ c.in_err-ranges.ensures.fields other) in
    let is : c.from_residual-in_err-ranges.result ≡ Err fault = search rules in
    rw is stopped

pub returns-in_err-quiet-clause-rule : goal.returns-in_err-quiet-clause-rule
returns-in_err-quiet-clause-rule c =
    let format = c.args.format in
    let sets = map view c.args.sets.now in
    let table = table_view c.args.table.now in
    let fault = c.in_err-quiet.field-0.0 in
    let both = c.is_both_ways-both_ways.ensures in
    let naming : c.naming_by.result ≡ naming_by format (is_both_ways format table) = c.naming_by.ensures ∙ ap (naming_by format) both in
    let read : rule_parts format sets table ≡ behind_verdict format table c.in_ok-name.name.now c.in_ok-allow.allow (Ok c.in_ok-ranges.ranges) =
    read_on format sets table _ _ _ _ (Ok c.in_ok-ranges.ranges) c.in_ok-at.ensures (ap (λ b. name_in b (view c.in_ok-at.field-0.now)) (sym both) ∙ c.in_ok-name.ensures.name) c.in_ok-at-2.ensures c.in_ok-allow.ensures
    (ap (λ n. fields_of n sets table) (sym naming) ∙ c.in_ok-ranges.ensures.fields) in
    let stopped : rule_parts format sets table ≡ Err fault = read ∙ ap (behind_ranges c.in_ok-name.name.now c.in_ok-allow.allow c.in_ok-ranges.ranges) c.in_err-quiet.ensures.flag in
    let is : c.from_residual-in_err-quiet.result ≡ Err fault = search rules in
    rw is (λ other. stopped)

pub returns-clause-rule : goal.returns-clause-rule
returns-clause-rule c =
    let format = c.args.format in
    let sets = map view c.args.sets.now in
    let table = table_view c.args.table.now in
    let both = c.is_both_ways-both_ways.ensures in
    let naming : c.naming_by.result ≡ naming_by format (is_both_ways format table) = c.naming_by.ensures ∙ ap (naming_by format) both in
    let read : rule_parts format sets table ≡ behind_verdict format table c.in_ok-name.name.now c.in_ok-allow.allow (Ok c.in_ok-ranges.ranges) =
    read_on format sets table _ _ _ _ (Ok c.in_ok-ranges.ranges) c.in_ok-at.ensures (ap (λ b. name_in b (view c.in_ok-at.field-0.now)) (sym both) ∙ c.in_ok-name.ensures.name) c.in_ok-at-2.ensures c.in_ok-allow.ensures
    (ap (λ n. fields_of n sets table) (sym naming) ∙ c.in_ok-ranges.ensures.fields) in
    read ∙ ap (behind_ranges c.in_ok-name.name.now c.in_ok-allow.allow c.in_ok-ranges.ranges) c.in_ok-quiet.ensures.flag
    ∙ ap (λ name. Ok (record { name = name; allow = c.in_ok-allow.allow; quiet = c.in_ok-quiet.quiet; ranges = c.in_ok-ranges.ranges })) (sym c.in_ok-new.ensures.text)

pub returns-clause-configurable : goal.returns-clause-configurable
returns-clause-configurable c =
    let format = c.args.format in
    let table = table_view c.args.table.now in
    let naming : c.naming_by.result ≡ naming_by format (is_both_ways format table) = c.naming_by.ensures ∙ ap (naming_by format) c.is_both_ways-both_ways.ensures in
    let own : not (is_no_rule c.in_ok-new.field-0) ≡ true = ap (λ n. not (is_no_rule n)) c.in_ok-new.ensures.text ∙ ap not c.in_ok-name.ensures.own in
    let limited : are_limited (naming_by format (is_both_ways format table)) c.in_ok-ranges.ranges ≡ true = ap (λ n. are_limited n c.in_ok-ranges.ranges) (sym naming) ∙ c.in_ok-ranges.ensures.limited in
    and_from (not (is_no_rule c.in_ok-new.field-0)) (are_bounded format c.in_ok-ranges.ranges) own (bounded format table c.in_ok-ranges.ranges limited)

pub returns-clause-joined : goal.returns-clause-joined
returns-clause-joined c =
    let format = c.args.format in
    let table = table_view c.args.table.now in
    let both = c.is_both_ways-both_ways.ensures in
    let naming : c.naming_by.result ≡ naming_by format (is_both_ways format table) = c.naming_by.ensures ∙ ap (naming_by format) both in
    let name : is_name c.in_ok-new.field-0 ≡ true = ap is_name c.in_ok-new.ensures.text ∙ c.in_ok-name.ensures.shape in
    let short : (not (is_both_ways format table) || nat_le (length c.in_ok-new.field-0) 27) ≡ true =
    ap (λ n. not (is_both_ways format table) || nat_le (length n) 27) c.in_ok-new.ensures.text
    ∙ ap (λ b. not b || nat_le (length c.in_ok-name.name.now) 27) (sym both) ∙ c.in_ok-name.ensures.short in
    let limited : are_limited (naming_by format (is_both_ways format table)) c.in_ok-ranges.ranges ≡ true = ap (λ n. are_limited n c.in_ok-ranges.ranges) (sym naming) ∙ c.in_ok-ranges.ensures.limited in
    joined format table c.in_ok-new.field-0 c.in_ok-ranges.ranges name short limited
