use Rattle.std.proofs.Common.{◌≡◌, ◌∙◌, ap, not, true}
use Rattle.gw_rules.specs.Name.{is_no_rule}
use Rattle.gw_policy_text.specs.Policy.{operations_of}
use Rattle.gw_policy_text.proofs.Parted.{assertable}
use Rattle.gw_policy_text.proofs.assertions.assertion_parts.Goals as goal

pub returns-clause-assertable : goal.returns-clause-assertable
returns-clause-assertable c =
    let name : not (is_no_rule c.in_ok-new.field-0) ≡ true = ap (λ n. not (is_no_rule n)) c.in_ok-new.ensures.text ∙ ap not c.in_ok-name.ensures.own in
    assertable c.in_ok-new.field-0 c.in_ok-ranges.ranges c.in_ok-ranges-2.field-0 name (c.in_ok-ranges-2.ensures ∙ ap operations_of c.as_slice-3.ensures) c.in_ok-ranges.ensures.limited
