use Rattle.std.proofs.Common.{◌∙◌, List, ap, sym}
use Rattle.gw_rules.specs.Rule.{matches}
use Rattle.gw_rules.specs.declared.range.Range.{Range}
use Rattle.gw_rules.specs.declared.rule.Rule.{Rule}
use Rattle.gw_configuration.specs.Subnet.{Subnet}
use Rattle.std.specs.Prelude.{◌==◌, length}
use Rattle.std.proofs.lemmas.List.{nil_from_length}
use Rattle.std.proofs.lemmas.Bool.{eqb-true}
use Rattle.gw_ask_sets.specs.assertions.internal.Unraised.{enter_rule}
use Rattle.gw_ask_sets.proofs.assertions_lemmas.AssertedLaw.{all_home, none_home, some_home}
use Rattle.gw_ask_sets.proofs.assertions.asserted.home_rule.Goals as goal

pub returns-then-is_empty : goal.returns-then-is_empty
returns-then-is_empty c = λ ask.
    ap (λ (r : Rule). matches r ask) (c.in_ok-rule.ensures ∙ ap (enter_rule c.args.number) c.new.ensures)
    ∙ all_home c.args.number c.args.port.now (ap (λ (list : List Subnet). length list == 0) (sym c.as_slice.ensures.subnets) ∙ sym c.if-is_empty.ensures) ask

pub returns-then-is_empty-2 : goal.returns-then-is_empty-2
returns-then-is_empty-2 c = λ ask.
    none_home c.args.number c.args.port.now (ap (λ (list : List Subnet). length list == 0) (sym c.as_slice.ensures.subnets) ∙ sym c.if-is_empty.ensures)
    (sym c.in_ok-keys.ensures ∙ nil_from_length c.in_ok-keys.keys (eqb-true (length c.in_ok-keys.keys) 0 (sym c.if-is_empty-2.ensures))) ask

pub returns : goal.returns
returns c = λ ask.
    ap (λ (r : Rule). matches r ask) (c.in_ok-rule-2.ensures ∙ ap (enter_rule c.args.number) c.in_ok-keys.ensures)
    ∙ some_home c.args.number c.args.port.now (ap (λ (list : List Subnet). length list == 0) (sym c.as_slice.ensures.subnets) ∙ sym c.if-is_empty.ensures)
    (ap (λ (list : List Range). length list == 0) (sym c.in_ok-keys.ensures) ∙ sym c.if-is_empty-2.ensures) ask
