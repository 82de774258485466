use Rattle.std.proofs.Common.{◌∙◌, ◌&&◌, ap, sym}
use Rattle.gw_rules.specs.Rule.{each_field}
use Rattle.gw_configuration.specs.Assertion.{is_meant_plainly, meets}
use Rattle.gw_ask_sets.proofs.assertions_lemmas.AssertionLaw.{conditions_none, conditions_one}
use Rattle.gw_ask_sets.proofs.assertions.condition.push_plain.Goals as goal

pub returns-then-not-is_plain : goal.returns-then-not-is_plain
returns-then-not-is_plain c = λ ask.
    conditions_none c.args.out.now.items (is_meant_plainly c.args.assertion.now ask) ask
    (ap (λ b. b && each_field (meets c.args.assertion.now ask)) (sym c.if-not-is_plain.ensures))

pub returns : goal.returns
returns c = λ ask.
    conditions_one c.args.out.now.items c.push.new.self.items c.in_ok-condition.condition (is_meant_plainly c.args.assertion.now ask) ask
    c.in_ok-push.ensures.items
    (c.in_ok-condition.ensures ask ∙ ap (λ b. b && each_field (meets c.args.assertion.now ask)) c.if-not-is_plain.ensures)
