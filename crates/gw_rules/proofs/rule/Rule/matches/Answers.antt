use Rattle.std.proofs.Common.{sym, ◌∙◌}
use Rattle.gw_rules.proofs.Grouped.{met_object, unmet_object}
use Rattle.gw_rules.proofs.rule.Rule.matches.Goals as goal

pub returns-then-meets_object : goal.returns-then-meets_object
returns-then-meets_object c =
    let met = sym c.meets_object.ensures ∙ c.if-meets_object.true in
    c.meets_others.ensures ∙ sym (met_object c.args.self.now c.args.ask.now met)

pub returns-else-meets_object : goal.returns-else-meets_object
returns-else-meets_object c =
    let unmet = sym c.meets_object.ensures ∙ c.if-meets_object.false in
    c.if-meets_object.false ∙ sym (unmet_object c.args.self.now c.args.ask.now unmet)
