use Rattle.std.proofs.Common.{sym, ◌∙◌, ap, not}
use Rattle.gw_rules.proofs.Grouped.{met_alone, met_object, unmet_object}
use Rattle.gw_rules.proofs.rule.Rule.matches_by.Goals as goal

pub returns-then-not-has_another : goal.returns-then-not-has_another
returns-then-not-has_another c =
    let met = sym c.meets_object.ensures ∙ c.if-meets_object.true in
    ap not c.if-not-has_another.true
    ∙ sym (met_alone c.args.self.now c.args.ask.now met (sym c.requires.named ∙ c.if-not-has_another.true))

pub returns-else-not-has_another : goal.returns-else-not-has_another
returns-else-not-has_another c =
    let met = sym c.meets_object.ensures ∙ c.if-meets_object.true in
    c.meets_others.ensures ∙ sym (met_object c.args.self.now c.args.ask.now met)

pub returns-else-meets_object : goal.returns-else-meets_object
returns-else-meets_object c =
    let unmet = sym c.meets_object.ensures ∙ c.if-meets_object.false in
    c.if-meets_object.false ∙ sym (unmet_object c.args.self.now c.args.ask.now unmet)
