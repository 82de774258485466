use Rattle.std.proofs.Common.{length, sym, ap, ◌∙◌, arith}
use Rattle.std.proofs.lemmas.List.{drop_all}
use Rattle.gw_tables.specs.priority.Commandable.{first_or}
use Rattle.gw_tables.proofs.priority_lemmas.Present.{is_present, first_from}
use Rattle.gw_tables.proofs.priority.array.PriorityArray.present.Goals as goal

pub returns-in-Some-clause-least : goal.returns-in-Some-clause-least
returns-in-Some-clause-least g c =
    let first = first_from c.args.self.now.default c.self.inside.slots c.loop-slot.slot-index c.in-Some.value c.slot-item.result (omega (arith, c.self.invariant, c.loop-slot-test.true)) c.in-Some.is in
    is_present c.args.self.now (ap (λ property. length property.slots) (sym c.self.view_is) ∙ c.self.invariant) c.in-Some.value (sym first ∙ c.loop-slot.invariant)

pub returns-clause-value : goal.returns-clause-value
returns-clause-value g c =
    let none = drop_all c.loop-slot.slot-index c.self.inside.slots (omega (arith, c.self.invariant, c.loop-slot-test.false)) in
    ap (λ property. property.default) c.self.view_is ∙ ap (first_or c.args.self.now.default) (sym none) ∙ c.loop-slot.invariant

pub returns-clause-least : goal.returns-clause-least
returns-clause-least g c =
    is_present c.args.self.now (ap (λ property. length property.slots) (sym c.self.view_is) ∙ c.self.invariant) c.self.inside.default (returns-clause-value g c)
