use Rattle.std.proofs.Common.{◌≡◌, ℕ, List, ◌∷◌, option_map, refl, sym, ap, subst, ◌∙◌}
use Rattle.std.specs.Prelude.{slice_get}
use Rattle.gw_tables.specs.priority.History.{Act}
use Rattle.gw_objects.specs.declared.value.PropertyValue.{PropertyValue}
use Rattle.gw_objects.specs.History.{IsStateAfter, acted, put_at}
use Rattle.gw_objects.specs.Objects.{Database, Slots}
use Rattle.gw_objects.specs.Write.{CanAct}
use Rattle.gw_objects.specs.internal.Act.{act_view}
use Rattle.gw_objects.proofs.Histories.{put_next}
use Rattle.gw_objects.proofs.database.ObjectDb.put.Goals as goal

-- the states after an act at a place
abbrev after : ℕ → Act PropertyValue → List Slots → List Slots
after place act states = put_at place (option_map (acted act) (slice_get states place)) states

pub returns-clause-stands : goal.returns-clause-stands
returns-clause-stands c = λ starts history stand.
    let inside = c.self.inside.states.items in
    let same : inside ≡ c.args.self.now.states = ap (λ (d : Database). d.states) c.self.view_is in
    let place = c.parts-place.ensures.place in
    let act = c.parts-place.ensures.act in
    let written : c.change.new.states.items ≡ after c.args.put.place c.args.put.act c.args.self.now.states = c.change.ensures ∙ ap (λ p. after p (act_view c.parts-place.result.1) inside) place ∙ ap (λ a. after c.args.put.place a inside) act ∙ ap (after c.args.put.place c.args.put.act) same in
    subst (IsStateAfter starts (c.args.put ∷ history)) (sym written) (put_next starts history c.args.put c.args.self.now.states (subst CanAct act c.parts-place.ensures.can) stand (slice_get c.args.self.now.states c.args.put.place) refl)
