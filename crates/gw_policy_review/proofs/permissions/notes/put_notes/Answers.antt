use Rattle.std.proofs.Common.{length, rules, ◌≡◌, ◌<◌, get_or, subst, ◌++◌, ◌+◌, sym}
use Rattle.std.specs.Prelude.{ℕ, List}
use Rattle.gw_policy_review.specs.permissions.Permissions.{note_line}
use Rattle.gw_script.proofs.Order.{in_order_none, in_order_step}
use Rattle.gw_policy_review.proofs.permissions.notes.put_notes.Goals as goal

pub loop-place-init : goal.loop-place-init
loop-place-init c = in_order_none (note_line c.args.placed.now.config.now c.args.placed.now.lines.now) c.args.out.now.items

pub loop-place-preserved : goal.loop-place-preserved
loop-place-preserved c =
    let text = note_line c.args.placed.now.config.now c.args.placed.now.lines.now in
    let item = c.index-notes-place.result in
    let here : get_or c.notes-notes.result.now c.loop-place.place item ≡ item = search rules in
    let inside : c.loop-place.place < length c.notes-notes.result.now = search rules in
    let then : c.put_note.new.out.items ≡ c.loop-place.out.items ++ text (c.loop-place.place + 1) item = search rules in
    in_order_step text c.args.out.now.items c.loop-place.out.items c.put_note.new.out.items c.notes-notes.result.now c.loop-place.place item
    inside c.loop-place.invariant
    (subst (λ (x : List ℕ). c.put_note.new.out.items ≡ c.loop-place.out.items ++ text (c.loop-place.place + 1) x) (sym here) then)
