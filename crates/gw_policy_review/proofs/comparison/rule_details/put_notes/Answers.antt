use Rattle.std.proofs.Common.{arith, length, rules, ◌≡◌, get_or, subst, ◌++◌, ◌+◌, sym}
use Rattle.std.specs.Prelude.{ℕ, List}
use Rattle.gw_policy_review.specs.comparison.Details.{note_line}
use Rattle.gw_script.proofs.Order.{in_order_end, in_order_none, in_order_step}
use Rattle.gw_policy_review.proofs.comparison.rule_details.put_notes.Goals as goal

pub loop-place-init : goal.loop-place-init
loop-place-init c = in_order_none (note_line c.args.old.now c.args.rules.now) c.args.out.now.items

pub loop-place-preserved : goal.loop-place-preserved
loop-place-preserved c =
    let text = note_line c.args.old.now c.args.rules.now in
    let item = c.index-notes-place.result in
    let here : get_or c.args.notes.now c.loop-place.place item ≡ item = search rules in
    let then : c.put_note.new.out.items ≡ c.loop-place.out.items ++ text (c.loop-place.place + 1) item = search rules in
    in_order_step text c.args.out.now.items c.loop-place.out.items c.put_note.new.out.items c.args.notes.now c.loop-place.place item
    c.loop-place-test.true c.loop-place.invariant
    (subst (λ (x : List ℕ). c.put_note.new.out.items ≡ c.loop-place.out.items ++ text (c.loop-place.place + 1) x) (sym here) then)

pub returns : goal.returns
returns c =
    let ends : c.loop-place.place ≡ length c.args.notes.now = omega (arith, c.loop-place.auto.place-end, c.loop-place-test.false) in
    in_order_end (note_line c.args.old.now c.args.rules.now) c.args.out.now.items c.loop-place.out.items c.args.notes.now
    c.loop-place.place ends c.loop-place.invariant
