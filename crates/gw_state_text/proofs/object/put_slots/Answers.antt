use Rattle.std.proofs.Common.{ℕ, List, take, subst, rules, arith}
use Rattle.gw_addr.specs.Reading.{Keeps}
use Rattle.gw_addr.proofs.Writing.{Keeps-front}
use Rattle.gw_state_text.specs.Text.{slots_text}
use Rattle.gw_state_text.proofs.SlotLemmas.{none_written, written_more}
use Rattle.gw_state_text.proofs.object.put_slots.Goals as goal

pub loop-place-init : goal.loop-place-init
loop-place-init c = none_written c.args.out.now.items

pub returns-in_err-put_slot : goal.returns-in_err-put_slot
returns-in_err-put_slot c =
    let written = slots_text 1 (take c.loop-place.place c.args.slots.now) in
    record {
      ok = search rules;
      front = Keeps-front c.args.out.now.items written c.put_slot.new.out.items
          (subst (λ (x : List ℕ). Keeps x c.put_slot.new.out.items) c.loop-place.invariant c.in_err-put_slot.ensures.front);
    }

pub loop-place-preserved : goal.loop-place-preserved
loop-place-preserved c =
    written_more c.args.slots.now c.loop-place.place c.index-slots-place.result c.args.out.now.items c.loop-place.out.items
    c.put_slot.new.out.items (omega (arith, c.loop-place-test.true, c.requires)) c.index-slots-place.is c.loop-place.invariant
    c.in_ok-put_slot.ensures.ok
