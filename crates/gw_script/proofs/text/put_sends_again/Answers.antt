use Rattle.std.proofs.Common.{[], ap, get_or, length, arith, rules, subst, take, List, ℕ}
use Rattle.std.proofs.lemmas.List.{length-append}
use Rattle.gw_addr.specs.Reading.{Keeps}
use Rattle.gw_addr.specs.declared.bip.BipAddr.{BipAddr}
use Rattle.gw_addr.proofs.Writing.{Keeps-front}
use Rattle.gw_script.specs.Text.{send_line, send_lines}
use Rattle.gw_script.proofs.Lists.{front_fits, item_at, text_next}
use Rattle.gw_script.proofs.TailLemmas.{line_ends}
use Rattle.gw_script.proofs.text.put_sends_again.Goals as goal

pub returns-in_err-put_send_again : goal.returns-in_err-put_send_again
returns-in_err-put_send_again c =
    let octets = c.args.octets.now in
    let i = c.loop-target.target-index in
    let targets = c.args.targets.now in
    let before = c.loop-target.invariant in
    let to : BipAddr = get_or targets i (record { ip = []; udp = 0 }) in
    let text = λ (a : BipAddr). send_line c.args.port a octets in
    let fits = front_fits text targets i to (omega (arith, c.loop-target-test.true))
    (item_at targets i _ (omega (arith, c.loop-target-test.true))) in
    record {
      ok = search rules;
      front = Keeps-front c.args.out.now.items (send_lines c.args.port (take i targets) octets) c.put_send_again.new.out.items
          (subst (λ (x : List ℕ). Keeps x c.put_send_again.new.out.items) before.items c.put_send_again.ensures.front);
      room = λ room.
          let refused = c.in_err-put_send_again.ensures.room
          (omega (arith, room, fits, before.capacity, ap length before.items, length-append c.args.out.now.items (send_lines c.args.port (take i targets) octets)))
          in
          absurd cc;
      capacity = omega (arith, before.capacity, c.put_send_again.ensures.capacity);
    }

pub loop-target-preserved : goal.loop-target-preserved
loop-target-preserved c =
    let octets = c.args.octets.now in
    let i = c.loop-target.target-index in
    let targets = c.args.targets.now in
    let none : BipAddr = record { ip = []; udp = 0 } in
    let before = c.loop-target.invariant in
    record {
      items = text_next (λ a. send_line c.args.port a octets) targets i none c.args.out.now.items c.loop-target.out.items
          c.put_send_again.new.out.items (omega (arith, c.loop-target-test.true)) before.items c.in_ok-put_send_again.ensures.ok;
      capacity = omega (arith, before.capacity, c.put_send_again.ensures.capacity);
      tail = line_ends c.loop-target.out.items c.put_send_again.new.out.items c.args.port (get_or targets i none) octets
          c.in_ok-put_send_again.ensures.ok;
    }
