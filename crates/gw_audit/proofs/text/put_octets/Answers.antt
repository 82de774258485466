use Rattle.std.proofs.Common.{ℕ, List, take, length, ap, subst, ◌∙◌, arith, rules}
use Rattle.std.proofs.lemmas.Grind.{common_steps}
use Rattle.std.proofs.lemmas.List.{length-append}
use Rattle.std.proofs.lemmas.List.Folds.{length-flat_map-take}
use Rattle.std.specs.List.{flat_map}
use Rattle.gw_addr.specs.Reading.{Keeps}
use Rattle.gw_addr.specs.Station.{two_digits}
use Rattle.gw_addr.proofs.Writing.{Keeps-front}
use Rattle.gw_audit.proofs.text.put_octets.Goals as goal

pub returns-in_err-put_slice : goal.returns-in_err-put_slice
returns-in_err-put_slice c =
    let octets = c.args.octets.now in
    let written = flat_map two_digits (take c.loop-octet.octet-index octets) in
    record {
      ok = search rules;
      front = Keeps-front c.args.out.now.items written c.put_slice.new.out.items
          (subst (λ (x : List ℕ). Keeps x c.put_slice.new.out.items) c.loop-octet.invariant.0 c.in_err-put_slice.ensures.front);
      room = λ enough.
          let more = length-flat_map-take two_digits octets c.loop-octet.octet-index 0 c.loop-octet-test.true in
          let stands = ap length c.loop-octet.invariant.0 ∙ length-append c.args.out.now.items written in
          let wider = c.loop-octet.invariant.1 in
          let no_room = c.in_err-put_slice.ensures.room in
          grind (arith, common_steps, enough, more, stands, wider, no_room);
      capacity = omega arith;
    }
