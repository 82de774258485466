use Rattle.std.proofs.Common.{◌≡◌, ℕ, List, take, length, ap, subst, ◌∙◌, arith, rules}
use Rattle.std.proofs.lemmas.Grind.{common_steps}
use Rattle.std.proofs.lemmas.List.{length-append}
use Rattle.std.proofs.lemmas.List.Folds.{length-flat_map-take}
use Rattle.std.specs.List.{flat_map}
use Rattle.std.specs.declared.alloc.AllocError.{AllocError}
use Rattle.gw_addr.specs.Appending.{IsAppended}
use Rattle.gw_addr.specs.Reading.{Keeps}
use Rattle.gw_addr.specs.Station.{two_digits}
use Rattle.gw_addr.proofs.Writing.{Keeps-front}
use Rattle.gw_addr.proofs.Stations.{six}
use Rattle.gw_addr.proofs.station.Mac.put_text.Goals as goal

pub returns-in_err-put_slice : goal.returns-in_err-put_slice
returns-in_err-put_slice c =
    let octets = c.as_slice-octet-items.result.now in
    let written = flat_map two_digits (take c.loop-octet.octet-index octets) in
    record {
      ok = search rules;
      front = Keeps-front c.args.out.now.items written c.put_slice-in-loop-octet.new.out.items
          (subst (λ (x : List ℕ). Keeps x c.put_slice-in-loop-octet.new.out.items) c.loop-octet.invariant.0 c.in_err-put_slice.ensures.front);
      room = λ enough.
          let text : length (flat_map two_digits octets) ≡ length (flat_map two_digits c.args.self.now) = ap (λ (xs : List ℕ). length (flat_map two_digits xs)) c.as_slice-octet-items.ensures.octets in
          let more = length-flat_map-take two_digits octets c.loop-octet.octet-index 0 c.loop-octet-test.true in
          let stands = ap length c.loop-octet.invariant.0 ∙ length-append c.args.out.now.items written in
          let wider = c.loop-octet.invariant.1 in
          let no_room = c.in_err-put_slice.ensures.room in
          grind (arith, common_steps, enough, text, more, stands, wider, no_room);
      capacity = omega arith;
    }

pub returns-in-len6 : goal.returns-in-len6
returns-in-len6 c =
    let octets = c.as_slice.result.now in
    let same = six octets c.in-len6.len_at_least c.in-len6.len_below ∙ c.as_slice.ensures.octets in
    subst (λ (text : List ℕ). IsAppended {F = AllocError} text c.args.out.now c.put_slice.new.out c.put_slice.result)
    (c.twelve_digits.ensures ∙ ap (λ (xs : List ℕ). flat_map two_digits xs) same) c.put_slice.ensures
