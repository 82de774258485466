use Rattle.std.proofs.Common.{◌≡◌, ◌∙◌, ◌≤◌, ◌+◌, ◌*◌, ◌++◌, ap, arith, length, refl, take}
use Rattle.std.proofs.lemmas.Grind.{common_steps}
use Rattle.std.proofs.lemmas.List.{length-append, take_at}
use Rattle.gw_script.specs.Text.{send_tail}
use Rattle.gw_script.proofs.TailLemmas.{copied_behind, front_stays, tail_fits, tail_length}
use Rattle.gw_script.proofs.text.put_tail_again.Goals as goal

pub returns-in_err-reserve : goal.returns-in_err-reserve
returns-in_err-reserve c = record {
  ok = grind (arith, common_steps);
  front = grind (arith, common_steps);
  room = λ room. absurd (omega (arith, room, tail_length c.args.octets.now, c.in_err-reserve.ensures.full));
  capacity = grind (arith, common_steps);
}

pub overflow_sub-end : goal.overflow_sub-end
overflow_sub-end c =
    tail_fits c.args.out.now.items c.args.octets.now c.args.end (omega (arith, c.requires.within, c.args.out.now.ok.0)) c.requires.stands

pub copy_again-requires-clause-fits : goal.copy_again-requires-clause-fits
copy_again-requires-clause-fits c =
    let fits = tail_fits c.args.out.now.items c.args.octets.now c.args.end (omega (arith, c.requires.within, c.args.out.now.ok.0)) c.requires.stands in
    omega (arith, fits, c.as_mut_slice.ensures.len, c.in_ok-resize.ensures.len)

pub returns : goal.returns
returns c =
    let items = c.args.out.now.items in
    let octets = c.args.octets.now in
    let within : c.args.end ≤ length items = omega (arith, c.requires.within, c.args.out.now.ok.0) in
    let place : length items ≡ c.len-place.result = omega (arith, c.args.out.now.ok.0, c.len-place.ensures, c.in_ok-reserve.ensures.len) in
    let front : take c.len-place.result c.as_mut_slice.result.now ≡ items =
    ap (take c.len-place.result) c.as_mut_slice.ensures.value
    ∙ front_stays c.reserve.new.self.items c.resize.new.self.items _ c.len-place.result (c.len-place.result + (2 * length octets + 1))
    (omega (arith, c.len-place.ensures, c.reserve.new.self.ok.0)) (omega arith) c.in_ok-resize.ensures.items
    ∙ c.reserve.ensures.items in
    let text : c.copy_again.new.text ≡ items ++ send_tail octets =
    copied_behind items octets _ c.copy_again.new.text c.args.end within c.requires.stands front c.copy_again.ensures in
    let len : length c.copy_again.new.text ≡ c.resize.new.self.len =
    omega (arith, ap length text, length-append items (send_tail octets), tail_length octets, c.in_ok-resize.ensures.len, place) in
    let all = take_at c.copy_again.new.text _ c.resize.new.self.len len ∙ text in
    record {
      ok = all;
      front = ap (take (length items)) all ∙ take_at items (send_tail octets) (length items) refl;
      room = λ room. refl;
      capacity = omega (arith, c.resize.ensures.capacity, c.reserve.ensures.capacity);
    }
