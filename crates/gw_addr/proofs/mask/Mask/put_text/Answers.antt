use Rattle.std.proofs.Common.{ℕ, List, subst, arith}
use Rattle.gw_addr.specs.Appending.{IsAppended}
use Rattle.gw_addr.specs.Text.{four_text}
use Rattle.gw_addr.proofs.Writing.{all_but_last}
use Rattle.gw_addr.proofs.mask.Mask.put_text.Goals as goal

pub returns : goal.returns
returns c =
    let text = c.write_four-end.new.text in
    let end = c.write_four-end.result in
    subst (λ (t : List ℕ). IsAppended t c.args.out.now c.put_slice.new.out c.put_slice.result)
    (all_but_last text (four_text c.args.self.octets) end 46 (omega (arith, c.write_four-end.array_long, c.write_four-end.ensures.within))
    c.write_four-end.ensures.text)
    c.put_slice.ensures
