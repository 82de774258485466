use Rattle.std.proofs.Common.{◌-◌, ◌+◌, ◌++◌, List, ℕ, length, take, ap, ◌∙◌, arith}
use Rattle.std.proofs.lemmas.Slice.{take-put_mid}
use Rattle.gw_addr.proofs.digits.write_port.Goals as goal

pub returns-clause-text : goal.returns-clause-text
returns-clause-text c =
    let a = c.args.place in
    let text = c.args.text.now in
    let after = c.copy_from_slice.ensures.after in
    take-put_mid a (a + 5 - a) text c.copy_from_slice.new.self (a + 5) (omega (arith, ap length after)) (omega (arith, c.requires, c.fits-text))
    ∙ ap (λ (t : List ℕ). take a text ++ t) (after ∙ c.five_digits.ensures)
