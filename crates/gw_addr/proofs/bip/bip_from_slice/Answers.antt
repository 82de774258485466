use Rattle.std.proofs.Common.{Ok, ap, ◌∙◌, arith}
use Rattle.gw_addr.specs.Address.{address_in}
use Rattle.gw_addr.proofs.Addresses.{address_in-whole, six_items}
use Rattle.gw_addr.proofs.bip.bip_from_slice.Goals as goal

pub returns-clause-only : goal.returns-clause-only
returns-clause-only c = λ a is e.
    let items = six_items c.args.octets.now (omega (arith, c.in-len6)) in
    ap (λ b. Ok b) (c.from_octets.ensures ∙ ap address_in (items ∙ e) ∙ address_in-whole a is)
