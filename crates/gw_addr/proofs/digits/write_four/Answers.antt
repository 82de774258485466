use Rattle.gw_addr.proofs.Writing.{four_behind}
use Rattle.gw_addr.proofs.digits.write_four.Goals as goal

pub returns-clause-text : goal.returns-clause-text
returns-clause-text c =
    rw (
      c.write_octet.ensures.text,
      c.write_octet-place-3.ensures.text,
      c.write_octet-place-2.ensures.text,
      c.write_octet-place.ensures.text,
    )
    (four_behind c.args.octets c.args.behind)
