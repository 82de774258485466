use Rattle.std.proofs.Common.{◌≡◌, ◌++◌, append_assoc}
use Rattle.std.specs.Prelude.{codes, decimal}
use Rattle.gw_addr.specs.Address.{text_of}
use Rattle.gw_policy_review.proofs.warnings_lemmas.Pieces.{four, pair}
use Rattle.gw_policy_review.proofs.warnings.station_oversights.put_apart_line.Goals as goal

pub returns : goal.returns
returns c =
    let number = decimal c.args.number in
    let address = text_of c.args.port.now.address in
    let last = codes " is on no subnet of the port's stations\n" in
    let first : c.put_text_number.new.out.items ≡ c.args.out.now.items ++ (codes "warning: port " ++ number) =
    pair c.args.out.now.items c.put_text_number.new.out.items (codes "warning: port ") number c.in_ok-put_text_number.ensures in
    let whole =
    four c.put_slice.result c.args.out.now.items c.put_text_number.new.out.items c.extend_from_slice.new.self.items c.put_text.new.out.items
    c.put_slice.new.out.items (codes "warning: port " ++ number) (codes ": address: ") address last first
    c.in_ok-extend_from_slice.ensures.items c.in_ok-put_text.ensures.ok c.put_slice.ensures.ok in
    rw (append_assoc (codes "warning: port ") number (codes ": address: " ++ (address ++ last))) at whole
