use Rattle.std.proofs.Common.{◌≡◌, ◌++◌, append_assoc}
use Rattle.std.specs.Prelude.{codes, decimal}
use Rattle.gw_addr.specs.Address.{text_of}
use Rattle.gw_policy_review.proofs.warnings_lemmas.Pieces.{five, pair}
use Rattle.gw_policy_review.proofs.warnings.station_oversights.put_unheard_line.Goals as goal

pub returns : goal.returns
returns c =
    let number = decimal c.args.number in
    let item = decimal c.args.item in
    let address = text_of c.args.peer in
    let last = codes " is no station of the port, nor is a subnet for it, and no rule lets it enter: what it passes on is a stranger's\n" in
    let first : c.put_text_number.new.out.items ≡ c.args.out.now.items ++ (codes "warning: port " ++ number) =
    pair c.args.out.now.items c.put_text_number.new.out.items (codes "warning: port ") number c.in_ok-put_text_number.ensures in
    let second : c.put_text_number-2.new.out.items ≡ c.put_text_number.new.out.items ++ (codes ": peer " ++ item) =
    pair c.put_text_number.new.out.items c.put_text_number-2.new.out.items (codes ": peer ") item c.in_ok-put_text_number-2.ensures in
    let whole =
    five c.put_slice.result c.args.out.now.items c.put_text_number.new.out.items c.put_text_number-2.new.out.items
    c.extend_from_slice.new.self.items c.put_text.new.out.items c.put_slice.new.out.items (codes "warning: port " ++ number)
    (codes ": peer " ++ item) (codes ": address: ") address last first second c.in_ok-extend_from_slice.ensures.items
    c.in_ok-put_text.ensures.ok c.put_slice.ensures.ok in
    rw (
      append_assoc (codes "warning: port ") number ((codes ": peer " ++ item) ++ (codes ": address: " ++ (address ++ last))),
      append_assoc (codes ": peer ") item (codes ": address: " ++ (address ++ last)),
    ) at whole
