use Rattle.std.proofs.Common.{◌≡◌, ◌++◌, append_assoc}
use Rattle.std.specs.Prelude.{codes, decimal}
use Rattle.gw_policy_review.specs.warnings.Oversights.{hostless_words}
use Rattle.gw_policy_review.proofs.warnings_lemmas.Pieces.{four, pair}
use Rattle.gw_policy_review.proofs.warnings.station_oversights.put_hostless_line.Goals as goal

pub returns : goal.returns
returns c =
    let number = decimal c.args.number in
    let item = decimal c.args.item in
    let first : c.put_text_number.new.out.items ≡ c.args.out.now.items ++ (codes "warning: port " ++ number) =
    pair c.args.out.now.items c.put_text_number.new.out.items (codes "warning: port ") number c.in_ok-put_text_number.ensures in
    let second : c.put_text_number-2.new.out.items ≡ c.put_text_number.new.out.items ++ (codes ": stations: item " ++ item) =
    pair c.put_text_number.new.out.items c.put_text_number-2.new.out.items (codes ": stations: item ") item c.in_ok-put_text_number-2.ensures in
    let whole =
    four c.put_hostless_words.result c.args.out.now.items c.put_text_number.new.out.items c.put_text_number-2.new.out.items
    c.extend_from_slice.new.self.items c.put_hostless_words.new.out.items (codes "warning: port " ++ number) (codes ": stations: item " ++ item)
    (codes ": ") (hostless_words c.args.subnet) first second c.in_ok-extend_from_slice.ensures.items c.put_hostless_words.ensures in
    rw (
      append_assoc (codes "warning: port ") number ((codes ": stations: item " ++ item) ++ (codes ": " ++ hostless_words c.args.subnet)),
      append_assoc (codes ": stations: item ") item (codes ": " ++ hostless_words c.args.subnet),
    ) at whole
