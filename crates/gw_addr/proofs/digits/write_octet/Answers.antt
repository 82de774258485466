use Rattle.std.proofs.Common.{◌≡◌, ◌<◌, ◌+◌, ◌-◌, ◌*◌, ◌++◌, ◌∷◌, [], List, ℕ, take, drop, length, sym, ap, subst, ◌∙◌, arith}
use Rattle.std.specs.Prelude.{slice_range}
use Rattle.gw_addr.specs.declared.digits.TheConstants.{OCTETS}
use Rattle.gw_addr.proofs.Written.{IsInTable, in_table, part_written}
use Rattle.gw_addr.proofs.digits.write_octet.Goals as goal

pub returns-clause-text : goal.returns-clause-text
returns-clause-text c =
    let n = c.args.number in
    let a = c.args.place in
    let d = c.digit_count.result in
    let row = c.copy_from_slice.new.self in
    let after : row ≡ slice_range OCTETS (4 * c.from-start.result) (4 * c.from-start.result + 4) = c.copy_from_slice.ensures.after in
    let count : 4 * c.from-start.result + 4 - 4 * c.from-start.result ≡ 4 = omega arith in
    let own : row ≡ take 4 (drop (4 * n) OCTETS) =
    after ∙ ap (λ k. take k (drop (4 * c.from-start.result) OCTETS)) count ∙ ap (λ k. take 4 (drop (4 * k) OCTETS)) c.from-start.ensures in
    let is : IsInTable n row = subst (IsInTable n) (sym own) (in_table n c.ranges.number.fits) in
    let few : d < length row = omega (arith, is.four, c.digit_count.ensures.few) in
    part_written a (a + 4 - a) d c.args.behind c.args.text.now row (omega (arith, c.requires, c.fits-text)) few
    ∙ ap (λ (t : List ℕ). take a c.args.text.now ++ (t ++ c.args.behind ∷ []))
    (ap (λ k. take k row) c.digit_count.ensures.digits ∙ is.digits)
