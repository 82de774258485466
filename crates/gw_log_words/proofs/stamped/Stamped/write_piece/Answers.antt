use Rattle.std.proofs.Common.{◌≡◌, ◌∙◌, ◌-◌, ℕ, suc, false, take, sym, ap, arith}
use Rattle.gw_log_words.specs.Stamped.{ends_in_stamp}
use Rattle.gw_log_words.proofs.StampLemmas.{piece_ends}
use Rattle.gw_log_words.proofs.stamped.Stamped.write_piece.Goals as goal

pub returns-clause-ends : goal.returns-clause-ends
returns-clause-ends g c =
    let n = c.in_ok-count.count in
    let piece = c.args.piece.now in
    let some = c.in_ok-count.ensures.some c.requires.some in
    let last : n ≡ suc (n - 1) = omega (arith, some) in
    sym (
    ap (λ (k : ℕ). ends_in_stamp false (take k piece)) last
    ∙ piece_ends piece (n - 1) c.requires.ends (omega (arith, some, c.in_ok-count.ensures.bound))
    )
