use Rattle.std.proofs.Common.{ℕ, ◌∷◌, ◌++◌, [], OnOk, subst}
use Rattle.std.specs.Io.KnownBytes.{Appends}
use Rattle.std.specs.Prelude.{codes, decimal}
use Rattle.gw_notices.proofs.AppendLemmas.{two_writes}
use Rattle.gw_notices.proofs.stats.write_reloads_line.Goals as goal

pub returns-clause-ok : goal.returns-clause-ok
returns-clause-ok g c =
    let r = c.write_count_line.result in
    let before = g.E.OctetSink.held c.args.errors.now in
    let one = g.E.OctetSink.held c.write_count.new.sink in
    let two = g.E.OctetSink.held c.write_count-2.new.sink in
    let after = g.E.OctetSink.held c.write_count_line.new.sink in
    let first = subst (λ (n : ℕ). Appends before one (codes "stats reloads=" ++ decimal n)) c.from.ensures c.in_ok-write_count.ensures.ok in
    let second = subst (λ (n : ℕ). Appends one two (codes " refused=" ++ decimal n)) c.from-2.ensures c.in_ok-write_count-2.ensures.ok in
    let third = subst (λ (n : ℕ). OnOk r (Appends two after (codes " since=" ++ (decimal n ++ 10 ∷ [])))) c.from-3.ensures c.write_count_line.ensures.ok in
    two_writes r before one after _ _ first (two_writes r one two after _ _ second third)
