use Rattle.std.proofs.Common.{rules, ◌≡◌, ◌++◌, ℕ, codes, decimal, subst}
use Rattle.std.specs.Io.KnownBytes.{Appends}
use Rattle.gw_ending.proofs.reading_lemmas.AppendLemmas.{two_writes}
use Rattle.gw_tools.proofs.comparing.write_progress.Goals as goal

pub returns-clause-ok : goal.returns-clause-ok
returns-clause-ok g c =
    let held = g.E.OctetSink.held in
    let steps : c.from.result ≡ c.args.steps = search rules in
    two_writes c.write_number-2.result (held c.args.errors.now) (held c.write_number.new.errors) (held c.write_number-2.new.errors) _ _
    (subst (λ (n : ℕ). Appends (held c.args.errors.now) (held c.write_number.new.errors)
    (codes "bacgwctl: compared " ++ (decimal n ++ codes " of 65536 steps, "))) steps c.in_ok-write_number.ensures.ok)
    c.write_number-2.ensures.ok
