use Rattle.std.proofs.Common.{rules, ◌≡◌, ◌∷◌, [], codes, ℕ, List, subst}
use Rattle.std.specs.Io.KnownBytes.{Appends}
use Rattle.gw_ending.specs.Ending.{trial_reason, trial_words}
use Rattle.gw_ending.proofs.AppendLemmas.{four_writes}
use Rattle.gw_ending.proofs.ending.write_trial_fault.Goals as goal

pub returns-clause-ok : goal.returns-clause-ok
returns-clause-ok g c =
    let held = g.E.OctetSink.held in
    let words : c.as_bytes.result.now ≡ trial_words c.args.why = search rules in
    let reason : c.as_bytes-2.result.now ≡ trial_reason c.args.why = search rules in
    four_writes c.write_whole-4.result (held c.args.errors.now) (held c.write_whole.new.sink) (held c.write_whole-2.new.sink)
    (held c.write_whole-3.new.sink) (held c.write_whole-4.new.sink) (codes "trial: ") (trial_words c.args.why) (trial_reason c.args.why) (10 ∷ [])
    c.in_ok-write_whole.ensures.ok
    (subst (λ (t : List ℕ). Appends (held c.write_whole.new.sink) (held c.write_whole-2.new.sink) t) words c.in_ok-write_whole-2.ensures.ok)
    (subst (λ (t : List ℕ). Appends (held c.write_whole-2.new.sink) (held c.write_whole-3.new.sink) t) reason c.in_ok-write_whole-3.ensures.ok)
    c.write_whole-4.ensures.ok
