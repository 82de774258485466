use Rattle.std.proofs.Common.{rules, ◌≡◌, ◌∷◌, [], ℕ, List, subst}
use Rattle.std.specs.Io.KnownBytes.{Appends}
use Rattle.gw_ending.specs.Ending.{store_words}
use Rattle.gw_ending.proofs.AppendLemmas.{three_writes}
use Rattle.gw_ending.proofs.ending.write_store_fault.Goals as goal

pub returns-clause-ok : goal.returns-clause-ok
returns-clause-ok g c =
    let held = g.E.OctetSink.held in
    let text : c.as_bytes.result.now ≡ c.args.text.now = search rules in
    let words : c.as_bytes-2.result.now ≡ store_words c.args.why = search rules in
    three_writes c.write_whole-3.result (held c.args.errors.now) (held c.write_whole.new.sink) (held c.write_whole-2.new.sink) (held c.write_whole-3.new.sink)
    c.args.text.now (store_words c.args.why) (10 ∷ [])
    (subst (λ (t : List ℕ). Appends (held c.args.errors.now) (held c.write_whole.new.sink) t) text c.in_ok-write_whole.ensures.ok)
    (subst (λ (t : List ℕ). Appends (held c.write_whole.new.sink) (held c.write_whole-2.new.sink) t) words c.in_ok-write_whole-2.ensures.ok)
    c.write_whole-3.ensures.ok
