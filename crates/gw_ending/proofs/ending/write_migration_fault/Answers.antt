use Rattle.std.proofs.Common.{rules, ◌≡◌, ◌∷◌, [], codes, ℕ, List, subst}
use Rattle.std.specs.Io.KnownBytes.{Appends}
use Rattle.gw_ending.specs.Ending.{reason_of}
use Rattle.gw_ending.proofs.AppendLemmas.{three_writes}
use Rattle.gw_ending.proofs.ending.write_migration_fault.Goals as goal

pub returns-clause-ok : goal.returns-clause-ok
returns-clause-ok g c =
    let held = g.E.OctetSink.held in
    let name : c.as_bytes.result.now ≡ reason_of c.args.fault = search rules in
    three_writes c.write_whole-3.result (held c.args.errors.now) (held c.write_whole.new.sink) (held c.write_whole-2.new.sink) (held c.write_whole-3.new.sink)
    (codes "migration: ") (reason_of c.args.fault) (10 ∷ []) c.in_ok-write_whole.ensures.ok
    (subst (λ (text : List ℕ). Appends (held c.write_whole.new.sink) (held c.write_whole-2.new.sink) text) name c.in_ok-write_whole-2.ensures.ok)
    c.write_whole-3.ensures.ok
