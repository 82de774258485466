use Rattle.std.proofs.Common.{rules, ◌≡◌, ◌++◌, ◌∷◌, [], codes, decimal, ℕ, List, OnOk, subst}
use Rattle.std.specs.Io.KnownBytes.{Appends}
use Rattle.gw_ending.specs.Ending.{cause_of}
use Rattle.gw_ending.proofs.AppendLemmas.{line_joined, three_writes}
use Rattle.gw_ending.proofs.ending.write_state_fault.Goals as goal

pub returns-clause-ok : goal.returns-clause-ok
returns-clause-ok g c =
    let held = g.E.OctetSink.held in
    let words : c.as_bytes.result.now ≡ cause_of c.args.flaw.kind = search rules in
    let front = codes "state: line " ++ (decimal c.args.flaw.line ++ codes ": ") in
    subst (λ (text : List ℕ). OnOk c.write_whole-2.result (Appends (held c.args.errors.now) (held c.write_whole-2.new.sink) text))
    (line_joined (codes "state: line ") (decimal c.args.flaw.line) (codes ": ") (cause_of c.args.flaw.kind) (10 ∷ []))
    (three_writes c.write_whole-2.result (held c.args.errors.now) (held c.write_number.new.errors) (held c.write_whole.new.sink) (held c.write_whole-2.new.sink)
    front (cause_of c.args.flaw.kind) (10 ∷ []) c.in_ok-write_number.ensures.ok
    (subst (λ (text : List ℕ). Appends (held c.write_number.new.errors) (held c.write_whole.new.sink) text) words c.in_ok-write_whole.ensures.ok)
    c.write_whole-2.ensures.ok)
