use Rattle.std.proofs.Common.{rules, ◌≡◌, decimal, ℕ, List, OnOk, subst}
use Rattle.std.specs.Io.KnownBytes.{Appends}
use Rattle.gw_ending.proofs.AppendLemmas.{three_writes}
use Rattle.gw_ending.proofs.ending.write_number.Goals as goal

pub returns-clause-ok : goal.returns-clause-ok
returns-clause-ok g c =
    let held = g.E.OctetSink.held in
    let text : c.as_bytes.result.now ≡ c.args.text.now = search rules in
    let digits : c.as_bytes-2.result.now ≡ decimal c.args.number = search rules in
    let behind : c.as_bytes-3.result.now ≡ c.args.behind.now = search rules in
    three_writes c.write_whole-3.result (held c.args.errors.now) (held c.write_whole.new.sink) (held c.write_whole-2.new.sink) (held c.write_whole-3.new.sink)
    c.args.text.now (decimal c.args.number) c.args.behind.now
    (subst (λ (t : List ℕ). Appends (held c.args.errors.now) (held c.write_whole.new.sink) t) text c.in_ok-write_whole.ensures.ok)
    (subst (λ (t : List ℕ). Appends (held c.write_whole.new.sink) (held c.write_whole-2.new.sink) t) digits c.in_ok-write_whole-2.ensures.ok)
    (subst (λ (t : List ℕ). OnOk c.write_whole-3.result (Appends (held c.write_whole-2.new.sink) (held c.write_whole-3.new.sink) t)) behind c.write_whole-3.ensures.ok)
