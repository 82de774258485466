use Rattle.std.proofs.Common.{rules, ◌≡◌, ◌∷◌, [], codes, decimal, ℕ, List, subst}
use Rattle.std.specs.Io.KnownBytes.{Appends}
use Rattle.gw_service.proofs.HoldingLemmas.{five_writes}
use Rattle.gw_service.proofs.holding.write_held_line.Goals as goal

pub returns-clause-ok : goal.returns-clause-ok
returns-clause-ok g c =
    let held = g.E.OctetSink.held in
    let first : c.as_bytes.result.now ≡ decimal c.args.withheld = search rules in
    let second : c.as_bytes-2.result.now ≡ decimal c.args.waiting = search rules in
    five_writes c.write_whole-5.result (held c.args.errors.now) (held c.write_whole.new.sink) (held c.write_whole-2.new.sink)
    (held c.write_whole-3.new.sink) (held c.write_whole-4.new.sink) (held c.write_whole-5.new.sink) (codes "stats held=") (decimal c.args.withheld)
    (codes " waiting=") (decimal c.args.waiting) (10 ∷ []) c.in_ok-write_whole.ensures.ok
    (subst (λ (text : List ℕ). Appends (held c.write_whole.new.sink) (held c.write_whole-2.new.sink) text) first
    c.in_ok-write_whole-2.ensures.ok) c.in_ok-write_whole-3.ensures.ok
    (subst (λ (text : List ℕ). Appends (held c.write_whole-3.new.sink) (held c.write_whole-4.new.sink) text) second
    c.in_ok-write_whole-4.ensures.ok) c.write_whole-5.ensures.ok
