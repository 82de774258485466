use Rattle.std.proofs.Common.{◌++◌, ◌∷◌, [], codes, decimal, subst, sym, ℕ, OnOk}
use Rattle.std.specs.Io.KnownBytes.{Appends}
use Rattle.gw_ending.specs.Ending.{rest_of}
use Rattle.gw_ending.specs.declared.fault.Fault.{Fault}
use Rattle.gw_ending.proofs.ending.write_fault.Goals as goal

pub returns-in-Socket-clause-ok : goal.returns-in-Socket-clause-ok
returns-in-Socket-clause-ok g c =
    let held = g.E.OctetSink.held in
    let written = c.write_number-in-Socket in
    subst (λ (f : Fault). OnOk written.result (Appends (held c.args.errors.now) (held written.new.errors) (rest_of f))) (sym c.in-Socket.is)
    (subst (λ (n : ℕ). OnOk written.result (Appends (held c.args.errors.now) (held written.new.errors) (codes "socket failed on port " ++ (decimal n ++ 10 ∷ []))))
    c.from.ensures written.ensures.ok)

pub returns-in-CountEnd-clause-ok : goal.returns-in-CountEnd-clause-ok
returns-in-CountEnd-clause-ok g c =
    let held = g.E.OctetSink.held in
    let written = c.write_whole-in-CountEnd in
    subst (λ (f : Fault). OnOk written.result (Appends (held c.args.errors.now) (held written.new.sink) (rest_of f))) (sym c.in-CountEnd.is)
    written.ensures.ok
