use Rattle.std.specs.Io.KnownBytes.{Appends}
use Rattle.gw_ending.proofs.ending.write_name.Given as goal

abbrev pub invariant-loop-octet : goal.invariant-loop-octet
invariant-loop-octet g l =
    let held = g.E.OctetSink.held in
    let sure = g.E.OctetSink.NeverFails in
    Appends (held l.fn.errors) (held l.errors) l.yielded
    × (sure l.fn.errors → sure l.errors)
