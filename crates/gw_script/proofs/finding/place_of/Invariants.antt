use Rattle.std.specs.Prelude.{◌*◌}
use Rattle.gw_script.specs.internal.Finding.{LacksTo}
use Rattle.gw_script.proofs.finding.place_of.Given as goal

abbrev pub invariant-loop-block : goal.invariant-loop-block
invariant-loop-block l = LacksTo l.wanted l.text (16 * l.block)

abbrev pub invariant-loop-place : goal.invariant-loop-place
invariant-loop-place l = LacksTo l.wanted l.text l.place
