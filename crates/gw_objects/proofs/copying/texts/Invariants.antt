use Rattle.std.proofs.Common.{◌≡◌, take}
use Rattle.gw_objects.proofs.copying.texts.Given as goal

abbrev pub invariant-loop-one : goal.invariant-loop-one
invariant-loop-one l = l.copies ≡ take l.one-index l.texts
