use Rattle.std.proofs.Common.{◌≡◌, length, take}
use Rattle.gw_configuration.proofs.sameness.same.are_same.Given as goal

abbrev pub invariant-loop-place : goal.invariant-loop-place
invariant-loop-place g l = record { lengths : length l.some ≡ length l.others; front : take l.place l.some ≡ take l.place l.others }
