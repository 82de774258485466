use Rattle.std.proofs.Common.{◌≡◌, length, map}
use Rattle.toml.specs.View.{view}
use Rattle.gw_policy_text.specs.Policy.{set_in}
use Rattle.gw_policy_text.proofs.EachAt.{IsReadAt}
use Rattle.gw_policy_text.proofs.sets.sets.Given as goal

abbrev pub invariant-loop-place : goal.invariant-loop-place
invariant-loop-place l = record { read : IsReadAt (set_in (map view l.rules) (map view l.assertions)) l.values l.place l.all; count : length l.all ≡ l.place }
