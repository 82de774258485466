use Rattle.std.proofs.Common.{◌≡◌, length}
use Rattle.gw_policy_text.specs.Parts.{peer_in}
use Rattle.gw_policy_text.proofs.EachAt.{IsReadAt}
use Rattle.gw_policy_text.proofs.port.entries.Given as goal

abbrev pub invariant-loop-place : goal.invariant-loop-place
invariant-loop-place l = record { read : IsReadAt (peer_in l.port) l.values l.place l.all; count : length l.all ≡ l.place }
