use Rattle.std.proofs.Common.{◌≡◌, Ok, false, rules}
use Rattle.gw_script.proofs.KnownTexts.{nothing_held}
use Rattle.gw_shell.proofs.DecidingLemmas.{known_on, read_whole}
use Rattle.gw_shell.proofs.deciding.read_script.Goals as goal

pub loop-chunk-init : goal.loop-chunk-init
loop-chunk-init g c = λ text known. nothing_held _ _ text c.new-script.ensures.items known

pub loop-chunk-preserved : goal.loop-chunk-preserved
loop-chunk-preserved g c = λ text known. known_on _ _ text c.in-Ok-true.ensures.text (c.loop-chunk.invariant text known)

pub returns-in-Ok-false-clause-octets : goal.returns-in-Ok-false-clause-octets
returns-in-Ok-false-clause-octets g c = λ text known.
    let ended : c.read_chunk.result ≡ Ok false = search rules in
    read_whole _ _ text (c.read_chunk.ensures.end ended) (known_on _ _ text c.in-Ok-false.ensures.text (c.loop-chunk.invariant text known))
