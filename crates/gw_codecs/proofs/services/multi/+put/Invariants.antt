use Rattle.std.proofs.Common.{length}
use Rattle.gw_codecs.proofs.services.multi.+put.Given as goal

abbrev pub decreases-put : goal.decreases-put
decreases-put l = length l.references.now
