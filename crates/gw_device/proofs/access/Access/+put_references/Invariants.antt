use Rattle.std.proofs.Common.{length}
use Rattle.gw_device.proofs.access.Access.+put_references.Given as goal

abbrev pub decreases-put_references : goal.decreases-put_references
decreases-put_references g l = length l.references.now
