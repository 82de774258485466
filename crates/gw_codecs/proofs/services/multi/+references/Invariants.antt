use Rattle.gw_codecs.proofs.services.multi.+references.Given as goal

abbrev pub decreases-references : goal.decreases-references
decreases-references l = l.left
