use Rattle.gw_relay.proofs.named.+authorize_references.Given as goal

abbrev pub decreases-authorize_references : goal.decreases-authorize_references
decreases-authorize_references g l = l.left
