use Rattle.gw_relay.proofs.named.+are_references.Given as goal

abbrev pub decreases-are_references : goal.decreases-are_references
decreases-are_references l = l.left
