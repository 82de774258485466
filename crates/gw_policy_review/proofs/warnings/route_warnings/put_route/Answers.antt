use Rattle.gw_policy_review.proofs.warnings.route_warnings.put_route.Goals as goal

pub returns : goal.returns
returns c = rw (c.saturating_sub-place.ensures, c.from.ensures) at c.put_next.ensures
