use Rattle.gw_policy_review.proofs.lint.finding.searched.Goals as goal

pub returns : goal.returns
returns c = record {
  outcome = c.in_ok-found.found.outcome;
  right = c.in_ok-found.ensures.found;
  sought = c.in_ok-found.ensures.made;
  most = c.in_ok-found.ensures.most;
  shown = c.finding_by.ensures;
}
