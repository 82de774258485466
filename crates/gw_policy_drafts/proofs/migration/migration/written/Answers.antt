use Rattle.std.proofs.Common.{◌∙◌, ◌++◌, ap, List, ℕ}
use Rattle.gw_policy_drafts.proofs.migration.migration.written.Goals as goal

pub returns : goal.returns
returns c =
    let front = c.in_ok-front.front.items in
    let rest = c.in_ok-rest.rest.items in record {
      front = front;
      rest = rest;
      parts = c.in_ok-text.ensures ∙ ap (λ (ports : List ℕ). front ++ (ports ++ rest)) c.in_ok-ports.ensures;
    }
