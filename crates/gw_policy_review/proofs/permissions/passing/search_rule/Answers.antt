use Rattle.std.proofs.Common.{sym}
use Rattle.gw_policy_review.proofs.permissions_lemmas.Passage.{not_said, said_by}
use Rattle.gw_policy_review.proofs.permissions.passing.search_rule.Goals as goal

pub returns-then-not-is_said-clause-said : goal.returns-then-not-is_said-clause-said
returns-then-not-is_said-clause-said c =
    not_said c.args.quest.now.says c.args.quest.now.shapes.now c.args.quest.now.rules.now c.args.number c.args.steps
    (sym c.if-not-is_said.ensures)

pub returns-clause-said : goal.returns-clause-said
returns-clause-said c =
    said_by c.args.quest.now.says c.args.quest.now.shapes.now c.args.quest.now.rules.now c.args.number c.args.steps c.in_ok-found.found.steps
    c.in_ok-found.found.outcome (sym c.if-not-is_said.ensures) c.in_ok-found.ensures.made c.in_ok-found.ensures.most
