use Rattle.std.proofs.Common.{◌∙◌, sym}
use Rattle.gw_ask_sets.proofs.shapes_lemmas.Covering.{negated, nothing_met}
use Rattle.gw_ask_sets.proofs.shapes.cover.matches_nothing.Goals as goal

pub returns-clause-nothing : goal.returns-clause-nothing
returns-clause-nothing c t = nothing_met c.args.shapes.now c.args.rule.now (sym c.any_meets.ensures ∙ negated c.any_meets.result t)
