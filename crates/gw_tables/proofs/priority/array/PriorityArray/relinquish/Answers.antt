use Rattle.std.proofs.Common.{◌∙◌}
use Rattle.gw_tables.proofs.priority_lemmas.History.{relinquish_next}
use Rattle.gw_tables.proofs.priority.array.PriorityArray.relinquish.Goals as goal

pub returns-clause-stands : goal.returns-clause-stands
returns-clause-stands g c =
    λ start history after. rw c.from.ensures (relinquish_next start history (record { slots = c.self.inside.slots; default = c.self.inside.default }) c.args.priority c.requires (c.self.view_is ∙ after))
