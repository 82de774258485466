use Rattle.std.proofs.Common.{◌∙◌, ap, sym, Bool}
use Rattle.std.specs.Prelude.{if◌then◌else◌}
use Rattle.gw_core.specs.Asked.{asked_from}
use Rattle.gw_watchers.specs.Records.{decided_otherwise, denied_by}
use Rattle.gw_watchers.proofs.trial.TrialRecordChoice.chosen.Goals as goal

pub returns-then-self : goal.returns-then-self
returns-then-self c = λ from.
    let rules = c.args.self.now.policy in
    let asked = asked_from from c.args.verdict.now in
    c.denied_by.ensures from
    ∙ sym (ap (λ (all : Bool). if all then denied_by rules asked else decided_otherwise rules asked) c.if-self.true)

pub returns-else-self : goal.returns-else-self
returns-else-self c = λ from.
    let rules = c.args.self.now.policy in
    let asked = asked_from from c.args.verdict.now in
    c.decided_otherwise.ensures from
    ∙ sym (ap (λ (all : Bool). if all then denied_by rules asked else decided_otherwise rules asked) c.if-self.false)
