use Rattle.std.proofs.Common.{◌≡◌, ◌++◌, [], subst, sym, Bool}
use Rattle.std.specs.Prelude.{if◌then◌else◌, OnOk}
use Rattle.gw_core.specs.Asked.{asked_from}
use Rattle.gw_watchers.specs.Records.{other_front}
use Rattle.gw_watchers.proofs.trial.TrialRecordChoice.put_front.Goals as goal

pub returns : goal.returns
returns c = λ from.
    let asked = asked_from from c.args.verdict.now in
    subst (λ (all : Bool). OnOk c.put_other_front.result (c.put_other_front.new.out.items
    ≡ c.args.out.now.items ++ (if all then [] else other_front c.args.rules.now asked))) (sym c.if-self.false)
    (c.put_other_front.ensures from)
