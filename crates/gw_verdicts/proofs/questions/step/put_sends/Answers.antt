use Rattle.std.proofs.Common.{◌∙◌, ◌++◌, ◌≡◌, ℕ, List, sym, ap, subst}
use Rattle.std.specs.Prelude.{OnOk}
use Rattle.std.specs.List.{flat_map}
use Rattle.gw_relay.specs.Sends.{Sending}
use Rattle.gw_verdicts.specs.questions.Answers.{sent_line}
use Rattle.gw_verdicts.proofs.questions_lemmas.Sent.{sent_text}
use Rattle.gw_verdicts.proofs.questions.step.put_sends.Goals as goal

pub returns : goal.returns
returns c =
    let same = sym (sent_text c.batches.result.now) ∙ ap (λ (sends : List Sending). flat_map sent_line sends) c.batches.ensures.all in
    subst (λ (text : List ℕ). OnOk c.put_batches.result (c.put_batches.new.text.items ≡ c.args.text.now.items ++ text)) same
    c.put_batches.ensures
