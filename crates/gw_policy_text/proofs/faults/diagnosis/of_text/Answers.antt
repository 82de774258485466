use Rattle.std.proofs.Common.{rules, ◌≡◌, ◌++◌, ℕ, List, codes, None}
use Rattle.gw_configuration.specs.Located.{Located, of_text}
use Rattle.gw_configuration.specs.Shown.{shown}
use Rattle.gw_policy_text.specs.faults.Explanation.{IsTextWanted}
use Rattle.gw_policy_text.specs.faults.FaultWords.{fault_words}
use Rattle.gw_policy_text.proofs.faults_lemmas.Explanations.{explained}
use Rattle.gw_policy_text.proofs.faults.diagnosis.of_text.Goals as goal

pub returns : goal.returns
returns c found top is =
    let same : c.args.fault_named ≡ c.args.fault = search rules in
    let last = c.in_ok-wanted.wanted.items in
    let words : c.in_ok-of_words.field-0 ≡ shown (codes "the text: " ++ fault_words c.args.fault None ++ last) = search rules in
    explained c.args.text.now (of_text c.args.fault_named) top (λ (at : Located) (w : List ℕ). IsTextWanted c.args.text.now w) c.args.fault c.in_ok-of_words.field-0 last found
    same words c.in_ok-wanted.ensures is
