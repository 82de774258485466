use Rattle.std.proofs.Common.{rules, ◌≡◌, ◌∙◌, ℕ, Result, Ok, subst, sym}
use Rattle.std.specs.Global.{Vec}
use Rattle.std.specs.Prelude.{option_map, string_bytes}
use Rattle.gw_configuration.specs.Configuration.{Configuration}
use Rattle.gw_ending.specs.declared.fault.Fault.{Fault}
use Rattle.gw_tools.specs.Questioning.{SaysAnswer, asked_text}
use Rattle.gw_tools.specs.Saying.{SaysOf}
use Rattle.gw_verdicts.specs.questions.Words.{IsAnswerTo, QuestionText}
use Rattle.gw_tools.proofs.questioning.say_answer.Goals as goal

pub returns : goal.returns
returns c =
    let config = c.in_ok-config.config in
    let answer = c.in_ok-answer.answer in
    let said = c.ending.result in
    let words = asked_text c.args.asked.now.from.now (option_map string_bytes c.args.asked.now.to.now) c.args.asked.now.deed.now in
    let is : c.args.config ≡ Ok config = search rules in
    let answers : IsAnswerTo config words answer.text.items answer.outcome =
    subst (λ (asked : QuestionText). IsAnswerTo config asked answer.text.items answer.outcome) c.words_of.ensures c.in_ok-answer.ensures in
    let says : SaysAnswer words config (Ok said) = (
      (
        answer.outcome,
        subst (λ (text : Vec ℕ). IsAnswerTo config words text.items answer.outcome) (sym c.ending.ensures.text) answers,
        c.ending.ensures.ends ∙ c.outcome_of.ensures,
      ),
      c.ending.ensures.unprinted,
    ) in
    subst (λ (read : Result Configuration Fault). SaysOf (SaysAnswer words) read (Ok said)) (sym is) says
