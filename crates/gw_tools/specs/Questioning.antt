-- What `ask` says, and how it ends: over the definitions of `gw_verdicts`.
use Rattle.std.specs.Prelude.{◌≡◌, ℕ, List, Option, Result, Ok, Err, option_map, string_bytes}
use Rattle.gw_configuration.specs.Configuration.{Configuration}
use Rattle.gw_ending.specs.declared.fault.Fault.{Fault}
use Rattle.gw_ending.specs.declared.fault.Fault.TheVariants as fault
use Rattle.gw_ending.specs.declared.reading.printing.Said.{Said}
use Rattle.gw_tool_line.specs.declared.ask_choice.DeedWords.{DeedWords}
use Rattle.gw_tool_line.specs.declared.ask_choice.DeedWords.TheVariants as deeds
use Rattle.gw_tools.specs.Saying.{IsMemory, Says}
use Rattle.gw_verdicts.specs.declared.questions.answer.AnswerKind.{AnswerKind}
use Rattle.gw_verdicts.specs.declared.questions.answer.AnswerKind.TheVariants as answer
use Rattle.gw_verdicts.specs.questions.Deeds.{to_read, to_serve, to_write}
use Rattle.gw_verdicts.specs.questions.Words.{IsAnswerTo, QuestionText, SubjectText, of_deed, of_registration, of_who_is}

-- what a station asks for
abbrev pub subject_text : DeedWords → SubjectText
subject_text (deeds.Read object) = of_deed (to_read (string_bytes object))
subject_text (deeds.Write object priority) = of_deed (to_write (string_bytes object) (option_map string_bytes priority))
subject_text (deeds.Serve service) = of_deed (to_serve (string_bytes service))
subject_text deeds.WhoIs = of_who_is
subject_text deeds.Register = of_registration

-- a question in the words of a call
abbrev pub asked_text : (from : List ℕ) → (to : Option (List ℕ)) → DeedWords → QuestionText
asked_text from to deed = record { from = from; to = to; subject = subject_text deed }

-- how the program ends after an answer: no is what `NotAllowed` says, and words that ask no question are no command line
abbrev pub outcome_of_answer : AnswerKind → Result (Unit {0}) Fault
outcome_of_answer answer.Yes = Ok tt
outcome_of_answer answer.No = Err fault.NotAllowed
outcome_of_answer answer.Unasked = Err fault.CommandLine

-- what is said of a question under a configuration: the answer, which says how the command ends; or memory ran out
abbrev pub SaysAnswer : QuestionText → Configuration → Result Said Fault → Type 0
SaysAnswer words c said =
    Says (λ text ends. (end : AnswerKind) × IsAnswerTo c words text end × (ends ≡ outcome_of_answer end)) IsMemory said
