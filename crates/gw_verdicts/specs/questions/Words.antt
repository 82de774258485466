-- A question in words, and the answer to it.
use Rattle.std.specs.Prelude.{◌≡◌, ℕ, ◌==◌, Bool, true, false, List, [], Option, Result, Ok, Err, if◌then◌else◌}
use Rattle.std.specs.Option.{option_map}
use Rattle.gw_configuration.specs.Configuration.{Configuration}
use Rattle.gw_core.specs.History.{no_counts, state_after}
use Rattle.gw_verdicts.specs.declared.questions.answer.AnswerKind.{AnswerKind}
use Rattle.gw_verdicts.specs.declared.questions.answer.AnswerKind.TheVariants as outcome
use Rattle.gw_verdicts.specs.declared.questions.call.Call.{Call}
use Rattle.gw_verdicts.specs.declared.questions.deed.Deed.{Deed}
use Rattle.gw_verdicts.specs.declared.questions.deed.Deed.TheVariants as deeds
use Rattle.gw_verdicts.specs.declared.questions.fault.PlaceFault.{PlaceFault}
use Rattle.gw_verdicts.specs.declared.questions.fault.Unasked.{Unasked}
use Rattle.gw_verdicts.specs.declared.questions.fault.Unasked.TheVariants as unasked
use Rattle.gw_verdicts.specs.declared.questions.place.Question.{Question}
use Rattle.gw_verdicts.specs.declared.questions.place.Station.{Station}
use Rattle.gw_verdicts.specs.declared.questions.place.Addressee.{Addressee}
use Rattle.gw_verdicts.specs.declared.questions.place.Addressee.TheVariants as target
use Rattle.gw_verdicts.specs.declared.questions.words.Subject.{Subject}
use Rattle.gw_verdicts.specs.declared.questions.words.Subject.TheVariants as said
use Rattle.gw_verdicts.specs.declared.questions.words.QuestionWords.{QuestionWords}
use Rattle.gw_verdicts.specs.questions.Answers.{answer_text, may, outcome_of}
use Rattle.gw_verdicts.specs.questions.Calls.{IsCallAnswer, IsRegistrationOf, IsWhoIsOf}
use Rattle.gw_verdicts.specs.questions.Deeds.{DeedText, IsDeedOf, deed_text, deed_view, result_of}
use Rattle.gw_verdicts.specs.questions.Read.{IsStationOf, IsTargetIn, Text}
use Rattle.gw_verdicts.specs.questions.Unasked.{unasked_text}

-- what a question is about: whether a station may do this with another, who hears its Who-Is, whether it may register
pub data SubjectText : Type 0 where
  of_deed : DeedText → SubjectText
  of_who_is : SubjectText
  of_registration : SubjectText

abbrev pub subject_text : Subject → SubjectText
subject_text (said.Deed deed) = of_deed (deed_text deed)
subject_text said.WhoIs = of_who_is
subject_text said.Registration = of_registration

-- a question in words: who asks, whom if that is said, and what about
pub record QuestionText : Type 0 where
  pub from : Text
  pub to : Option Text
  pub subject : SubjectText

abbrev pub question_text : QuestionWords → QuestionText
question_text words = record {
  from = words.from.now;
  to = option_map (λ text. text.now) words.to;
  subject = subject_text words.subject;
}

-- both lie by one port, so that the gateway isn't between them
abbrev pub are_by_one_port : Station → Addressee → Bool
are_by_one_port asker (target.Station station) = station.port == asker.port
are_by_one_port asker (target.Device network) = false

-- the gateway's own device is asked for a service
abbrev pub is_service : Deed → Bool
is_service (deeds.Serve service) = true
is_service _ = false

abbrev pub is_service_of_device : Addressee → Deed → Bool
is_service_of_device (target.Device network) deed = is_service deed
is_service_of_device (target.Station station) deed = false

abbrev pub question_by : Station → Addressee → Deed → Result Question Unasked
question_by asker whom deed =
    if are_by_one_port asker whom then Err unasked.OnePort
    else if is_service_of_device whom deed then Err unasked.OfDevice
    else Ok (record { asker = asker; target = whom; deed = deed })

-- the question of these parts, or what the first fault among them says
abbrev pub joined : Result Station PlaceFault → Result Addressee PlaceFault → Result Deed Unasked → Result Question Unasked
joined (Err f) whom deed = Err (unasked.From f)
joined (Ok asker) (Err f) deed = Err (unasked.To f)
joined (Ok asker) (Ok whom) (Err u) = Err u
joined (Ok asker) (Ok whom) (Ok deed) = question_by asker whom deed

-- the question that words ask, or why they ask none
pub record IsQuestionOf (c : Configuration) (who : Text) (goal : Option Text) (words : DeedText) (question : Result Question Unasked)
    : Type 0 where
  pub asker : Result Station PlaceFault
  pub from : IsStationOf c who asker
  pub whom : Result Addressee PlaceFault
  pub to : IsTargetIn c goal whom
  pub wanted : Result Deed Unasked
  pub deed : IsDeedOf words (result_of deed_view wanted)
  pub joined : question ≡ joined asker whom wanted

-- ---- the answer

-- what is said of words that ask no question
pub record IsUnasked (u : Unasked) (text : List ℕ) (end : AnswerKind) : Type 0 where
  pub reason : text ≡ unasked_text u
  pub outcome : end ≡ outcome.Unasked

-- the answer to a question by a gateway of a configuration that has taken nothing yet
pub record IsAnswer (c : Configuration) (q : Question) (text : List ℕ) (end : AnswerKind) : Type 0 where
  pub lines : text ≡ answer_text (state_after c no_counts []) q
  pub outcome : end ≡ outcome_of (may (state_after c no_counts []) q)

abbrev pub IsAnswered : Configuration → Result Question Unasked → List ℕ → AnswerKind → Type 0
IsAnswered c (Ok q) text end = IsAnswer c q text end
IsAnswered c (Err u) text end = IsUnasked u text end

abbrev pub IsDeedAnswered : Configuration → (from : Text) → (to : Option Text) → DeedText → List ℕ → AnswerKind → Type 0
IsDeedAnswered c from to deed text end =
    (question : Result Question Unasked) × IsQuestionOf c from to deed question × IsAnswered c question text end

abbrev pub IsCallAnswered : Configuration → Result Call Unasked → List ℕ → AnswerKind → Type 0
IsCallAnswered c (Ok q) text end = IsCallAnswer c q text end
IsCallAnswered c (Err u) text end = IsUnasked u text end

abbrev pub IsAnswerAbout : Configuration → (from : Text) → (to : Option Text) → SubjectText → List ℕ → AnswerKind → Type 0
IsAnswerAbout c from to (of_deed deed) text end = IsDeedAnswered c from to deed text end
IsAnswerAbout c from to of_who_is text end = (q : Result Call Unasked) × IsWhoIsOf c from to q × IsCallAnswered c q text end
IsAnswerAbout c from to of_registration text end =
    (q : Result Call Unasked) × IsRegistrationOf c from to q × IsCallAnswered c q text end

-- the answer to words: to the question that they ask, or why they ask none
abbrev pub IsAnswerTo : Configuration → QuestionText → List ℕ → AnswerKind → Type 0
IsAnswerTo c words text end = IsAnswerAbout c words.from words.to words.subject text end
