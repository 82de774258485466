-- The answer to a question: what a gateway does about its request, and about the answer to that, in words.
use Rattle.std.specs.Prelude.{ℕ, Bool, false, not, ◌&&◌, ◌==◌, List, [], ◌∷◌, ◌++◌, Option, find, codes}
use Rattle.std.specs.Prelude.{if◌then◌else◌}
use Rattle.std.specs.Fmt.{decimal}
use Rattle.std.specs.List.{flat_map, list_any}
use Rattle.std.specs.Option.{option_map_or}
use Rattle.gw_addr.specs.Address.{text_of}
use Rattle.gw_addr.specs.declared.bip.BipAddr.{BipAddr}
use Rattle.gw_audit.specs.declared.denial.Denial.{Denial}
use Rattle.gw_configuration.specs.Configuration.{is_same_address}
use Rattle.gw_core.specs.Asked.{asked_at}
use Rattle.gw_core.specs.Denials.{rule_name}
use Rattle.gw_core.specs.Effects.{effects_at}
use Rattle.gw_core.specs.History.{next}
use Rattle.gw_core.specs.State.{State}
use Rattle.gw_core.specs.declared.asked.Asked.{Asked}
use Rattle.gw_log_words.specs.Words.{words}
use Rattle.gw_relay.specs.Sends.{Batch, Sending}
use Rattle.gw_rules.specs.declared.rule.Rule.{Rule}
use Rattle.gw_script.specs.Event.{Event}
use Rattle.gw_verdicts.specs.declared.questions.answer.AnswerKind.{AnswerKind}
use Rattle.gw_verdicts.specs.declared.questions.answer.AnswerKind.TheVariants as outcome
use Rattle.gw_verdicts.specs.declared.questions.place.Question.{Question}
use Rattle.gw_verdicts.specs.declared.questions.place.Station.{Station}
use Rattle.gw_verdicts.specs.declared.questions.place.Addressee.{Addressee}
use Rattle.gw_verdicts.specs.declared.questions.place.Addressee.TheVariants as target
use Rattle.gw_verdicts.specs.questions.Datagrams.{answer_event, request_event}
use Rattle.gw_verdicts.specs.questions.Refusals.{is_refusal}

-- ---- what a gateway does about a datagram, in words

-- an ask as the log has it, but for its number and its tick, which the words leave out
abbrev pub logged : List Rule → Asked → Denial
logged rules asked = record {
  number = 1;
  tick = 0;
  port = asked.port;
  source = asked.source;
  ask = asked.verdict.ask;
  rule = rule_name rules asked.verdict.by;
}

-- the words of an ask, and which rule allows or denies it
abbrev pub ask_line : List Rule → Asked → List ℕ
ask_line rules asked = words asked.verdict.is_allowed (logged rules asked) ++ 10 ∷ []

-- `<address> by port <n>`, after a word
abbrev pub port_text : ℕ → List ℕ
port_text port = codes " by port " ++ decimal port ++ 10 ∷ []

abbrev pub way_line : (word : List ℕ) → BipAddr → ℕ → List ℕ
way_line word address port = word ++ text_of address ++ port_text port

abbrev pub sent_line : Sending → List ℕ
sent_line sent = way_line (codes "sent to ") sent.to sent.port

-- a line for each address that a message goes to
abbrev pub target_lines : (port : ℕ) → List BipAddr → List ℕ
target_lines port targets = flat_map (λ to. way_line (codes "sent to ") to port) targets

abbrev pub batch_lines : Batch → List ℕ
batch_lines batch = target_lines batch.port batch.targets

-- a line for each ask of an event in this state, in order, and one for each datagram that is sent
abbrev pub step_text : State → Event → List ℕ
step_text w e = flat_map (ask_line w.rules) (asked_at w e) ++ flat_map sent_line (effects_at w e).sends

-- ---- how it ends

-- a message goes to a station, or to the router before it
abbrev pub batch_reaches : Station → Batch → Bool
batch_reaches station batch = (batch.port == station.port) && list_any (λ to. is_same_address to station.link) batch.targets

-- a datagram is sent to a station, or to the router before it
abbrev pub reaches : Station → List Sending → Bool
reaches station sends = list_any (λ sent. (sent.port == station.port) && is_same_address sent.to station.link) sends

-- a message goes to somebody, and this is so of it
abbrev pub is_to_some : List BipAddr → Bool → Bool
is_to_some [] is = false
is_to_some (to ∷ targets) is = is

-- a message to somebody says that access is denied
abbrev pub batch_refuses : Batch → Bool
batch_refuses batch = is_to_some batch.targets (is_refusal batch.octets)

-- a datagram that is sent says so
abbrev pub refuses : List Sending → Bool
refuses sends = list_any (λ sent. is_refusal sent.octets) sends

-- the gateway's own device answers a station, and not that access is denied
abbrev pub serves : Station → List Sending → Bool
serves asker sends = reaches asker sends && not (refuses sends)

-- the answer of a station reaches the asker from this state
abbrev pub is_answered : State → Question → Station → Bool
is_answered w q station = reaches q.asker (effects_at w (answer_event q station)).sends

-- after a request for which this is sent: it reaches the station that is asked, and the answer to it the asker; or the
-- gateway's own device serves it
abbrev pub may_after : State → Question → List Sending → Addressee → Bool
may_after w q sends (target.Station station) = reaches station sends && is_answered w q station
may_after w q sends (target.Device network) = serves q.asker sends

-- a station may do it
abbrev pub may : State → Question → Bool
may w q = let e = request_event q in may_after (next w e) q (effects_at w e).sends q.target

abbrev pub outcome_of : Bool → AnswerKind
outcome_of is_yes = if is_yes then outcome.Yes else outcome.No

-- ---- the last line

-- the first ask that is denied
abbrev pub first_denied : List Asked → Option Asked
first_denied asked = find (λ one. not one.verdict.is_allowed) asked

-- by which rule it is denied, or this if no ask is
abbrev pub why_text : List Rule → List Asked → (why : List ℕ) → List ℕ
why_text rules asked why =
    option_map_or (λ denied. codes "denied by " ++ rule_name rules denied.verdict.by) (first_denied asked) why

abbrev pub no_line : (word : List ℕ) → List Rule → List Asked → (why : List ℕ) → List ℕ
no_line word rules asked why = word ++ why_text rules asked why ++ 10 ∷ []

abbrev pub yes_line : List ℕ
yes_line = codes "yes\n"

-- ---- the text

-- what comes of an answer that asked and sent this
abbrev pub back_text : List Rule → Station → List Asked → List Sending → List ℕ
back_text rules asker asked sends =
    if reaches asker sends then yes_line else no_line (codes "no: the answer: ") rules asked (codes "no way back")

-- what comes of the answer of a station, from this state
abbrev pub answered_text : State → Question → Station → List ℕ
answered_text w q station =
    let e = answer_event q station in
    way_line (codes "the answer comes from ") station.link station.port ++ step_text w e
    ++ back_text (next w e).rules q.asker (asked_at w e) (effects_at w e).sends

-- what comes of a request to the gateway's own device that asked and sent this
abbrev pub served_text : List Rule → Station → List Asked → List Sending → List ℕ
served_text rules asker asked sends =
    if serves asker sends then yes_line else no_line (codes "no: ") rules asked (codes "the device refuses it")

-- what comes of a request that asked and sent this, from the state after it
abbrev pub rest_text : State → Question → List Asked → List Sending → Addressee → List ℕ
rest_text w q asked sends (target.Station station) =
    if reaches station sends then answered_text w q station
    else no_line (codes "no: ") w.rules asked (codes "no way there")
rest_text w q asked sends (target.Device network) = served_text w.rules q.asker asked sends

-- the answer to a question in this state: the gateway's own walk over the request, and over the answer if the request gets
-- to whom it is for
abbrev pub answer_text : State → Question → List ℕ
answer_text w q =
    let e = request_event q in
    way_line (codes "the request comes from ") q.asker.link q.asker.port ++ step_text w e
    ++ rest_text (next w e) q (asked_at w e) (effects_at w e).sends q.target
