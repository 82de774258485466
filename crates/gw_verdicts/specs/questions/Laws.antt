-- What the answer to a question has to do with the gateway's log, and what its datagrams say.
use Rattle.std.specs.Prelude.{◌≡◌, ◌&&◌, ℕ, false, not, List, [], filter, map, None, Ok}
use Rattle.gw_codecs.specs.apdu.Reading.{apdu_at}
use Rattle.gw_codecs.specs.declared.apdu.header.Header.{Header}
use Rattle.gw_codecs.specs.declared.apdu.header.Header.TheVariants as header
use Rattle.gw_codecs.specs.services.Read.{IsRead, read_view}
use Rattle.gw_codecs.specs.services.Write.{IsWrite, write_view}
use Rattle.gw_codecs.specs.tags.List.{IsBalanced, deepest}
use Rattle.gw_core.specs.Asked.{asked_at}
use Rattle.gw_core.specs.Effects.{effects_at}
use Rattle.gw_core.specs.State.{State}
use Rattle.gw_core.specs.declared.asked.Asked.{Asked}
use Rattle.gw_log_words.specs.Words.{words}
use Rattle.gw_script.specs.Event.{Event}
use Rattle.gw_verdicts.specs.declared.questions.deed.Deed.{Deed}
use Rattle.gw_verdicts.specs.declared.questions.deed.Deed.TheVariants as deed
use Rattle.gw_verdicts.specs.questions.Answers.{logged}
use Rattle.gw_verdicts.specs.questions.Datagrams.{request_apdu}

-- the asks of an event that are denied, but by quiet rules
abbrev pub denied : List Asked → List Asked
denied asked = filter (λ one. not one.verdict.is_allowed && not one.verdict.is_quiet) asked

-- What the text of an answer shows as denied of an event, but by quiet rules, is, in order, what the gateway's log has of it
-- in words.
abbrev pub DeniedIsLogged : Type 0
DeniedIsLogged =
    (w : State) (e : Event)
    → map (λ one. words false (logged w.rules one)) (denied (asked_at w e)) ≡ map (words false) (effects_at w e).denials

-- ---- what a request says

-- the body of this deed (clauses 15.5 and 15.9); that of a write if the tags of its value are balanced; that of another
-- service is empty
abbrev pub SaysDeed : Deed → List ℕ → Type 0
SaysDeed (deed.Read read) body = IsRead body (read_view read)
SaysDeed (deed.Write write) body = IsBalanced deepest write.value.now → IsWrite body (write_view write)
SaysDeed (deed.Serve service) body = body ≡ []

-- a confirmed request that is whole, of the invoke id 1
abbrev pub confirmed_by : (service : ℕ) → Header
confirmed_by service = header.ConfirmedRequest (record {
  segment = None;
  accepts_segments = false;
  max_segments = 0;
  max_apdu = 5;
  invoke = 1;
  service = service;
})

-- ReadProperty, WriteProperty or another
abbrev pub service_of : Deed → ℕ
service_of (deed.Read read) = 12
service_of (deed.Write write) = 15
service_of (deed.Serve service) = service

-- the APDU of a request is read as a confirmed request of its service, whose body is the deed's
pub record IsAsked (wanted : Deed) : Type 0 where
  pub body : List ℕ
  pub read : apdu_at (request_apdu wanted) ≡ Ok (record { header = confirmed_by (service_of wanted); rest = body })
  pub says : SaysDeed wanted body
