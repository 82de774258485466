-- What the device does about an APDU: what it asks of the policy, what it answers, what it changes.
use Rattle.std.specs.Prelude.{◌≡◌, ◌<◌, ℕ, IfSome, Bool, true, false, ◌&&◌, nat_le, if◌then◌else◌, List, [], ◌∷◌}
use Rattle.std.specs.Prelude.{◌++◌, length, drop}
use Rattle.std.specs.Prelude.{Option, Some, None}
use Rattle.std.specs.Option.{option_map}
use Rattle.gw_codecs.specs.declared.apdu.header.ConfirmedRequest.{ConfirmedRequest}
use Rattle.gw_codecs.specs.apdu.Apdu.{max_apdu_len}
use Rattle.gw_codecs.specs.apdu.Answers.{abort}
use Rattle.gw_codecs.specs.apdu.Reasons.{segmentation_not_supported}
use Rattle.gw_objects.specs.Objects.{Database}
use Rattle.gw_objects.specs.Write.{Write}
use Rattle.gw_rules.specs.Ask.{Ask}
use Rattle.gw_device.specs.declared.context.Context.{Context}
use Rattle.gw_device.specs.declared.answer.Answer.{Answer as RustAnswer}
use Rattle.gw_device.specs.declared.served.Served.{Served}

-- an APDU, and whether it goes to everyone on the requester's network
pub record Answer : Type 0 where
  pub apdu : List ℕ
  pub broadcast : Bool

-- the octets that an answer keeps for its headers, and which say nothing yet
abbrev pub header_room : List ℕ
header_room = 0 ∷ 0 ∷ 0 ∷ 0 ∷ 0 ∷ 0 ∷ 0 ∷ 0 ∷ 0 ∷ 0 ∷ []

-- an APDU after that room
abbrev pub with_room : List ℕ → List ℕ
with_room apdu = header_room ++ apdu

-- an answer of the code: what follows the room
abbrev pub answer_view : RustAnswer → Answer
answer_view a = record { apdu = drop 10 a.octets.items; broadcast = a.broadcast }

-- the asks in their order, the answer if there is one, and the write that is made if there is one
pub record Response : Type 0 where
  pub asks : List Ask
  pub answer : Option Answer
  pub change : Option Write

-- What the code serves has this answer and this change.
pub record IsServed (due : Response) (served : Served) : Type 0 where
  pub answer : option_map answer_view served.answer ≡ due.answer
  pub change : served.change ≡ due.change

-- a change, if there is one, is of one of the value objects
abbrev pub HasPlace : Database → Option Write → Type 0
HasPlace d change = IfSome change (λ write. write.place < length d.configured.objects)

-- nothing is asked, answered or changed
abbrev pub silence : Response
silence = record { asks = []; answer = None; change = None }

-- these asks, and perhaps an answer; nothing is changed
abbrev pub unchanged : List Ask → Option Answer → Response
unchanged asks answer = record { asks = asks; answer = answer; change = None }

-- an answer to the client alone
abbrev pub to_client : List ℕ → Option Answer
to_client apdu = Some (record { apdu = apdu; broadcast = false })

-- an answer to everyone on its network
abbrev pub to_everyone : List ℕ → Option Answer
to_everyone apdu = Some (record { apdu = apdu; broadcast = true })

-- an answer to everyone, if there is something to announce
abbrev pub announcement_of : Option (List ℕ) → Option Answer
announcement_of None = None
announcement_of (Some apdu) = to_everyone apdu

-- a request that is turned down before anything is asked
abbrev pub turned_down : List ℕ → Response
turned_down apdu = unchanged [] (to_client apdu)

-- the octets of a ComplexACK fit the client, and what carries them
abbrev pub fits : ConfirmedRequest → Context → List ℕ → Bool
fits request context ack =
    nat_le (length ack) (max_apdu_len request.max_apdu) && nat_le (length ack) context.room

-- A ComplexACK that is too long would have to be segmented: an Abort takes its place
-- (clause 5.4.5.3).
abbrev pub fitted : ConfirmedRequest → Context → List ℕ → List ℕ
fitted request context ack =
    if fits request context ack then ack else abort request.invoke segmentation_not_supported
