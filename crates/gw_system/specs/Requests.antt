-- What a running gateway is asked for, and what it answers.
use Rattle.std.specs.Prelude.{◌≡◌, ⊤, ℕ, List, ◌++◌, Option, Some, None, Result, Ok, Err}
use Rattle.std.specs.List.{AllByRecursion}
use Rattle.std.specs.Global.{Vec}
use Rattle.gw_system.specs.declared.reading.ReadFailure.{ReadFailure}
use Rattle.gw_system.specs.declared.request.Request.{Request}
use Rattle.gw_system.specs.declared.request.Request.TheVariants as request

-- no request was there; one to read the configuration again was, and its text, if it is there, or why it can't be read; one to
-- stop; one to say what is counted; something that isn't taken; and an answer
pub data Exchange : Type 0 where
  unasked : Exchange
  asked : (text : Result (Option (List ℕ)) ReadFailure) → Exchange
  asked_to_stop : Exchange
  asked_to_say : Exchange
  untaken : Exchange
  answered : (text : List ℕ) → Exchange

-- What is known of what asks: that nobody does; nothing; or what was asked and answered so far, in order.
pub data Asking : Type 0 where
  nobody : Asking
  silent : Asking
  known : (exchanges : List Exchange) → Asking

-- no request was there
abbrev pub IsUnasked : Exchange → Type 0
IsUnasked unasked = ⊤
IsUnasked (asked text) = ⊥
IsUnasked asked_to_stop = ⊥
IsUnasked asked_to_say = ⊥
IsUnasked untaken = ⊥
IsUnasked (answered text) = ⊥

-- What was known goes on by these, or is no more known.
abbrev pub GoesOnKnown : List Exchange → Asking → List Exchange → Type 0
GoesOnKnown recorded nobody exchanges = ⊥
GoesOnKnown recorded silent exchanges = ⊤
GoesOnKnown recorded (known now) exchanges = now ≡ recorded ++ exchanges

-- What is known goes on by these. If nobody asks, no request is ever there, and nothing is answered; and what says nothing never
-- says anything.
abbrev pub GoesOn : Asking → Asking → List Exchange → Type 0
GoesOn nobody now exchanges = (now ≡ nobody) × AllByRecursion IsUnasked exchanges
GoesOn silent now exchanges = now ≡ silent
GoesOn (known recorded) now exchanges = GoesOnKnown recorded now exchanges

-- somebody may ask
abbrev pub IsAsking : Asking → Type 0
IsAsking nobody = ⊥
IsAsking silent = ⊤
IsAsking (known exchanges) = ⊤

-- the text of a file, or none
abbrev pub text_found : Result (Option (Vec ℕ)) ReadFailure → Result (Option (List ℕ)) ReadFailure
text_found (Ok None) = Ok None
text_found (Ok (Some text)) = Ok (Some text.items)
text_found (Err failure) = Err failure

-- what looking for a request found
abbrev pub asked_for : Request → Exchange
asked_for (request.Reload text) = asked (text_found text)
asked_for request.Stop = asked_to_stop
asked_for request.Status = asked_to_say
asked_for request.Untaken = untaken

abbrev pub asked_by : Option Request → Exchange
asked_by None = unasked
asked_by (Some request) = asked_for request

-- what is known of what asks, if something does
abbrev pub recorded_by : {Q : Type 0} → (Q → Asking) → Option Q → Asking
recorded_by recorded None = nobody
recorded_by recorded (Some requests) = recorded requests
