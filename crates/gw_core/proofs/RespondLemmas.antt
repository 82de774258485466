-- What is done about a message, by whether it goes on to the network layer.
use Rattle.std.proofs.Common.{◌≡◌, ◌∙◌, sym, ap, refl, ℕ, Bool, true, false, List, [], ◌∷◌, ◌++◌, map, append_assoc, Option, Some, None}
use Rattle.std.specs.Prelude.{if◌then◌else◌}
use Rattle.std.specs.Option.{option_or}
use Rattle.std.proofs.lemmas.List.{append-nil}
use Rattle.gw_frames.specs.bvll.Bvll.{Message as Frame}
use Rattle.gw_frames.specs.bvll.Bvll as bvll
use Rattle.gw_objects.specs.Objects.{Database}
use Rattle.gw_objects.specs.Write.{Write}
use Rattle.gw_relay.specs.Cast.{cast_asks, cast_sends, goes_on, accepts, is_unregistered}
use Rattle.gw_relay.specs.Entry.{admits, entry_asks, entry_response, entry_sends}
use Rattle.gw_relay.specs.Link.{answer_to, refused}
use Rattle.gw_relay.specs.Manage.{manage_asks, manage_change, manage_sends}
use Rattle.gw_relay.specs.Route.{route_asks, route_sends}
use Rattle.gw_relay.specs.Response.{Response as RelayDue}
use Rattle.gw_relay.specs.Sends.{Sending}
use Rattle.gw_relay.specs.State.{Relay}
use Rattle.gw_relay.specs.declared.change.Change.{Change}
use Rattle.gw_relay.specs.declared.turn.Turn.{Turn}
use Rattle.gw_relay.proofs.Asking.{strange_asks, strange_sends, unheard_asks, unheard_sends}
use Rattle.gw_rules.specs.Ask.{Ask}
use Rattle.gw_rules.specs.declared.format.Format.{Format}
use Rattle.gw_rules.specs.declared.rule.Rule.{Rule}
use Rattle.gw_rules.specs.declared.verdict.Verdict.{Verdict}
use Rattle.gw_core.specs.Asks.{apdu_asks, asks_for, message_asks}
use Rattle.gw_core.specs.Effects.{answer_sends, apdu_answer, change_for, message_change, message_sends, relay_change_for, sends_for}
use Rattle.gw_core.specs.Reply.{apdu_for, context_of}
use Rattle.gw_core.specs.State.{device_network}
use Rattle.gw_device.specs.declared.context.Context.{Context}
use Rattle.gw_device.specs.Device.{device_answer}
use Rattle.gw_device.specs.Response.{Answer}
use Rattle.gw_core.proofs.DenialLemmas.{answer_put}
use Rattle.gw_relay.specs.Message.{Message}
use Rattle.gw_core.specs.Receive.{Received, admit, barred, dropped, unregistered, message}
use Rattle.gw_core.specs.internal.Respond.{IsResponse, entered_response, is_taken, passed_asks, passed_change, passed_sends}
use Rattle.gw_core.specs.internal.View.{judged}

abbrev on : Message → Bool
on m = goes_on m.here m.from m.frame

-- ---- lists that are nothing together

pub empty_left : {A : Type 0} (xs ys : List A) → xs ++ ys ≡ [] → xs ≡ []
empty_left [] ys none = refl
empty_left (x ∷ xs) ys none = absurd cc

pub empty_right : {A : Type 0} (xs ys : List A) → xs ++ ys ≡ [] → ys ≡ []
empty_right [] ys none = none
empty_right (x ∷ xs) ys none = absurd cc

pub both_empty : {A : Type 0} (xs ys : List A) → xs ++ ys ≡ [] → (xs ≡ []) × (ys ≡ [])
both_empty xs ys none = (empty_left xs ys none, empty_right xs ys none)

-- ---- what is passed on

pub asks_on : (relay : Relay) (m : Message) → on m ≡ true
    → passed_asks relay m ≡ cast_asks relay.format m
    ++ (route_asks relay m ++ manage_asks relay m)
asks_on relay m h = rw h refl

pub sends_on : (rules : List Rule) (relay : Relay) (m : Message) → on m ≡ true
    → passed_sends rules relay m ≡ cast_sends rules relay.format m
    ++ (route_sends rules relay m ++ manage_sends rules relay m)
sends_on rules relay m h = rw h refl

pub asks_off : (relay : Relay) (m : Message) → on m ≡ false → passed_asks relay m ≡ cast_asks relay.format m
asks_off relay m h = rw h (append-nil (cast_asks relay.format m))

pub sends_off : (rules : List Rule) (relay : Relay) (m : Message) → on m ≡ false
    → passed_sends rules relay m ≡ cast_sends rules relay.format m
sends_off rules relay m h = rw h (append-nil (cast_sends rules relay.format m))

-- ---- what a turn has that had nothing before

pub record Turned {A : Type 0} (kept : A → List Verdict) (kept_of : List Rule → List Ask → List Verdict) (rules : List Rule) (relay : Relay)
    (d : Database) (received : Received) (new : Turn A) : Type 0 where
  pub sends : new.sends ≡ sends_for rules relay d received
  pub verdicts : kept new.asker ≡ kept_of rules (asks_for rules relay d received)
  pub change : new.change ≡ relay_change_for rules relay received

pub turned : {A : Type 0} (kept : A → List Verdict) (kept_of : List Rule → List Ask → List Verdict) (rules : List Rule) (relay : Relay)
    (d : Database) (received : Received) (old new : Turn A) (granted : Option Write) → old.sends ≡ [] → kept old.asker ≡ [] → old.change ≡ None
    → IsResponse kept kept_of rules relay d received old new granted
    → Turned kept kept_of rules relay d received new
turned kept kept_of rules relay d received old new granted sends begun change is = record {
  sends = is.walked.sends ∙ ap (λ (l : List Sending). l ++ sends_for rules relay d received) sends;
  verdicts = is.walked.verdicts ∙ ap (λ (l : List Verdict). l ++ kept_of rules (asks_for rules relay d received)) begun;
  change = is.walked.change ∙ ap (λ (x : Option Change). option_or x (relay_change_for rules relay received)) change;
}

-- ---- what the device does about a message

-- nothing, if there is no APDU for it
pub unserved : (rules : List Rule) (format : Format) (d : Database) (m : Message) (network : ℕ) → network ≡ device_network d
    → None ≡ apdu_for network m.npdu → (message_asks rules format d m ≡ []) × (message_sends rules format d m ≡ [])
unserved rules format d m network its none = (
  ap (λ (n : ℕ). apdu_asks rules d (context_of format n m) (apdu_for n m.npdu)) (sym its)
      ∙ ap (apdu_asks rules d (context_of format network m)) (sym none),
  ap (λ (n : ℕ). answer_sends n m (apdu_answer rules d (context_of format n m) (apdu_for n m.npdu))) (sym its)
      ∙ ap (λ (a : Option (List ℕ)). answer_sends network m (apdu_answer rules d (context_of format network m) a)) (sym none),
)

-- the sends of its answer
pub sends_put : (rules : List Rule) (format : Format) (d : Database) (m : Message) (network : ℕ) (context : Context) (octets : List ℕ) (answer : Option Answer)
    → network ≡ device_network d → Some octets ≡ apdu_for network m.npdu → context ≡ context_of format network m
    → answer ≡ device_answer rules d context octets → answer_sends network m answer ≡ message_sends rules format d m
sends_put rules format d m network context octets answer its apdu wording is =
    ap (answer_sends network m) (is ∙ sym (answer_put rules format d m network context octets its apdu wording))
    ∙ ap (λ (n : ℕ). answer_sends n m (apdu_answer rules d (context_of format (device_network d) m) (apdu_for (device_network d) m.npdu))) its

-- an unregistered sender is answered
told_so : (rules : List Rule) (format : Format) (m : Message) (frame : Frame) → m.frame ≡ frame → is_unregistered m.here m.from frame ≡ true
    → cast_sends rules format m ≡ [] → ⊥
told_so rules format m (bvll.result_code code) is s none = absurd cc
told_so rules format m (bvll.write_bdt entries) is s none = absurd cc
told_so rules format m bvll.read_bdt is s none = absurd cc
told_so rules format m (bvll.read_bdt_ack entries) is s none = absurd cc
told_so rules format m (bvll.forwarded originator octets) is s none = absurd cc
told_so rules format m (bvll.register time_to_live) is s none = absurd cc
told_so rules format m bvll.read_fdt is s none = absurd cc
told_so rules format m (bvll.read_fdt_ack entries) is s none = absurd cc
told_so rules format m (bvll.delete address) is s none = absurd cc
told_so rules format m (bvll.distribute octets) is s none =
    let heard : accepts m.here m.from m.frame ≡ true = ap (accepts m.here m.from) is in
    let strange : is_unregistered m.here m.from m.frame ≡ true = ap (is_unregistered m.here m.from) is ∙ s in
    let wording : map (answer_to m.here.port m.from) (refused (bvll.distribute octets)) ≡ [] =
    ap (λ (frame : Frame). map (answer_to m.here.port m.from) (refused frame)) (sym is) ∙ sym (strange_sends rules format m heard strange) ∙ none in
    absurd cc
told_so rules format m (bvll.original_unicast octets) is s none = absurd cc
told_so rules format m (bvll.original_broadcast octets) is s none = absurd cc

no_stranger : (rules : List Rule) (format : Format) (m : Message) (s : Bool) → is_unregistered m.here m.from m.frame ≡ s
    → cast_sends rules format m ≡ [] → s ≡ false
no_stranger rules format m true is none = absurd (told_so rules format m m.frame refl is none)
no_stranger rules format m false is none = refl

-- nothing is asked or sent of a distribution
pub cast_silent : (rules : List Rule) (relay : Relay) (m : Message) → passed_asks relay m ≡ [] → passed_sends rules relay m ≡ []
    → (cast_asks relay.format m ≡ []) × (is_unregistered m.here m.from m.frame ≡ false)
cast_silent rules relay m asks sends = (
  empty_left (cast_asks relay.format m) _ asks,
  no_stranger rules relay.format m (is_unregistered m.here m.from m.frame) refl (empty_left (cast_sends rules relay.format m) _ sends),
)

-- what is asked before a message is taken, by whether it goes on
pub entered_on : (rules : List Rule) (relay : Relay) (m : Message) → on m ≡ true → entered_response rules relay m ≡ entry_response rules relay m
entered_on rules relay m is = rw is refl

pub entered_off : (rules : List Rule) (relay : Relay) (m : Message) → on m ≡ false
    → entered_response rules relay m ≡ record { asks = []; sends = []; change = None }
entered_off rules relay m is = rw is refl

-- ---- what a message is received as

-- one that doesn't go on
pub record Stops (rules : List Rule) (relay : Relay) (d : Database) (m : Message) : Type 0 where
  pub sends : sends_for rules relay d (admit rules relay (judged m)) ≡ passed_sends rules relay m
  pub asks : asks_for rules relay d (admit rules relay (judged m)) ≡ passed_asks relay m
  pub change : relay_change_for rules relay (admit rules relay (judged m)) ≡ passed_change rules relay m
  pub write : change_for rules relay.format d (admit rules relay (judged m)) ≡ None

-- one that the policy keeps out
pub record Bars (rules : List Rule) (relay : Relay) (d : Database) (m : Message) : Type 0 where
  pub sends : sends_for rules relay d (admit rules relay (judged m)) ≡ entry_sends rules relay m
  pub asks : asks_for rules relay d (admit rules relay (judged m)) ≡ entry_asks rules relay m
  pub change : relay_change_for rules relay (admit rules relay (judged m)) ≡ None
  pub write : change_for rules relay.format d (admit rules relay (judged m)) ≡ None

-- one that goes on
pub record Goes (rules : List Rule) (relay : Relay) (d : Database) (m : Message) : Type 0 where
  pub sends : sends_for rules relay d (admit rules relay (judged m))
      ≡ entry_sends rules relay m ++ (passed_sends rules relay m ++ message_sends rules relay.format d m)
  pub asks : asks_for rules relay d (admit rules relay (judged m))
      ≡ entry_asks rules relay m ++ (passed_asks relay m ++ message_asks rules relay.format d m)
  pub change : relay_change_for rules relay (admit rules relay (judged m)) ≡ passed_change rules relay m
  pub write : change_for rules relay.format d (admit rules relay (judged m)) ≡ message_change rules relay.format d m

no_change : (b : Bool) (change : Option Change) → b ≡ false → ◌≡◌ {A = Option Change} None (if b then change else None)
no_change true change e = absurd cc
no_change false change e = refl

-- nothing after a list
pub three_none : {A : Type 0} (xs : List A) → xs ++ [] ++ [] ++ [] ≡ xs
three_none xs = append-nil (xs ++ [] ++ []) ∙ append-nil (xs ++ []) ∙ append-nil xs

pub four_none : {A : Type 0} (xs : List A) → xs ++ [] ++ [] ++ [] ++ [] ≡ xs
four_none xs = append-nil (xs ++ [] ++ [] ++ []) ∙ three_none xs

stranger_sends : (rules : List Rule) (relay : Relay) (d : Database) (m : Message)
    → sends_for rules relay d (unregistered m) ≡ cast_sends rules relay.format m
stranger_sends rules relay d m = three_none (cast_sends rules relay.format m)

stops_by : (rules : List Rule) (relay : Relay) (d : Database) (m : Message) (h s : Bool) → accepts m.here m.from m.frame ≡ h
    → is_unregistered m.here m.from m.frame ≡ s → on m ≡ false → Stops rules relay d m
stops_by rules relay d m false s heard strange off =
    let is : admit rules relay (judged m) ≡ dropped = rw heard refl in record {
      sends = ap (sends_for rules relay d) is ∙ sym (unheard_sends rules relay.format m heard)
          ∙ sym (sends_off rules relay m off);
      asks = ap (asks_for rules relay d) is ∙ sym (unheard_asks relay.format m heard) ∙ sym (asks_off relay m off);
      change = ap (relay_change_for rules relay) is ∙ no_change (on m) _ off;
      write = ap (change_for rules relay.format d) is;
    }
stops_by rules relay d m true true heard strange off =
    let is : admit rules relay (judged m) ≡ unregistered m = rw (heard, strange) refl in record {
      sends = ap (sends_for rules relay d) is ∙ stranger_sends rules relay d m ∙ sym (sends_off rules relay m off);
      asks = ap (asks_for rules relay d) is ∙ sym (strange_asks relay.format m heard strange) ∙ sym (asks_off relay m off);
      change = ap (relay_change_for rules relay) is ∙ no_change (on m) _ off;
      write = ap (change_for rules relay.format d) is;
    }
stops_by rules relay d m true false heard strange off =
    let goes : on m ≡ true = rw (heard, strange) refl in
    absurd cc

pub stops : (rules : List Rule) (relay : Relay) (d : Database) (m : Message) → on m ≡ false → Stops rules relay d m
stops rules relay d m off = stops_by rules relay d m (accepts m.here m.from m.frame) (is_unregistered m.here m.from m.frame) refl refl off

yes_change : (b : Bool) (change : Option Change) → b ≡ true → change ≡ (if b then change else None)
yes_change true change e = refl
yes_change false change e = absurd cc

-- nothing changes of one that doesn't
pub change_off : (rules : List Rule) (relay : Relay) (m : Message) → on m ≡ false → passed_change rules relay m ≡ None
change_off rules relay m off = rw off refl

-- what changes of a message that goes on
pub change_on : (rules : List Rule) (relay : Relay) (m : Message) → on m ≡ true → passed_change rules relay m ≡ manage_change rules relay m
change_on rules relay m is = rw is refl

-- a message that goes on is received as one
message_by : (m : Message) (h s : Bool) → accepts m.here m.from m.frame ≡ h → is_unregistered m.here m.from m.frame ≡ s → on m ≡ true
    → judged m ≡ message m
message_by m false s heard strange goes =
    let off : on m ≡ false = rw heard refl in
    absurd cc
message_by m true true heard strange goes =
    let off : on m ≡ false = rw (heard, strange) refl in
    absurd cc
message_by m true false heard strange goes = rw (heard, strange) refl

pub received_on : (m : Message) → on m ≡ true → judged m ≡ message m
received_on m is = message_by m (accepts m.here m.from m.frame) (is_unregistered m.here m.from m.frame) refl refl is

-- and kept out or taken
pub barred_on : (rules : List Rule) (relay : Relay) (m : Message) → on m ≡ true → admits rules relay m ≡ false
    → admit rules relay (judged m) ≡ barred m
barred_on rules relay m is out = ap (admit rules relay) (received_on m is) ∙ ap (λ (b : Bool). if b then message m else barred m) out

pub taken_on : (rules : List Rule) (relay : Relay) (m : Message) → on m ≡ true → admits rules relay m ≡ true
    → admit rules relay (judged m) ≡ message m
taken_on rules relay m is taken = ap (admit rules relay) (received_on m is) ∙ ap (λ (b : Bool). if b then message m else barred m) taken

pub bars : (rules : List Rule) (relay : Relay) (d : Database) (m : Message) → on m ≡ true → admits rules relay m ≡ false
    → Bars rules relay d m
bars rules relay d m on out =
    let is = barred_on rules relay m on out in record {
      sends = ap (sends_for rules relay d) is ∙ four_none (entry_sends rules relay m);
      asks = ap (asks_for rules relay d) is ∙ four_none (entry_asks rules relay m);
      change = ap (relay_change_for rules relay) is;
      write = ap (change_for rules relay.format d) is;
    }

-- five lists, the middle three of which are one
five_are : {A : Type 0} (a b c d e : List A) → a ++ b ++ c ++ d ++ e ≡ a ++ ((b ++ (c ++ d)) ++ e)
five_are a b c d e = simp append_assoc

pub nothing_refused : (rules : List Rule) (relay : Relay) (m : Message) → admits rules relay m ≡ true → entry_sends rules relay m ≡ []
nothing_refused rules relay m is = ap (λ (b : Bool). if b then [] else map (answer_to m.here.port m.from) (refused m.frame)) is

pub goes : (rules : List Rule) (relay : Relay) (d : Database) (m : Message) → on m ≡ true → admits rules relay m ≡ true
    → Goes rules relay d m
goes rules relay d m is_on admitted =
    let is = taken_on rules relay m is_on admitted in record {
      sends = ap (sends_for rules relay d) is
          ∙ five_are [] (cast_sends rules relay.format m) (route_sends rules relay m) (manage_sends rules relay m)
          (message_sends rules relay.format d m)
          ∙ ap (λ (l : List Sending). l ++ message_sends rules relay.format d m) (sym (sends_on rules relay m is_on))
          ∙ ap (λ (l : List Sending). l ++ (passed_sends rules relay m ++ message_sends rules relay.format d m))
          (sym (nothing_refused rules relay m admitted));
      asks = ap (asks_for rules relay d) is
          ∙ five_are (entry_asks rules relay m) (cast_asks relay.format m) (route_asks relay m) (manage_asks relay m)
          (message_asks rules relay.format d m)
          ∙ ap (λ (l : List Ask). entry_asks rules relay m ++ (l ++ message_asks rules relay.format d m)) (sym (asks_on relay m is_on));
      change = ap (relay_change_for rules relay) is ∙ yes_change (on m) _ is_on;
      write = ap (change_for rules relay.format d) is;
    }

-- ---- nothing is asked or sent

pub on_asks : (relay : Relay) (m : Message) → on m ≡ true → passed_asks relay m ≡ []
    → (route_asks relay m ≡ []) × (manage_asks relay m ≡ [])
on_asks relay m is asks =
    both_empty (route_asks relay m) (manage_asks relay m) (empty_right (cast_asks relay.format m) _ (sym (asks_on relay m is) ∙ asks))

-- a part of what is asked of what a message is received as is nothing where that is
pub judged_silent : (rules : List Rule) (relay : Relay) (d : Database) (m : Message) (b a : Bool) → on m ≡ b → admits rules relay m ≡ a
    → is_taken rules relay m ≡ true
    → asks_for rules relay d (admit rules relay (judged m)) ≡ [] → sends_for rules relay d (admit rules relay (judged m)) ≡ []
    → (passed_asks relay m ≡ []) × (passed_sends rules relay m ≡ [])
judged_silent rules relay d m true true is admitted taken asks sends =
    let g = goes rules relay d m is admitted in (
      empty_left (passed_asks relay m) _ (empty_right (entry_asks rules relay m) _ (sym g.asks ∙ asks)),
      empty_left (passed_sends rules relay m) _ (empty_right (entry_sends rules relay m) _ (sym g.sends ∙ sends)),
    )
judged_silent rules relay d m true false is out taken asks sends =
    let never : is_taken rules relay m ≡ false = rw (is, out) refl in
    absurd cc
judged_silent rules relay d m false a is admitted taken asks sends =
    let s = stops rules relay d m is in
    (sym s.asks ∙ asks, sym s.sends ∙ sends)

pub served_silent : (rules : List Rule) (relay : Relay) (d : Database) (m : Message) → on m ≡ true → admits rules relay m ≡ true
    → asks_for rules relay d (admit rules relay (judged m)) ≡ [] → sends_for rules relay d (admit rules relay (judged m)) ≡ []
    → (message_asks rules relay.format d m ≡ []) × (message_sends rules relay.format d m ≡ [])
served_silent rules relay d m is admitted asks sends =
    let g = goes rules relay d m is admitted in (
      empty_right (passed_asks relay m) _ (empty_right (entry_asks rules relay m) _ (sym g.asks ∙ asks)),
      empty_right (passed_sends rules relay m) _ (empty_right (entry_sends rules relay m) _ (sym g.sends ∙ sends)),
    )

-- nor is anything asked before it is taken
pub entry_silent : (rules : List Rule) (relay : Relay) (d : Database) (m : Message) (b a : Bool) → on m ≡ b → admits rules relay m ≡ a
    → asks_for rules relay d (admit rules relay (judged m)) ≡ [] → (entered_response rules relay m).asks ≡ []
entry_silent rules relay d m true true is admitted asks =
    ap (λ (r : RelayDue). r.asks) (entered_on rules relay m is)
    ∙ empty_left (entry_asks rules relay m) _ (sym (goes rules relay d m is admitted).asks ∙ asks)
entry_silent rules relay d m true false is out asks =
    ap (λ (r : RelayDue). r.asks) (entered_on rules relay m is) ∙ sym (bars rules relay d m is out).asks ∙ asks
entry_silent rules relay d m false a is admitted asks = ap (λ (r : RelayDue). r.asks) (entered_off rules relay m is)
