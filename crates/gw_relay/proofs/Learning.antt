-- A router's networks that are learned: what its message is, and that no send hangs on their asks.
use Rattle.std.proofs.Common.{◌≡◌, ◌∙◌, sym, ap, refl, append-nil, None, ℕ, Bool, true, false, ◌&&◌, not, List, [], ◌∷◌, ◌++◌, map, length}
use Rattle.std.specs.Prelude.{◌==◌, if◌then◌else◌, is_some}
use Rattle.std.specs.List.{list_all}
use Rattle.gw_frames.specs.declared.npdu.kind.MessageKind.TheVariants.{IAmRouterToNetwork}
use Rattle.gw_frames.specs.npdu.Npdu.{Fields, payload_octets}
use Rattle.gw_rules.specs.Ask.{Ask}
use Rattle.gw_rules.specs.RuleList.{allows}
use Rattle.gw_rules.specs.declared.rule.Rule.{Rule}
use Rattle.gw_relay.specs.Manage.{announced_but, answer_steps, first_learned, keep_allowed, onward_sends, are_networks, is_for_all, is_i_am_router, learn_ask, learn_steps, manage_asks, manage_change, manage_response, manage_sends, named_networks, networks_in}
use Rattle.gw_relay.specs.Message.{Message}
use Rattle.gw_relay.specs.Route.{is_kind}
use Rattle.gw_relay.specs.Sends.{Sending}
use Rattle.gw_relay.specs.State.{Relay}
use Rattle.gw_relay.specs.Steps.{Step, asks_of, sends_of, step, taken}
use Rattle.gw_relay.specs.internal.Serving.{learn_response, onward_of}

and_last : (a b : Bool) → (a && b) ≡ true → b ≡ true
and_last true b e = e
and_last false b e = cc

-- what is learned is a list of networks
pub whole_networks : (npdu : Fields) → is_i_am_router npdu ≡ true → are_networks (payload_octets npdu.payload) ≡ true
whole_networks npdu h =
    and_last (is_kind IAmRouterToNetwork npdu.payload && is_for_all npdu && not (is_some npdu.source) && not
    (length (payload_octets npdu.payload) == 0))
    (are_networks (payload_octets npdu.payload)) h

none_either : (b : Bool) (sends : List Sending) → sends ≡ [] → (if b then [] else []) ++ sends ≡ []
none_either true sends e = e
none_either false sends e = e

no_sends : (rules : List Rule) (ask : ℕ → Ask) (networks : List ℕ) → sends_of rules (map (λ n. step (ask n) []) networks) ≡ []
no_sends rules ask [] = refl
no_sends rules ask (n ∷ networks) =
    none_either (list_all (allows rules) (ask n ∷ [])) (sends_of rules (map (λ m. step (ask m) []) networks)) (no_sends rules ask networks)

each_ask : (ask : ℕ → Ask) (networks : List ℕ) → asks_of (map (λ n. step (ask n) []) networks) ≡ map ask networks
each_ask ask [] = refl
each_ask ask (n ∷ networks) = ap (λ (asks : List Ask). ask n ∷ asks) (each_ask ask networks)

first_of : (b : Bool) (xs ys : List Step) → b ≡ true → (if b then xs else ys) ≡ xs
first_of true xs ys e = refl
first_of false xs ys e = cc

pub learned_sends : (rules : List Rule) (relay : Relay) (m : Message) → is_i_am_router m.npdu ≡ true → manage_sends rules relay m ≡ onward_sends rules relay m
learned_sends rules relay m h =
    ap (λ (sends : List Sending). sends ++ onward_sends rules relay m)
    (ap (λ (steps : List Step). sends_of rules steps) (first_of (is_i_am_router m.npdu) (learn_steps relay.format m) (answer_steps relay m) h)
    ∙ no_sends rules (λ n. learn_ask relay.format m n) (named_networks m))

pub learned_asks : (relay : Relay) (m : Message) → is_i_am_router m.npdu ≡ true → manage_asks relay m ≡ map (learn_ask relay.format m) (named_networks m)
learned_asks relay m h =
    ap (λ (steps : List Step). asks_of steps) (first_of (is_i_am_router m.npdu) (learn_steps relay.format m) (answer_steps relay m) h)
    ∙ each_ask (λ n. learn_ask relay.format m n) (named_networks m)

-- a router's message names a network at least
some_networks : (octets : List ℕ) → are_networks octets ≡ true → not (length octets == 0) ≡ true → networks_in octets ≡ [] → ⊥
some_networks [] are some none = cc
some_networks (a ∷ []) are some none = cc
some_networks (a ∷ b ∷ octets) are some none = cc

and_before : (a b : Bool) → (a && b) ≡ true → a ≡ true
and_before true b e = refl
and_before false b e = cc

some_octets : (npdu : Fields) → is_i_am_router npdu ≡ true → not (length (payload_octets npdu.payload) == 0) ≡ true
some_octets npdu h =
    and_last (is_kind IAmRouterToNetwork npdu.payload && is_for_all npdu && not (is_some npdu.source))
    (not (length (payload_octets npdu.payload) == 0))
    (and_before (is_kind IAmRouterToNetwork npdu.payload && is_for_all npdu && not (is_some npdu.source) && not
    (length (payload_octets npdu.payload) == 0))
    (are_networks (payload_octets npdu.payload)) h)

no_map : {A B : Type 0} (f : A → B) (xs : List A) → map f xs ≡ [] → xs ≡ []
no_map f [] none = refl
no_map f (x ∷ xs) none = absurd cc

-- so it asks
pub learned_loud : (relay : Relay) (m : Message) → is_i_am_router m.npdu ≡ true → manage_asks relay m ≡ [] → ⊥
learned_loud relay m h none =
    some_networks (payload_octets m.npdu.payload) (whole_networks m.npdu h) (some_octets m.npdu h)
    (no_map (learn_ask relay.format m) (named_networks m) (sym (learned_asks relay m h) ∙ none))

unasked_by : (b : Bool) (rules : List Rule) (relay : Relay) (m : Message) → is_i_am_router m.npdu ≡ b → manage_asks relay m ≡ []
    → manage_change rules relay m ≡ None
unasked_by true rules relay m h none = absurd (learned_loud relay m h none)
unasked_by false rules relay m h none = rw h refl

-- what asks nothing learns nothing
pub unasked_learning : (rules : List Rule) (relay : Relay) (m : Message) → manage_asks relay m ≡ [] → manage_change rules relay m ≡ None
unasked_learning rules relay m none = unasked_by (is_i_am_router m.npdu) rules relay m refl none

-- what is announced onward of a router's message are the networks that may be learned of it and are new
pub onward_learned : (rules : List Rule) (relay : Relay) (m : Message) → is_i_am_router m.npdu ≡ true
    → onward_of relay m (keep_allowed rules relay.format m (named_networks m)) ≡ onward_sends rules relay m
unfolding onward_sends
onward_learned rules relay m h = rw h (by relay.announce)
  where
    by : (b : Bool) → (if b then announced_but m.here.port.number relay.ports (first_learned rules relay m) else [])
        ≡ (if b && true then announced_but m.here.port.number relay.ports (first_learned rules relay m) else [])
    by true = refl
    by false = refl

-- what is answered to a router's message is what is learned of it
pub learned_due : (rules : List Rule) (relay : Relay) (m : Message) → is_i_am_router m.npdu ≡ true
    → manage_response rules relay m ≡ learn_response rules relay m
learned_due rules relay m h =
    rw (learned_asks relay m h, learned_sends rules relay m h ∙ sym (onward_learned rules relay m h), h) refl

-- and nothing of another message
pub none_onward : (rules : List Rule) (relay : Relay) (m : Message) → is_i_am_router m.npdu ≡ false → onward_sends rules relay m ≡ []
unfolding onward_sends
none_onward rules relay m h = rw h (by relay.announce)
  where
    by : (b : Bool) → (if b && false then announced_but m.here.port.number relay.ports (first_learned rules relay m) else []) ≡ []
    by true = refl
    by false = refl

-- and of another it is the answer's steps
pub answered_due : (rules : List Rule) (relay : Relay) (m : Message) → is_i_am_router m.npdu ≡ false
    → manage_response rules relay m ≡ taken rules (answer_steps relay m)
answered_due rules relay m h =
    rw (h, none_onward rules relay m h) (ap (λ (sends : List Sending). record { asks = asks_of (answer_steps relay m); sends = sends; change = None })
    (append-nil (sends_of rules (answer_steps relay m))))
