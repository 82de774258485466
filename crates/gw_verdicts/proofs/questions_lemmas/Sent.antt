-- What is sent, message by message.
use Rattle.std.proofs.Common.{◌≡◌, ◌∙◌, ◌++◌, ◌&&◌, ◌||◌, ◌==◌, ℕ, Bool, true, false, List, [], ◌∷◌, map, refl, sym, ap, ap₂, codes}
use Rattle.std.specs.Prelude.{nat_eq}
use Rattle.std.specs.Cmp.Lexicographic.{pointwise}
use Rattle.std.specs.List.{flat_map, list_any}
use Rattle.std.proofs.lemmas.Grind.{flat_map-append}
use Rattle.gw_addr.specs.declared.bip.BipAddr.{BipAddr}
use Rattle.gw_configuration.specs.Configuration.{is_same_address}
use Rattle.gw_relay.specs.Sends.{Batch, Sending, sending, sendings_of}
use Rattle.gw_verdicts.specs.declared.questions.place.Station.{Station}
use Rattle.gw_verdicts.specs.questions.Answers.{batch_lines, batch_reaches, batch_refuses, reaches, refuses, is_to_some, sent_line, way_line}
use Rattle.gw_verdicts.specs.questions.Calls.{accepts, batch_accepts, batch_hears, hears, success}
use Rattle.gw_verdicts.specs.questions.Refusals.{is_refusal}

-- the lines of a message are those of its datagrams
one_text : (port : ℕ) (octets : List ℕ) (targets : List BipAddr)
    → flat_map sent_line (map (sending port octets) targets) ≡ flat_map (λ to. way_line (codes "sent to ") to port) targets
one_text port octets [] = refl
one_text port octets (to ∷ targets) = ap (λ (t : List ℕ). way_line (codes "sent to ") to port ++ t) (one_text port octets targets)

pub sent_text : (batches : List Batch) → flat_map sent_line (flat_map sendings_of batches) ≡ flat_map batch_lines batches
sent_text [] = refl
sent_text (b ∷ batches) =
    flat_map-append sent_line (sendings_of b) (flat_map sendings_of batches)
    ∙ ap₂ (λ (s t : List ℕ). s ++ t) (one_text b.port b.octets b.targets) (sent_text batches)

-- a test of one of two lists
any_append : (f : Sending → Bool) (a b : List Sending) → list_any f (a ++ b) ≡ (list_any f a || list_any f b)
any_append f [] b = refl
any_append f (x ∷ a) b = ap (λ (r : Bool). f x || r) (any_append f a b) ∙ sym (or_assoc (f x) (list_any f a) (list_any f b))
  where
    or_assoc : (x y z : Bool) → ((x || y) || z) ≡ (x || (y || z))
    or_assoc true y z = refl
    or_assoc false y z = refl

-- a test of messages is one of their datagrams, if it is for each
pub any_of : (f : Sending → Bool) (g : Batch → Bool) → ((b : Batch) → list_any f (sendings_of b) ≡ g b) → (batches : List Batch)
    → list_any f (flat_map sendings_of batches) ≡ list_any g batches
any_of f g each [] = refl
any_of f g each (b ∷ batches) =
    any_append f (sendings_of b) (flat_map sendings_of batches)
    ∙ ap₂ (λ (x y : Bool). x || y) (each b) (any_of f g each batches)

-- a test of datagrams to these addresses is one of the addresses
any_map : (f : Sending → Bool) (port : ℕ) (octets : List ℕ) (targets : List BipAddr)
    → list_any f (map (sending port octets) targets) ≡ list_any (λ (to : BipAddr). f (sending port octets to)) targets
any_map f port octets [] = refl
any_map f port octets (to ∷ targets) = ap (λ (r : Bool). f (sending port octets to) || r) (any_map f port octets targets)

both : (is : Bool) (f : BipAddr → Bool) (targets : List BipAddr) → list_any (λ (to : BipAddr). is && f to) targets ≡ (is && list_any f targets)
both true f [] = refl
both true f (to ∷ targets) = ap (λ (r : Bool). f to || r) (both true f targets)
both false f [] = refl
both false f (to ∷ targets) = both false f targets

abbrev goes : Station → Sending → Bool
goes station sent = (sent.port == station.port) && is_same_address sent.to station.link

pub reaches_by : (station : Station) (batches : List Batch)
    → reaches station (flat_map sendings_of batches) ≡ list_any (batch_reaches station) batches
reaches_by station batches =
    any_of (goes station) (batch_reaches station)
    (λ b. any_map (goes station) b.port b.octets b.targets
    ∙ both (b.port == station.port) (λ (to : BipAddr). is_same_address to station.link) b.targets)
    batches

-- a refusal
alike : (is : Bool) (targets : List BipAddr) → list_any (λ (to : BipAddr). is) targets ≡ is_to_some targets is
alike is [] = refl
alike true (to ∷ targets) = refl
alike false (to ∷ []) = refl
alike false (to ∷ next ∷ targets) = alike false (next ∷ targets)

pub refuses_by : (batches : List Batch) → refuses (flat_map sendings_of batches) ≡ list_any batch_refuses batches
refuses_by batches =
    any_of (λ (sent : Sending). is_refusal sent.octets) batch_refuses
    (λ b. any_map (λ (sent : Sending). is_refusal sent.octets) b.port b.octets b.targets ∙ alike (is_refusal b.octets) b.targets)
    batches

-- a datagram by a port, and a Result that says that it is done
pub hears_by : (port : ℕ) (batches : List Batch) → hears port (flat_map sendings_of batches) ≡ list_any (batch_hears port) batches
hears_by port batches =
    any_of (λ (sent : Sending). sent.port == port) (batch_hears port)
    (λ b. any_map (λ (sent : Sending). sent.port == port) b.port b.octets b.targets ∙ alike (b.port == port) b.targets)
    batches

pub accepts_by : (batches : List Batch) → accepts (flat_map sendings_of batches) ≡ list_any batch_accepts batches
accepts_by batches =
    any_of (λ (sent : Sending). pointwise nat_eq sent.octets success) batch_accepts
    (λ b. any_map (λ (sent : Sending). pointwise nat_eq sent.octets success) b.port b.octets b.targets
    ∙ alike (pointwise nat_eq b.octets success) b.targets)
    batches
