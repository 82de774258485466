-- How long the text of effects is.
use Rattle.std.proofs.Common.{◌≡◌, ℕ, List, [], ◌∷◌, ◌++◌, length, map, refl, sym, ap, ap₂, ◌∙◌}
use Rattle.std.specs.List.{flat_map}
use Rattle.gw_audit.specs.declared.denial.Denial.{Denial}
use Rattle.gw_script.specs.Event.{Event, Tick}
use Rattle.std.proofs.lemmas.Grind.{flat_map-append}
use Rattle.gw_addr.specs.declared.bip.BipAddr.{BipAddr}
use Rattle.gw_script.specs.Text.{send_line}
use Rattle.gw_relay.specs.Sends.{Batch, Sending, sending, sendings_of}
use Rattle.gw_core.specs.Denials.{denials_at}
use Rattle.gw_core.specs.State.{State}
use Rattle.gw_core.specs.Effects.{NeedsNoMemory, effects_at, sends}
use Rattle.gw_replay.specs.Shown.{batch_text, denials_text, effects_text, event_text, sending_line, sends_text}
use Rattle.gw_core.proofs.DenialLemmas.{no_denials}
use Rattle.gw_core.proofs.EffectLemmas.{effects_at-tick}
use Rattle.gw_script.specs.Text.{end_line}

-- what needs no memory has `end` alone as its text
pub few_octets : (w : State) (e : Event) → NeedsNoMemory w e → length (effects_text (effects_at w e)) ≡ 4
unfolding effects_at denials_at sends
few_octets w e none =
    ap₂ (λ (d : List Denial) (s : List Sending). length (denials_text d ++ sends_text s ++ end_line)) (no_denials w e none.0) none.1

-- the text of a tick is `end` alone
pub tick_text : (w : State) → end_line ≡ event_text w Tick
tick_text w = sym (ap effects_text (effects_at-tick w))

-- the lines of a message are those of its datagrams
one_text : (port : ℕ) (octets : List ℕ) (targets : List BipAddr)
    → flat_map sending_line (map (sending port octets) targets) ≡ flat_map (λ to. send_line port to octets) targets
one_text port octets [] = refl
one_text port octets (to ∷ targets) = ap (λ (t : List ℕ). send_line port to octets ++ t) (one_text port octets targets)

pub batches_text : (batches : List Batch) → sends_text (flat_map sendings_of batches) ≡ flat_map batch_text batches
batches_text [] = refl
batches_text (b ∷ batches) =
    flat_map-append sending_line (sendings_of b) (flat_map sendings_of batches)
    ∙ ap₂ (λ (s t : List ℕ). s ++ t) (one_text b.port b.octets b.targets) (batches_text batches)
