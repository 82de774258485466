use Rattle.std.proofs.Common.{◌≡◌, ◌++◌, ◌∙◌, [], List, ℕ, ap, ap₂, arith, inl, length, refl}
use Rattle.gw_rules.specs.declared.rule.Rule.{Rule}
use Rattle.gw_script.specs.Event.{event_view}
use Rattle.gw_core.specs.Asked.{asked_at}
use Rattle.gw_core.specs.Explained.{asked_lines}
use Rattle.gw_core.specs.History.{next}
use Rattle.gw_core.specs.State.{State}
use Rattle.gw_core.specs.declared.asked.Asked.{Asked}
use Rattle.gw_core.specs.declared.effects.Effects.{Effects}
use Rattle.gw_core.proofs.ExplainedLemmas.{asked_text, none_asked}
use Rattle.gw_replay.specs.Shown.{effects_text}
use Rattle.gw_replay.proofs.ShownLemmas.{few_octets}
use Rattle.gw_replay.proofs.event_writer.ExplainingEventText.make_text.Goals as goal

pub returns-in-Ok-append_explained-clause-text : goal.returns-in-Ok-append_explained-clause-text
unfolding next
returns-in-Ok-append_explained-clause-text c =
    let w = c.args.gateway.now in
    let event = event_view c.args.event.now in
    let rules : c.rules.result.now ≡ w.rules = c.rules.ensures ∙ ap (λ (s : State). s.rules) c.in-Ok.ensures.moved in
    let asked : c.as_slice-asked.result.now ≡ asked_at w event = c.as_slice-asked.ensures ∙ c.in-Ok.ensures.asked in
    c.in-Ok-append_explained.ensures.ok
    ∙ ap₂ (λ (a b : List ℕ). a ++ b) c.clear.ensures.items (ap₂ (λ (a b : List ℕ). a ++ b)
    (ap₂ (λ (r : List Rule) (l : List Asked). asked_lines r l) rules asked ∙ asked_text w event)
    (ap effects_text c.in-Ok.ensures.given))

pub returns-clause-fault : goal.returns-clause-fault
returns-clause-fault c = inl (
  refl,
  λ none.
      let w = c.args.gateway.now in
      let event = event_view c.args.event.now in
      let unasked : c.as_slice-asked.result.now ≡ [] = c.as_slice-asked.ensures ∙ c.in-Ok.ensures.asked ∙ none_asked w event none in
      let len = ap (λ (x : Effects). length (effects_text x)) c.in-Ok.ensures.given ∙ few_octets w event none in
      let fits = c.in-Err.ensures.room unasked
      (omega (arith, len, ap length c.clear.ensures.items, c.clear.ensures.capacity, c.requires.room)) in
      absurd cc,
)
