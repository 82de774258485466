-- What is sent of steps hangs on allowed asks.
use Rattle.std.proofs.Common.{◌≡◌, ap, refl, Bool, true, false, List, [], ◌∷◌, ◌++◌}
use Rattle.std.specs.Prelude.{filter, if◌then◌else◌, ◌||◌}
use Rattle.std.specs.List.{flat_map, list_all}
use Rattle.gw_relay.specs.Cast.{cast_sends, is_unregistered}
use Rattle.gw_relay.specs.Manage.{manage_steps, onward_sends}
use Rattle.gw_relay.specs.Route.{route_steps}
use Rattle.gw_relay.specs.Sends.{Sending}
use Rattle.gw_relay.specs.Steps.{Step, sends_of}
use Rattle.gw_rules.specs.RuleList.{allows}
use Rattle.gw_rules.specs.declared.rule.Rule.{Rule}
use Rattle.gw_core_laws.specs.Laws.{AllowedTrafficIsSent, DeniedBroadcastsAreKept, is_allowed}

one_sent : (b : Bool) (step : Step) (steps : List Step) (sent : List Sending) → sent ≡ flat_map (λ s. s.sends) steps
    → (if b then step.sends else []) ++ sent ≡ flat_map (λ s. s.sends) (if b then step ∷ steps else steps)
one_sent true step steps sent e = ap (λ (l : List Sending). step.sends ++ l) e
one_sent false step steps sent e = e

allowed_sent : (rules : List Rule) (steps : List Step) → sends_of rules steps ≡ flat_map (λ s. s.sends) (filter (is_allowed rules) steps)
allowed_sent rules [] = refl
allowed_sent rules (step ∷ steps) =
    one_sent (list_all (allows rules) step.asks) step (filter (is_allowed rules) steps) (sends_of rules steps) (allowed_sent rules steps)

pub allowed_traffic_is_sent : AllowedTrafficIsSent
allowed_traffic_is_sent rules relay m = (
  allowed_sent rules (route_steps relay m),
  refl,
  ap (λ (sends : List Sending). sends ++ onward_sends rules relay m) (allowed_sent rules (manage_steps relay m)),
  refl,
)

or_true : (b : Bool) → (b || true) ≡ true
or_true true = refl
or_true false = refl

pub denied_broadcasts_are_kept : DeniedBroadcastsAreKept
unfolding cast_sends
denied_broadcasts_are_kept rules relay m denied heard = rw (heard, denied, or_true (is_unregistered m.here m.from m.frame)) refl
