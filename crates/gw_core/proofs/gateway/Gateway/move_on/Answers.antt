use Rattle.std.proofs.Common.{◌≡◌, ◌^◌, ◌≤◌, ℕ, Option, length, sym, ap, subst, ◌∙◌, arith}
use Rattle.std.specs.Option.{option_map}
use Rattle.gw_addr.specs.declared.TheConstants.{MAX_PORTS}
use Rattle.gw_relay.specs.State.{Commit, Relay, moved}
use Rattle.gw_relay.specs.declared.change.Change.{Change}
use Rattle.gw_core.specs.State.{State}
use Rattle.gw_core.specs.declared.event.Counts.{Counts}
use Rattle.gw_core.specs.declared.gateway.Gateway.TheInside.{Inside}
use Rattle.gw_core.proofs.HistoryLemmas.{length_moved, same_ticks}
use Rattle.gw_core.proofs.gateway.Gateway.move_on.Goals as goal
use Rattle.gw_core.proofs.gateway.Gateway.move_on.Goals.{in-Some+in_ok-commit, in_default, in-Some-write, in_default-write}

pub invariant_of-self-2 : goal.invariant_of-self-2
invariant_of-self-2 c =
    let old = c.self.inside in
    let committed = c.match-change.self-inside in
    let new = c.match-write-4.self-inside in
    let move : Option Change → Relay = λ change. moved (option_map Commit change) old.relay in
    let relay : committed.relay ≡ move c.args.change = elim c.match-change.branch [
      | in-Some+in_ok-commit w ↦ ap (λ (i : Inside). i.relay) w.self-inside-is ∙ w.in_ok-commit.ensures.ok ∙ ap move (sym w.in-Some.is)
      | in_default w ↦ ap (λ (i : Inside). i.relay) w.self-inside-is ∙ ap move (sym w.in_default.is)
    ] in
    let committed_ports : committed.ports ≡ old.ports = elim c.match-change.branch [
      | in-Some+in_ok-commit w ↦ ap (λ (i : Inside). i.ports) w.self-inside-is
      | in_default w ↦ ap (λ (i : Inside). i.ports) w.self-inside-is
    ] in
    let committed_counts : committed.counts ≡ old.counts = elim c.match-change.branch [
      | in-Some+in_ok-commit w ↦ ap (λ (i : Inside). i.counts) w.self-inside-is
      | in_default w ↦ ap (λ (i : Inside). i.counts) w.self-inside-is
    ] in
    let is : new.relay ≡ move c.args.change = elim c.match-write-4.branch [
      | in-Some-write w ↦ ap (λ (i : Inside). i.relay) w.self-inside-is ∙ relay
      | in_default-write w ↦ ap (λ (i : Inside). i.relay) w.self-inside-is ∙ relay
    ] in
    let ports : new.ports ≡ old.ports = elim c.match-write-4.branch [
      | in-Some-write w ↦ ap (λ (i : Inside). i.ports) w.self-inside-is ∙ committed_ports
      | in_default-write w ↦ ap (λ (i : Inside). i.ports) w.self-inside-is ∙ committed_ports
    ] in
    let counts : new.counts ≡ old.counts = elim c.match-write-4.branch [
      | in-Some-write w ↦ ap (λ (i : Inside). i.counts) w.self-inside-is ∙ committed_counts
      | in_default-write w ↦ ap (λ (i : Inside). i.counts) w.self-inside-is ∙ committed_counts
    ] in
    let kept = c.self.invariant in record {
      some = subst (λ (n : ℕ). 1 ≤ n) (sym ports) kept.some;
      most = subst (λ (n : ℕ). n ≤ MAX_PORTS) (sym ports) kept.most;
      ports = ap (λ (r : Relay). length r.ports) is ∙ length_moved (option_map Commit c.args.change) old.relay ∙ kept.ports ∙ sym ports;
      later = subst (λ (n : ℕ). n ≤ new.counts.ticks) (sym (ap (λ (r : Relay). r.ticks) is ∙ same_ticks c.args.change old.relay))
          (subst (λ (n : Counts). old.relay.ticks ≤ n.ticks) (sym counts) kept.later);
      ticks = subst (λ (n : Counts). n.ticks ≤ 2 ^ 63) (sym counts) kept.ticks;
      denials = omega (arith, c.requires.room, ap (λ (s : State). s.denials) c.self.view_is, ap (λ (n : Counts). n.denials) counts);
    }
