-- What is done about what is received is what the datagram does.
use Rattle.std.proofs.Common.{◌≡◌, ◌∙◌, ◌^◌, ◌≤◌, ◌+◌, ℕ, List, length, refl, subst, sym, ap, arith}
use Rattle.std.specs.Prelude.{Result, Ok, Err, OnOk}
use Rattle.gw_addr.specs.declared.bip.BipAddr.{BipAddr}
use Rattle.gw_script.specs.Event.{Datagram}
use Rattle.gw_core.specs.Drops.{drop_at}
use Rattle.gw_core.specs.Receive.{Received, dropped, receive}
use Rattle.gw_core.specs.State.{State}
use Rattle.gw_core.specs.declared.effects.Effects.{Effects}
use Rattle.gw_core.specs.declared.gateway.Taken.{Taken}
use Rattle.gw_core.specs.internal.Outcome.{IsAnswered, IsEmpty, IsOutcome}
use Rattle.gw_core.proofs.DenialLemmas.{asks_received, denials_received}
use Rattle.gw_core.proofs.EffectLemmas.{change_received, effects_are, effects_received, lasts_as, move_received}
use Rattle.gw_core.proofs.SilenceLemmas.{unchanged}

-- nothing is done about what is dropped
pub dropped_answered : (w : State) (received : Received) (taken : Taken) → received ≡ dropped → IsEmpty taken → w.ticks ≤ 2 ^ 63
    → w.denials ≤ 2 ^ 63 → IsAnswered w received taken
dropped_answered w received taken is empty ticks denials =
    let room : w.denials + 0 ≤ 2 ^ 63 = omega (arith, denials) in
    subst (λ (r : Received). IsAnswered w r taken) (sym is) (record {
      effects = effects_are _ _ _ _ empty.sends empty.denials;
      lasting = rw (empty.lasts, empty.change, empty.write) refl;
      change = empty.change;
      write = empty.write;
      place = rw empty.write tt;
      ticks = ticks;
      room = room;
    })

-- what is done about what a datagram is received as, with the reason why it is dropped, is its outcome
pub answered_outcome : (w : State) (port : ℕ) (from : BipAddr) (octets : List ℕ) (received : Received) (taken : Taken)
    → received ≡ receive w (Datagram port from octets) → taken.drop ≡ drop_at w (Datagram port from octets)
    → IsAnswered w received taken → IsOutcome w (Datagram port from octets) taken
answered_outcome w port from octets received taken is reason a =
    let event = Datagram port from octets in
    let moves = move_received w port from octets received taken.change is a.change in
    let writes = a.write ∙ change_received w event received is in
    let denied = ap (λ (x : Effects). length x.denials) a.effects ∙ denials_received w event received is in
    record {
      effects = a.effects ∙ effects_received w event received is;
      dropped = reason;
      lasting = lasts_as w port from octets taken.change taken.write taken.lasts a.lasting moves writes;
      denied = denied;
      moves = moves;
      stays = λ none. a.change ∙ unchanged w.rules w.relay w.device received (sym (asks_received w event received is) ∙ none);
      write = writes;
      place = a.place;
      ticks = a.ticks;
      room = omega (arith, a.room, denials_received w event received is);
    }

-- what follows from both where there is a value
pub on_both : {T E P Q R : Type 0} (r : Result T E) → (P → Q → R) → OnOk r P → OnOk r Q → OnOk r R
on_both (Ok x) f p q = f p q
on_both (Err e) f p q = tt
