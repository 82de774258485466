-- A port that has peers is a broadcast manager, so a peer that registers there raises the ask.
use Rattle.std.proofs.Common.{◌≡◌, ◌∷◌, [], ◌≤◌, Bool, true, Option, Some, None, arith, length, refl, subst, sym}
use Rattle.std.specs.Prelude.{◌==◌, ◌&&◌, not, is_some, if◌then◌else◌}
use Rattle.std.specs.Option.{option_map_or}
use Rattle.std.proofs.lemmas.Bool.{and_parts, eqb-true}
use Rattle.gw_addr.specs.declared.bip.BipAddr.{BipAddr}
use Rattle.gw_configuration.specs.Configuration.{is_beside, is_managed, is_same_address}
use Rattle.gw_configuration.specs.declared.port.Port.{Port}
use Rattle.gw_policy_review.specs.warnings.Warnings.{register_ask}
use Rattle.gw_verdicts.specs.Laws.{PeersRaiseTheAsk}

-- a port with peers has no other manager beside it
no_other : (port : Port) → is_managed port ≡ true → 1 ≤ length port.peers → not (is_some port.bbmd) ≡ true
no_other port managed some = by port.bbmd managed
  where
    by : (manager : Option BipAddr) → option_map_or (is_beside port) manager true ≡ true → not (is_some manager) ≡ true
    by None is = refl
    by (Some manager) is =
        let others = (and_parts (not (is_same_address manager port.address)) (not (is_same_address manager port.broadcast) && (length port.peers == 0)) is).1 in
        let none = eqb-true (length port.peers) 0 (and_parts (not (is_same_address manager port.broadcast)) (length port.peers == 0) others).1 in
        absurd (omega (arith, none, some))

pub peers_raise_the_ask : PeersRaiseTheAsk
peers_raise_the_ask format place port peer time_to_live managed some =
    subst (λ (b : Bool). (if b then register_ask format place port peer ∷ [] else []) ≡ register_ask format place port peer ∷ [])
    (sym (no_other port managed some)) refl
