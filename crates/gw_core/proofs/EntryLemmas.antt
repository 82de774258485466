-- What is asked before a message is taken, and what an event does that is kept out.
use Rattle.std.proofs.Common.{◌≡◌, ◌∙◌, sym, ap, ap₂, refl, Bool, true, false, ◌&&◌, ◌||◌, ◌==◌, List, [], ◌∷◌, ◌++◌, length, not}
use Rattle.std.specs.Prelude.{if◌then◌else◌}
use Rattle.std.specs.List.{list_all}
use Rattle.std.specs.Option.{option_map_or, option_or}
use Rattle.gw_addr.specs.declared.bip.BipAddr.{BipAddr}
use Rattle.gw_tables.specs.bdt_fdt.Registrations.{contains}
use Rattle.gw_rules.specs.Format.{names_stations}
use Rattle.gw_rules.specs.RuleList.{allows}
use Rattle.gw_rules.specs.declared.format.Format.{Format}
use Rattle.gw_relay.specs.Stations.{belongs, is_station}
use Rattle.gw_relay.specs.declared.port.PortState.{PortState}
use Rattle.gw_objects.specs.Objects.{Database}
use Rattle.gw_relay.specs.Cast.{goes_on}
use Rattle.gw_relay.specs.Entry.{admits, claim_ask, comes_by_route, enter_ask, enters, entry_asks, is_stranger, speaks_for_others}
use Rattle.gw_relay.specs.Message.{Message}
use Rattle.gw_relay.specs.Response.{Response}
use Rattle.gw_relay.specs.State.{Relay}
use Rattle.gw_relay.specs.Turn.{IsWalked}
use Rattle.gw_relay.specs.declared.turn.Turn.{Turn}
use Rattle.gw_rules.specs.Ask.{Ask}
use Rattle.gw_rules.specs.declared.rule.Rule.{Rule}
use Rattle.gw_rules.specs.declared.verdict.Verdict.{Verdict}
use Rattle.gw_core.specs.Receive.{admit}
use Rattle.gw_core.specs.internal.Respond.{entered_response, is_taken, message_response, passed_response, received_response}
use Rattle.gw_core.specs.internal.View.{judged}
use Rattle.gw_core.proofs.RespondLemmas.{bars, entered_off, entered_on, goes, stops}
use Rattle.gw_core.proofs.TurnLemmas.{KeepsBoth, or_none, walked_both, walked_like}

abbrev on : Message → Bool
on m = goes_on m.here m.from m.frame

-- ---- whether a message is taken

not_either : (b a : Bool) → (not b || a) ≡ false → (b ≡ true) × (a ≡ false)
not_either true true e = absurd cc
not_either true false e = (refl, refl)
not_either false a e = absurd cc

pub barred_goes_on : (rules : List Rule) (relay : Relay) (m : Message) → is_taken rules relay m ≡ false
    → (on m ≡ true) × (admits rules relay m ≡ false)
barred_goes_on rules relay m e = not_either (on m) (admits rules relay m) e

either : (b a : Bool) → b ≡ true → (not b || a) ≡ true → a ≡ true
either true a is e = e
either false a is e = absurd cc

pub admitted_on : (rules : List Rule) (relay : Relay) (m : Message) → on m ≡ true → is_taken rules relay m ≡ true
    → admits rules relay m ≡ true
admitted_on rules relay m is e = either (on m) (admits rules relay m) is e

-- ---- nothing is asked under the first formats

and_false : (b : Bool) → (b && false) ≡ false
and_false true = refl
and_false false = refl

all_belong : (format : Format) (state : PortState) (address : BipAddr) → names_stations format ≡ false → belongs format state address ≡ true
all_belong format state address off = ap (λ (b : Bool). not b || length state.stations == 0 || is_station state.port state.stations address || contains state.fdt address) off

pub entry_is_unasked : (rules : List Rule) (relay : Relay) (m : Message) → names_stations relay.format ≡ false → entry_asks rules relay m ≡ []
entry_is_unasked rules relay m off =
    let e = enter_ask relay.format m in
    let k = claim_ask relay.format m in
    let known : is_stranger relay.format m ≡ false =
    ap (λ (b : Bool). enters m.frame && not b) (all_belong relay.format m.here m.link off) ∙ and_false (enters m.frame) in
    let own : speaks_for_others relay m ≡ false =
    ap (λ (b : Bool). b && option_map_or (λ source. not (comes_by_route relay m source)) m.npdu.source false) off in
    ap₂ (λ (strange speaks : Bool). (if strange then e ∷ [] else [])
    ++ (if list_all (allows rules) (if strange then e ∷ [] else []) then (if speaks then k ∷ [] else []) else [])) known own

-- ---- what is due, step by step

module _ {A : Type 0} (kept : A → List Verdict) (kept_of : List Rule → List Ask → List Verdict) where
  pub due_barred : (rules : List Rule) (relay : Relay) (d : Database) (m : Message) (old new : Turn A) → is_taken rules relay m ≡ false
      → IsWalked kept kept_of rules (entered_response rules relay m) old new
      → IsWalked kept kept_of rules (received_response rules relay d (admit rules relay (judged m))) old new
  due_barred rules relay d m old new out walked =
      let so = barred_goes_on rules relay m out in
      let entered = entered_on rules relay m so.0 in
      let b = bars rules relay d m so.0 so.1 in
      walked_like kept kept_of rules (entered_response rules relay m) (received_response rules relay d (admit rules relay (judged m))) old new
      (b.asks ∙ sym (ap (λ (r : Response). r.asks) entered)) (b.sends ∙ sym (ap (λ (r : Response). r.sends) entered))
      (b.change ∙ sym (ap (λ (r : Response). r.change) entered)) walked

  pub due_stopped : KeepsBoth kept_of → (rules : List Rule) (relay : Relay) (d : Database) (m : Message) (old mid new : Turn A) → on m ≡ false
      → IsWalked kept kept_of rules (entered_response rules relay m) old mid
      → IsWalked kept kept_of rules (passed_response rules relay m) mid new
      → IsWalked kept kept_of rules (received_response rules relay d (admit rules relay (judged m))) old new
  due_stopped both rules relay d m old mid new off entered passed =
      let none = entered_off rules relay m off in
      let s = stops rules relay d m off in
      let front = λ (r : Response). r.asks ++ (passed_response rules relay m).asks in
      walked_like kept kept_of rules _ (received_response rules relay d (admit rules relay (judged m))) old new
      (s.asks ∙ sym (ap (λ (r : Response). r.asks ++ (passed_response rules relay m).asks) none))
      (s.sends ∙ sym (ap (λ (r : Response). r.sends ++ (passed_response rules relay m).sends) none))
      (s.change ∙ sym (ap (λ (r : Response). option_or r.change (passed_response rules relay m).change) none))
      (walked_both kept kept_of both rules (entered_response rules relay m) (passed_response rules relay m) old mid new entered passed)

  pub due_taken : KeepsBoth kept_of → (rules : List Rule) (relay : Relay) (d : Database) (m : Message) (old mid late new : Turn A)
      → on m ≡ true → admits rules relay m ≡ true
      → IsWalked kept kept_of rules (entered_response rules relay m) old mid
      → IsWalked kept kept_of rules (passed_response rules relay m) mid late
      → IsWalked kept kept_of rules (message_response rules relay.format d m) late new
      → IsWalked kept kept_of rules (received_response rules relay d (admit rules relay (judged m))) old new
  due_taken both rules relay d m old mid late new is admitted entered passed served =
      let all = goes rules relay d m is admitted in
      let one = entered_on rules relay m is in
      let two = passed_response rules relay m in
      let three = message_response rules relay.format d m in
      walked_like kept kept_of rules _ (received_response rules relay d (admit rules relay (judged m))) old new
      (all.asks ∙ sym (ap (λ (r : Response). r.asks ++ (two.asks ++ three.asks)) one))
      (all.sends ∙ sym (ap (λ (r : Response). r.sends ++ (two.sends ++ three.sends)) one))
      (all.change ∙ sym (ap (λ (r : Response). option_or r.change (option_or two.change three.change)) one ∙ or_none two.change))
      (walked_both kept kept_of both rules (entered_response rules relay m)
      (record { asks = two.asks ++ three.asks; sends = two.sends ++ three.sends; change = option_or two.change three.change }) old mid new entered
      (walked_both kept kept_of both rules two three mid late new passed served))
