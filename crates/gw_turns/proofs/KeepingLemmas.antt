-- What a keeper's text is of after a tick.
use Rattle.std.proofs.Common.{◌≡◌, ◌∙◌, refl, sym, ap, subst, ℕ, ◌+◌, ◌≤◌, ◌<◌, ◌^◌, ◌⊎◌, not, Bool, true, false, List, Option, nat_le, inl, inr, arith}
use Rattle.std.specs.Prelude.{Result, Ok, Err, if◌then◌else◌, nat_eq}
use Rattle.std.proofs.lemmas.Bool.{and_from, and_parts, eq-eqb, eqb-true, le-leb, leb-false, leb-true, lt-ltb, ltb-true, not-false, or_cases, or_left, or_parts, or_right}
use Rattle.gw_state.specs.Saved.{Origin, Saved}
use Rattle.gw_core.specs.Resumed.{saved_of}
use Rattle.gw_core.specs.State.{State}
use Rattle.gw_turns.specs.Keeping.{AheadIsUnreached, FreshIsSpared, HasAhead, IsAsKept, IsRecent, IsYoung, KeepsChanged, Keeping, KeptBy, RecentIsYoung, TicksBy, TicksKeepAhead, TicksKeepRecent, TicksKeepYoung}
use Rattle.gw_turns.specs.Keeping.{alike_but_ticks, but_ticks, due_of, far_ahead, is_ahead, is_due, is_fresh, is_kept, number_for, numbered}
use Rattle.gw_turns.specs.declared.pace.Pace.{Pace}
use Rattle.gw_turns.specs.declared.alike.SavedPart.TheVariants.{AllButTicks}
use Rattle.gw_wire.specs.declared.store.StoreFault.{StoreFault}
use Rattle.gw_turns.proofs.AlikeLemmas.{alike_but_ticks_is_equal, equal_but_ticks_is_alike}

-- ---- which number it has

far_by : (is : Bool) (denials : ℕ) → is_ahead (if is then denials + 1000 else 2 ^ 63) denials ≡ true
far_by true denials =
    or_left (nat_le (denials + 500) (denials + 1000)) (nat_eq (denials + 1000) (2 ^ 63)) (le-leb (denials + 500) (denials + 1000) (omega arith))
far_by false denials = or_right (nat_le (denials + 500) (2 ^ 63)) (nat_eq (2 ^ 63) (2 ^ 63)) (eq-eqb (2 ^ 63) (2 ^ 63) refl)

far_is_ahead : (denials : ℕ) → is_ahead (far_ahead denials) denials ≡ true
far_is_ahead denials = far_by (nat_le (denials + 1000) (2 ^ 63)) denials

number_by : (is : Bool) (number denials : ℕ) → is_ahead number denials ≡ is → is_ahead (if is then number else far_ahead denials) denials ≡ true
number_by true number denials ahead = ahead
number_by false number denials ahead = far_is_ahead denials

-- the number that is written is ahead
pub number_is_ahead : (kept : Result Saved StoreFault) (denials : ℕ) → is_ahead (number_for kept denials) denials ≡ true
number_is_ahead (Ok s) denials = number_by (is_ahead s.counts.denials denials) s.counts.denials denials refl
number_is_ahead (Err fault) denials = far_is_ahead denials

unreached : (number denials later : ℕ) → (nat_le (denials + 500) number ≡ true) ⊎ (nat_eq number (2 ^ 63) ≡ true)
    → later ≤ denials + 500 → later ≤ 2 ^ 63 → later ≤ number
unreached number denials later (inl e) few most = omega (arith, few, leb-true (denials + 500) number e)
unreached number denials later (inr e) few most = omega (arith, most, eqb-true number (2 ^ 63) e)

pub ahead_is_unreached : AheadIsUnreached
ahead_is_unreached number denials later ahead few most =
    unreached number denials later (or_cases (nat_le (denials + 500) number) (nat_eq number (2 ^ 63)) ahead) few most

-- ---- after a tick

-- a text that isn't due is of a state fewer than ten ticks ago, and its number is ahead
not_due : (kept : Result Saved StoreFault) (pace : Pace) (o : Origin) (w : State) → is_due kept pace w ≡ false → IsRecent kept (saved_of o w)
not_due (Ok s) pace o w e =
    let ahead = is_ahead s.counts.denials w.denials in
    let parts = or_parts (nat_le (s.counts.ticks + 10) w.ticks) (not ahead) e in
    (inl (leb-false (s.counts.ticks + 10) w.ticks parts.0), not-false ahead parts.1)
not_due (Err fault) pace o w e = tt

-- one that differs only in its ticks needs no other
differs : (kept : Result Saved StoreFault) (due : Saved) → is_kept AllButTicks kept (numbered kept due) ≡ true → IsRecent kept due
differs (Ok s) due e =
    let now = numbered (Ok s) due in
    let parts = and_parts (alike_but_ticks s now) (is_fresh s now) e in
    let same : but_ticks s ≡ but_ticks now = alike_but_ticks_is_equal s now parts.0 in
    let number : s.counts.denials ≡ number_for (Ok s) due.counts.denials = ap (λ (t : Saved). t.counts.denials) same in (
      inr (record { same = same; fresh = parts.1 }),
      subst (λ (n : ℕ). is_ahead n due.counts.denials ≡ true) (sym number) (number_is_ahead (Ok s) due.counts.denials),
    )
differs (Err fault) due e = tt

-- what was just kept is recent
pub just_recent : (kept : Result Saved StoreFault) (due : Saved) → IsRecent (Ok (numbered kept due)) due
just_recent kept due =
    let few : due.counts.ticks < due.counts.ticks + 10 = omega arith in
    (inl few, number_is_ahead kept due.counts.denials)

-- what is recent, by a keeper that is known
known : {S : Type 0} (k l : Keeping S) (w : State) → l ≡ k → IsRecent k.kept (saved_of k.origin w) → IsRecent l.kept (saved_of l.origin w)
known {S} k l w same recent = subst (λ (j : Keeping S). IsRecent j.kept (saved_of j.origin w)) (sym same) recent

kept_by : {S : Type 0} (held : S → Option (List ℕ)) (k l : Keeping S) (w : State) (is : Bool)
    → is_kept AllButTicks k.kept (due_of k w) ≡ is → KeptBy is held k (due_of k w) l → IsRecent l.kept (saved_of l.origin w)
kept_by held k l w true is same = known k l w same (differs k.kept (saved_of k.origin w) is)
kept_by held k l w false is kept =
    subst (λ (o : Origin). IsRecent l.kept (saved_of o w)) (sym kept.origin)
    (subst (λ (r : Result Saved StoreFault). IsRecent r (saved_of k.origin w)) (sym kept.kept) (just_recent k.kept (saved_of k.origin w)))

changed_by : {S : Type 0} (held : S → Option (List ℕ)) (k l : Keeping S) (w : State) (kept : Bool)
    → KeepsChanged AllButTicks held k (due_of k w) l kept → IsRecent l.kept (saved_of l.origin w)
changed_by held k l w true p = kept_by held k l w (is_kept AllButTicks k.kept (due_of k w)) refl p
changed_by held k l w false p = subst (λ (r : Result Saved StoreFault). IsRecent r (saved_of l.origin w)) (sym p.unkept.kept) tt

ticks_by : {S : Type 0} (held : S → Option (List ℕ)) (k l : Keeping S) (w : State) (is : Bool) → is_due k.kept k.pace w ≡ is
    → TicksBy is held k (due_of k w) l → IsRecent l.kept (saved_of l.origin w)
ticks_by held k l w true is p = changed_by held k l w p.0 p.1
ticks_by {S} held k l w false is same =
    subst (λ (j : Keeping S). IsRecent j.kept (saved_of j.origin w)) (sym same) (not_due k.kept k.pace k.origin w is)

pub ticks_keep_recent : {S : Type 0} (held : S → Option (List ℕ)) → TicksKeepRecent held
ticks_keep_recent {S} held k l w p =
    subst (λ (j : Keeping S). IsRecent j.kept (saved_of j.origin w)) (sym p.2) (ticks_by held k p.0 w (is_due k.kept k.pace w) refl p.1)

-- ---- how far ahead it is

pub recent_has_ahead : (kept : Result Saved StoreFault) (due : Saved) → IsRecent kept due → HasAhead kept due.counts.denials
recent_has_ahead (Ok s) due recent = recent.1
recent_has_ahead (Err fault) due recent = tt

pub ticks_keep_ahead : {S : Type 0} (held : S → Option (List ℕ)) → TicksKeepAhead held
ticks_keep_ahead held k l w p = recent_has_ahead l.kept (saved_of l.origin w) (ticks_keep_recent held k l w p)

-- ---- how old it gets

young_by : (s due : Saved) → (due.counts.ticks < s.counts.ticks + 10) ⊎ IsAsKept s (numbered (Ok s) due) → IsYoung (Ok s) due
young_by s due (inl few) = omega (arith, few)
young_by s due (inr p) = ltb-true due.counts.ticks (s.counts.ticks + 600) p.fresh

pub recent_is_young : RecentIsYoung
recent_is_young (Ok s) due recent = young_by s due recent.0
recent_is_young (Err fault) due recent = tt

pub ticks_keep_young : {S : Type 0} (held : S → Option (List ℕ)) → TicksKeepYoung held
ticks_keep_young held k l w p = recent_is_young l.kept (saved_of l.origin w) (ticks_keep_recent held k l w p)

-- ---- what isn't written again

pub fresh_is_spared : {S : Type 0} (held : S → Option (List ℕ)) → FreshIsSpared held
fresh_is_spared {S} held k l w s p is same young =
    let due = due_of k w in
    let as_kept : is_kept AllButTicks k.kept due ≡ true =
    ap (λ (r : Result Saved StoreFault). is_kept AllButTicks r due) is
    ∙ and_from (alike_but_ticks s due) (is_fresh s due) (equal_but_ticks_is_alike s due same)
    (lt-ltb due.counts.ticks (s.counts.ticks + 600) young) in
    subst (λ (b : Bool). KeptBy b held k due l) as_kept p
