-- Lists of pairs of which one after the other is asked.
use Rattle.std.proofs.Common.{◌≡◌, ◌∙◌, ◌+◌, ◌<◌, ◌≤◌, ℕ, List, length, get_or, arith, sym, subst, inl, inr}
use Rattle.std.proofs.Math.ListN.{set}
use Rattle.std.proofs.lemmas.Bool.{cases_lt}
use Rattle.std.proofs.Math.Nat.{ne_of_lt}
use Rattle.std.proofs.lemmas.List.{get_or-set_same, get_or-set_other, length-set}
use Rattle.gw_wire.specs.declared.sock_pair.SockPair.{SockPair}
use Rattle.gw_wire.specs.Ports.{AtPlace, Stay}

-- the pair at the next place changes
pub stay_set : {S : Type 0} (from place : ℕ) (before now : List (SockPair S)) (new : SockPair S) → Stay from place before now →
    from ≤ place → Stay from (place + 1) before (set now place new)
stay_set from place before now new stay above = record {
  count = length-set now place new ∙ stay.count;
  lower = λ other below d. get_or-set_other now place other new d (ne_of_lt (omega arith)) ∙ stay.lower other below d;
  upper = λ other over d. get_or-set_other now place other new d (λ same. ne_of_lt (omega arith) (sym same)) ∙ stay.upper other (omega arith) d;
}

-- what holds of the pairs at some places holds of that at the next one too, which changes
pub each_set : {S : Type 0} (Holds : ℕ → SockPair S → SockPair S → Type 0) (from place : ℕ) (before now : List (SockPair S)) (new : SockPair S) →
    Stay from place before now → place < length now → ((k : ℕ) → from ≤ k → k < place → AtPlace before now k (Holds k)) →
    ((d : SockPair S) → Holds place (get_or now place d) new) →
    (k : ℕ) → from ≤ k → k < place + 1 → AtPlace before (set now place new) k (Holds k)
each_set Holds from place before now new stay inside held here k above below d =
    elim (cases_lt k place) [
      | inl lower ↦ subst (λ two. Holds k (get_or before k d) two) (sym (get_or-set_other now place k new d (ne_of_lt lower))) (held k above lower d)
      | inr upper ↦ at_place k (omega arith)
    ]
  where
    at_place : (j : ℕ) → j ≡ place → Holds j (get_or before j d) (get_or (set now place new) j d)
    at_place j same =
        subst (λ i. Holds i (get_or before i d) (get_or (set now place new) i d)) (sym same)
        (subst (λ two. Holds place (get_or before place d) two) (sym (get_or-set_same now place new d inside))
        (subst (λ one. Holds place one new) (stay.upper place (omega arith) d) (here d)))
