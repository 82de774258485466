-- Where a character is first, from the lanes of a block.
use Rattle.std.proofs.Common.{◌≡◌, ℕ, ◌+◌, ◌*◌, ◌<◌, ◌≤◌, not, eqb, List, length, get_or, sym, ◌∙◌, arith, inl, inr, eq-eqb}
use Rattle.std.proofs.lemmas.Bool.{cases_lt, eqb-true, false≢true}
use Rattle.std.proofs.lemmas.Simd.{run_in_chunk_fails, run_in_chunk_stops}
use Rattle.std.specs.List.{prefix_len}
use lib.Lanes.{chunk}
use Rattle.gw_script.specs.internal.Finding.{LacksTo, IsFirstAt}

-- the character is not in a block before the first lane that has it
pub lacks_more : (c : ℕ) (text : List ℕ) (start before : ℕ) → start + 16 ≤ length text
    → before ≡ prefix_len (λ x. not (eqb x c)) (chunk start 16 text) → LacksTo c text start → LacksTo c text (start + before)
lacks_more c text start before room counted lacks i lt e =
    elim (cases_lt i start) [
      | inl less ↦ lacks i less e
      | inr over ↦ false≢true (sym (run_in_chunk_fails (λ x. eqb x c) text start 16 before 0 room counted i over lt) ∙ eq-eqb (get_or text i 0) c e)
    ]

-- the lane that has it is its first place
pub first_at : (c : ℕ) (text : List ℕ) (start before : ℕ) → start + 16 ≤ length text
    → before ≡ prefix_len (λ x. not (eqb x c)) (chunk start 16 text) → before < 16 → LacksTo c text start → IsFirstAt c text (start + before)
first_at c text start before room counted short lacks = record {
  inside = omega arith;
  here = eqb-true _ _ (run_in_chunk_stops (λ x. eqb x c) text start 16 before 0 room counted short);
  before = lacks_more c text start before room counted lacks;
}

-- no lane of a block has it
pub lacks_block : (c : ℕ) (text : List ℕ) (block before : ℕ) → 16 * block + 16 ≤ length text
    → before ≡ prefix_len (λ x. not (eqb x c)) (chunk (16 * block) 16 text) → 16 ≤ before → LacksTo c text (16 * block) → LacksTo c text (16 * (block + 1))
lacks_block c text block before room counted none lacks i lt =
    lacks_more c text (16 * block) before room counted lacks i (omega arith)

-- one place more
pub lacks_one_more : (c : ℕ) (text : List ℕ) (place : ℕ) → (get_or text place 0 ≡ c → ⊥) → LacksTo c text place → LacksTo c text (place + 1)
lacks_one_more c text place other lacks i lt e =
    elim (cases_lt i place) [
      | inl less ↦ lacks i less e
      | inr over ↦
          let same : i ≡ place = omega arith in
          other (rw same at e)
    ]
