-- What comes of a line that isn't taken.
use Rattle.std.proofs.Common.{◌≡◌, Bool, ℕ, List, Option, Some, Err, ◌⊎◌, inl, inr, sym, subst}
use Rattle.gw_replay.specs.declared.replaying.RunFault.{RunFault}
use Rattle.gw_replay.specs.declared.replaying.RunFault.TheVariants.{Memory, CountEnd}
use Rattle.gw_core.specs.State.{State}
use Rattle.gw_script.specs.Flaw.{IsFlaw}
use Rattle.gw_script.specs.declared.flaw.LineFlaw.{LineFlaw}
use Rattle.gw_replay.specs.Entry.{ScriptEntry, IsEntry}
use Rattle.gw_replay.specs.internal.LineOutcome.{LineOutcome, MemoryWant, PassesEnd}
use Rattle.gw_replay.specs.Replay.{EventText}

pub same_line : (x y : Bool) (p q : ℕ) (a b : List ℕ) (e : ScriptEntry) → x ≡ y → p ≡ q → a ≡ b → IsEntry y q b e → IsEntry x p a e
same_line x y p q a b e announces ports lines is =
    subst (λ (l : List ℕ). IsEntry x p l e) (sym lines)
    (subst (λ (n : ℕ). IsEntry x n b e) (sym ports) (subst (λ (z : Bool). IsEntry z q b e) (sym announces) is))

pub same_flaw : (p q : ℕ) (a b : List ℕ) (flaw : LineFlaw) → p ≡ q → a ≡ b → IsFlaw p a flaw → IsFlaw q b flaw
same_flaw p q a b flaw ports lines is =
    subst (λ (l : List ℕ). IsFlaw q l flaw) lines (subst (λ (n : ℕ). IsFlaw n a flaw) ports is)

-- what isn't played leaves what was written as it was
pub not_taken : (wording : EventText) (n : ℕ) (w moved : State) (text : List ℕ) (left : Option (List ℕ)) (before : List ℕ) (after : Option (List ℕ))
    (fault : RunFault) (wants passes : Type 0)
    → ((fault ≡ Memory) × wants) ⊎ ((fault ≡ CountEnd) × passes) → (wants → MemoryWant w text) → (passes → PassesEnd w text)
    → after ≡ Some before → LineOutcome wording n w moved text left before after (Err fault)
not_taken wording n w moved text left before after fault wants passes (inl h) short past held =
    subst (λ (f : RunFault). LineOutcome wording n w moved text left before after (Err f)) (sym h.0) (short h.1, held)
not_taken wording n w moved text left before after fault wants passes (inr h) short past held =
    subst (λ (f : RunFault). LineOutcome wording n w moved text left before after (Err f)) (sym h.0) (past h.1, held)
