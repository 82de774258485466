-- The answer of a write that isn't made, through what is due after it.
use Rattle.std.proofs.Common.{◌≡◌, Bool, sym, subst}
use Rattle.std.specs.Prelude.{Result, Ok, Err, IsErr}
use Rattle.std.specs.Result.{IsErrAnd}
use Rattle.gw_addr.specs.Reading.{◌>>=◌}
use Rattle.gw_objects.specs.declared.fault.WriteFault.{WriteFault}
use Rattle.gw_objects.specs.Write.{Decides}

at_fault : {X Y Z W : Type 0} (view : X → Y) (f : Y → Z) (other : W → Z) (has_text : Z → Bool) (fault : WriteFault) (due : Result Y WriteFault)
    → Decides view (λ y. has_text (f y)) (Err fault) due → Decides other has_text (Err fault) (due >>= λ y. Ok (f y))
at_fault view f other has_text fault (Ok y) e = e
at_fault view f other has_text fault (Err right) e = e

-- a fault that is passed on decides what follows it
pub decided : {X Y Z W : Type 0} (view : X → Y) (f : Y → Z) (other : W → Z) (has_text : Z → Bool) (fault : WriteFault) (r : Result W WriteFault) (due : Result Y WriteFault)
    → IsErr r × IsErrAnd r (λ g. g ≡ fault) → Decides view (λ y. has_text (f y)) (Err fault) due → Decides other has_text r (due >>= λ y. Ok (f y))
decided view f other has_text fault (Ok x) due passes e = absurd passes.1
decided view f other has_text fault (Err g) due passes e =
    subst (λ h. Decides other has_text (Err h) (due >>= λ y. Ok (f y))) (sym passes.1) (at_fault view f other has_text fault due e)
