-- What a fault that is passed on by `?` makes.
use Rattle.std.proofs.Common.{◌≡◌, ap, sym, true≢false, Result, Ok, Err}
use Rattle.std.specs.Prelude.{IsErr, IsErrAnd}
use Rattle.gw_configuration.specs.declared.fault.ConfigFault.{ConfigFault}

pub is_fault : {T : Type 0} (result : Result T ConfigFault) (fault : ConfigFault) → IsErr result × IsErrAnd result (λ f. f ≡ fault)
    → result ≡ Err fault
is_fault (Ok x) fault made = absurd (true≢false (sym made.0))
is_fault (Err f) fault made = ap Err made.1
