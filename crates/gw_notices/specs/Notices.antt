-- What an operator reads of what is kept and recorded, or isn't.
use Rattle.std.specs.Prelude.{◌≡◌, ◌⊎◌, ℕ, Bool, true, false, List, [], Option, Some, None, codes, ◌++◌, ◌∷◌}
use Rattle.gw_wire.specs.declared.store.StoreFault.{StoreFault}
use Rattle.gw_wire.specs.declared.store.StoreFault.TheVariants as store
use Rattle.gw_notices.specs.declared.troubles.Troubles.{Troubles}

-- the state alone isn't kept
abbrev pub of_state : Option StoreFault → Troubles
of_state fault = record { state = fault; trial = false; audit = false; ended = false }

abbrev pub no_troubles : Troubles
no_troubles = of_state None

abbrev pub reason_of : StoreFault → List ℕ
reason_of store.NoSpace = codes "no space"
reason_of store.NotPermitted = codes "not permitted"
reason_of store.ReadOnly = codes "read-only"
reason_of store.Memory = codes "out of memory"
reason_of store.System = codes "refused by the system"
reason_of store.TooMany = codes "too many changes"

-- the line of a state that isn't kept
abbrev pub unkept_line : StoreFault → List ℕ
unkept_line fault = codes "bacgw: state isn't kept: " ++ reason_of fault ++ 10 ∷ []

-- It is reported once, until the state is kept again, which is reported too.
abbrev pub state_notice : (was is : Option StoreFault) → List ℕ
state_notice None (Some fault) = unkept_line fault
state_notice (Some fault) None = codes "bacgw: state is kept again\n"
state_notice None None = []
state_notice (Some a) (Some b) = []

-- Lines that are lost are reported the first time.
abbrev pub trial_notice : (was is : Bool) → List ℕ
trial_notice false true = codes "bacgw: trial: lines are lost\n"
trial_notice _ _ = []

abbrev pub audit_notice : (was is : Bool) → List ℕ
audit_notice false true = codes "bacgw: audit: lines are lost\n"
audit_notice _ _ = []

-- A trial that ends is reported.
abbrev pub ended_notice : (was is : Bool) → List ℕ
ended_notice false true = codes "bacgw: trial: ended: the configuration has another format\n"
ended_notice _ _ = []

-- Metrics that aren't written are reported once, until they are written again, which is reported too.
abbrev pub metrics_notice : (was is : Option StoreFault) → List ℕ
metrics_notice None (Some fault) = codes "bacgw: metrics aren't written: " ++ reason_of fault ++ 10 ∷ []
metrics_notice (Some fault) None = codes "bacgw: metrics are written again\n"
metrics_notice None None = []
metrics_notice (Some a) (Some b) = []

-- what has the name of a request isn't taken
abbrev pub untaken_line : List ℕ
untaken_line = codes "bacgw: request isn't taken: it is none, or can't be read or taken away\n"

-- the answer to a request to stop, by why the state isn't kept, if it isn't
abbrev pub stop_line : Option StoreFault → List ℕ
stop_line None = codes "stopped\n"
stop_line (Some fault) = codes "stopped: state isn't kept: " ++ reason_of fault ++ 10 ∷ []

abbrev pub notice_of : (was is : Troubles) → List ℕ
notice_of was is =
    state_notice was.state is.state
    ++ (trial_notice was.trial is.trial ++ (audit_notice was.audit is.audit ++ ended_notice was.ended is.ended))

-- what is answered if there is no memory to say what is counted
abbrev pub no_status_line : List ℕ
no_status_line = codes "bacgw: status: out of memory\n"

-- A request to say what is counted is answered by this report, or so.
abbrev pub IsStatusAnswer : (report answer : List ℕ) → Type 0
IsStatusAnswer report answer = (answer ≡ report) ⊎ (answer ≡ no_status_line)
