-- What a function returned, held against what the definition gives.
use Rattle.std.specs.Prelude.{◌≡◌, ◌≢◌, Option, Some, Result, Ok, Err}
use Rattle.gw_configuration.specs.declared.fault.ConfigFault.{ConfigFault}
use Rattle.gw_configuration.specs.declared.fault.ConfigFault.TheVariants.{Memory, Range, TooMany}
use Rattle.gw_rules.specs.declared.fault.RuleFault.{RuleFault}
use Rattle.gw_rules.specs.declared.fault.RuleFault.TheVariants as rules
use Rattle.gw_configuration.specs.declared.located.Located.{Located as Lent}
use Rattle.gw_configuration.specs.Located.{Find, Located, located_view}

-- what a function returned, seen by view, is what the definition gives, unless there was no memory
abbrev pub Gives : {X Y : Type 0} → (X → Y) → Result X ConfigFault → Result Y ConfigFault → Type 0
Gives view (Ok x) reading = reading ≡ Ok (view x)
Gives view (Err fault) reading = fault ≢ Memory → reading ≡ Err fault

-- the same of what may fail with the place of its fault
abbrev pub Finds : {X Y : Type 0} → (X → Y) → Result X Lent → Find Y → Type 0
Finds view (Ok x) reading = reading ≡ Ok (view x)
Finds view (Err located) reading = located.fault ≢ Memory → reading ≡ Err (located_view located)

-- a fault of what is read is returned: no lack of memory comes before it
abbrev pub NamesFault : {X Y : Type 0} → Result X ConfigFault → Result Y ConfigFault → Type 0
NamesFault result reading = (fault : ConfigFault) → reading ≡ Err fault → result ≡ Err fault

-- the result is this fault
abbrev pub IsErrOf : {X : Type 0} → Located → Result X Lent → Type 0
IsErrOf located (Ok x) = ⊥
IsErrOf located (Err lent) = located_view lent ≡ located

-- so is the fault of a table, with its place
abbrev pub NamesLocated : {X : Type 0} → Result X Lent → Option Located → Type 0
NamesLocated result found = (located : Located) → found ≡ Some located → IsErrOf located result

-- what a fault of a rule or of a list of rules is to a configuration
abbrev pub fault_of : RuleFault → ConfigFault
fault_of rules.TooMany = TooMany
fault_of rules.Range = Range
fault_of rules.Memory = Memory
