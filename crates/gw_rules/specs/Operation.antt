-- The thirteen operations, each with its number and its name, which are this project's own.
use Rattle.std.specs.Prelude.{ℕ, Bool, true, false, List, codes}
use Rattle.gw_rules.specs.declared.operation.Operation.{Operation}
use Rattle.gw_rules.specs.declared.operation.Operation.TheVariants.{Cast, Route, Register, Delete, ReadTable}
use Rattle.gw_rules.specs.declared.operation.Operation.TheVariants.{WriteTable, Learn, Network, Read, Write}
use Rattle.gw_rules.specs.declared.operation.Operation.TheVariants.{List as Listing, Enter, Claim}

-- the number under which asks and rules name an operation, and the name that configurations and the log show
abbrev pub row : Operation → ℕ × List ℕ
row Cast = (1, codes "cast")
row Route = (2, codes "route")
row Register = (3, codes "register")
row Delete = (4, codes "delete")
row ReadTable = (5, codes "read-table")
row WriteTable = (6, codes "write-table")
row Learn = (7, codes "learn")
row Network = (8, codes "network")
row Read = (9, codes "read")
row Write = (10, codes "write")
row Listing = (11, codes "list")
row Enter = (12, codes "enter")
row Claim = (13, codes "claim")

-- the number of an operation
abbrev pub operation_number : Operation → ℕ
operation_number operation = (row operation).0

-- the name of an operation
abbrev pub operation_name : Operation → List ℕ
operation_name operation = (row operation).1

-- the operations that change a table, a route or a value
abbrev pub changes : Operation → Bool
changes Register = true
changes Delete = true
changes WriteTable = true
changes Learn = true
changes Write = true
changes _ = false
