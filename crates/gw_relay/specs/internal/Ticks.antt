-- What is kept of the ports.
use Rattle.std.specs.Prelude.{◌≡◌, ℕ, List}
use Rattle.std.specs.List.{AllByRecursion}
use Rattle.gw_relay.specs.declared.port.PortState.{PortState}

-- the tables of each port have seen so many ticks
abbrev pub AreAlike : ℕ → List PortState → Type 0
AreAlike ticks ports = AllByRecursion (λ state. state.fdt.ticks ≡ ticks) ports
