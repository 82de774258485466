-- What a machine may give to a run.
use Rattle.std.specs.Prelude.{ℕ, Bool, List, Option, Result}
use Rattle.gw_configuration.specs.declared.port.Port.{Port}
use Rattle.gw_wire.specs.declared.store.StoreFault.{StoreFault}
use Rattle.gw_system.specs.Host.{LogOpening, OpensAtLine}
use Rattle.gw_system.specs.declared.opening.SocketFailure.{SocketFailure}
use Rattle.gw_system.specs.declared.reading.ReadFailure.{ReadFailure}
use Rattle.gw_system.specs.declared.store.StoreKind.{StoreKind}

-- What it may give, of files and by their names: the octets of one, the last denial of a log, a store, what asks to read a
-- configuration again, a log, whether the last line of that lacks its line feed, and whether opening it waits for its reader; the
-- sockets of some ports; and whether it routes IP itself.
pub record Offers (Log Sockets S Q : Type 0) : Type 1 where
  pub FileReads : List ℕ → Result (Option (List ℕ)) ReadFailure → Type 0
  pub LastDenials : List ℕ → Result (Option (List ℕ)) ReadFailure → Type 0
  pub StoreOpens : StoreKind → List ℕ → Result S StoreFault → Type 0
  pub ReloadsOpen : (request config : List ℕ) → Q → Type 0
  pub LogOpens : LogOpening Log
  pub LogIsCut : List ℕ → Bool → Type 0
  pub Waits : List ℕ → Bool → Type 0
  pub SocketsOpen : List Port → Result Sockets SocketFailure → Type 0
  pub RoutesIp : Bool → Type 0

-- a log is opened so that a line begins, by what it holds
abbrev pub OpensLog : {Log Sockets S Q : Type 0} → Offers Log Sockets S Q → (Log → Option (List ℕ)) → LogOpening Log
OpensLog offers held = OpensAtLine offers.LogOpens offers.LogIsCut held
