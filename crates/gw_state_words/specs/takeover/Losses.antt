-- What of a saved state is dropped, by kinds.
use Rattle.std.specs.Prelude.{ℕ, Bool, not, ◌==◌, ◌&&◌, if◌then◌else◌, Option, Some, None}
use Rattle.gw_state_words.specs.declared.takeover.finding.TakeoverFinding.{TakeoverFinding}
use Rattle.gw_state_words.specs.declared.takeover.finding.TakeoverFinding.TheVariants.{Port, NewPort, LostPort, Route, Value, NewObject}
use Rattle.gw_state_words.specs.declared.takeover.finding.TakeoverFinding.TheVariants.{LostObject}
use Rattle.gw_state_words.specs.declared.takeover.finding.HeldPlace.{HeldPlace}
use Rattle.gw_state_words.specs.declared.takeover.finding.HeldPlace.TheVariants.{Slot, Default}
use Rattle.gw_state_words.specs.declared.takeover.finding.Loss.{Loss}
use Rattle.gw_state_words.specs.declared.takeover.finding.Loss.TheVariants as losses
use Rattle.gw_state_words.specs.declared.takeover.finding.RouteFate.{RouteFate}
use Rattle.gw_state_words.specs.declared.takeover.finding.RouteFate.TheVariants as routes
use Rattle.gw_state_words.specs.declared.takeover.finding.Sizes.{Sizes}
use Rattle.gw_state_words.specs.declared.takeover.finding.TableFate.{TableFate}
use Rattle.gw_state_words.specs.declared.takeover.finding.TableFate.TheVariants as tables
use Rattle.gw_state_words.specs.declared.takeover.finding.ValueFate.{ValueFate}
use Rattle.gw_state_words.specs.declared.takeover.finding.ValueFate.TheVariants as values

-- nothing is in either table of a port
abbrev pub are_empty : Sizes → Bool
are_empty sizes = (sizes.peers == 0) && (sizes.devices == 0)

abbrev pub table_loss : TableFate → Sizes → Option Loss
table_loss tables.OtherPeers sizes = Some losses.Table
table_loss tables.OtherManager sizes = if are_empty sizes then None else Some losses.Tables
table_loss tables.AsConfigured sizes = None
table_loss tables.TakenOver sizes = None

abbrev pub route_loss : RouteFate → Option Loss
route_loss routes.TakenOver = None
route_loss _ = Some losses.Route

abbrev pub held_loss : HeldPlace → Loss
held_loss (Slot priority) = losses.Slot
held_loss Default = losses.Default

abbrev pub value_loss : HeldPlace → ValueFate → Option Loss
value_loss held values.TakenOver = None
value_loss held _ = Some (held_loss held)

-- nothing was written to it
abbrev pub object_loss : ℕ → Bool → Option Loss
object_loss slots default = if (slots == 0) && not default then None else Some losses.Object

-- the kind of what is dropped, or none if nothing is
abbrev pub loss_of : TakeoverFinding → Option Loss
loss_of (Port number port sizes table) = table_loss table sizes
loss_of (NewPort number port) = None
loss_of (LostPort port sizes absence) = Some losses.Port
loss_of (Route route) = route_loss route.fate
loss_of (Value value) = value_loss value.held value.fate
loss_of (NewObject object) = None
loss_of (LostObject object slots default absence) = object_loss slots default
