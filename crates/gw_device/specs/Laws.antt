-- What an answer doesn't rest on, whose asks there are, and when there is a change.
use Rattle.std.specs.Prelude.{◌≡◌, ◌≢◌, ℕ, List, Option, Some, None, Result, Ok, Err, ◌==◌, if◌then◌else◌}
use Rattle.std.specs.List.{AllByRecursion}
use Rattle.gw_codecs.specs.declared.apdu.fault.ApduFault.{ApduFault}
use Rattle.gw_codecs.specs.declared.apdu.header.Header.{Header}
use Rattle.gw_codecs.specs.declared.apdu.header.Header.TheVariants as header
use Rattle.gw_codecs.specs.apdu.Apdu.{Fields}
use Rattle.gw_codecs.specs.apdu.Reading.{apdu_at}
use Rattle.gw_objects.specs.declared.configured.Configured.{Configured}
use Rattle.gw_objects.specs.Laws.{standing}
use Rattle.gw_objects.specs.Objects.{Database, Slots, place_of}
use Rattle.gw_objects.specs.Table.{object_at}
use Rattle.gw_objects.specs.Write.{CanAct, Write as Change}
use Rattle.gw_rules.specs.declared.operation.Operation.TheVariants as operation
use Rattle.gw_rules.specs.declared.rule.Rule.{Rule}
use Rattle.gw_rules.specs.Allowed.{NoneAllowed}
use Rattle.gw_rules.specs.Ask.{Ask, IsFor, IsFrom}
use Rattle.gw_codecs.specs.declared.services.fault.BodyFault.{BodyFault}
use Rattle.gw_codecs.specs.services.Write.{Write, write_at}
use Rattle.gw_codecs.specs.tags.Object.{Object}
use Rattle.gw_device.specs.declared.context.Context.{Context}
use Rattle.gw_device.specs.Device.{device_asks, device_change, device_response}
use Rattle.gw_codecs.specs.services.Choices.{write_property}

-- ---- reads

-- Every other object has the same slots and default in both.
abbrev pub DifferIn : Object → Configured → List Slots → List Slots → Type 0
DifferIn o c s t =
    (other : Object) → other ≢ o → object_at (standing c s) other ≡ object_at (standing c t) other

-- an ask to read the object
pub record AsksToRead (o : Object) (ask : Ask) : Type 0 where
  pub operation : IsFor operation.Read ask
  pub kind : ask.object_type ≡ Some o.kind
  pub instance : ask.instance ≡ Some o.instance

-- no ask among these to read the object is allowed
abbrev pub NoReadAllowed : List Rule → Object → List Ask → Type 0
NoReadAllowed rules o asks = NoneAllowed (AsksToRead o) rules asks

-- What the device does about an APDU doesn't rest on the slots and the default of an object that none of its asks may
-- read.
abbrev pub UnreadIsUnseen : Type 0
UnreadIsUnseen =
    (rules : List Rule) (c : Configured) (s t : List Slots) (o : Object) (context : Context) (octets : List ℕ) →
    DifferIn o c s t → NoReadAllowed rules o (device_asks rules (standing c s) context octets) →
    device_response rules (standing c s) context octets ≡ device_response rules (standing c t) context octets

-- ---- writes

-- the object that a WriteProperty names, whose body can be read
abbrev pub body_writes : Result Write BodyFault → Option Object
body_writes (Ok write) = Some write.object
body_writes (Err fault) = None

abbrev pub header_writes : Header → List ℕ → Option Object
header_writes (header.ConfirmedRequest request) body =
    if request.service == write_property then body_writes (write_at body) else None
header_writes _ body = None

abbrev pub apdu_writes : Result Fields ApduFault → Option Object
apdu_writes (Ok apdu) = header_writes apdu.header apdu.rest
apdu_writes (Err fault) = None

abbrev pub object_written : List ℕ → Option Object
object_written octets = apdu_writes (apdu_at octets)

-- A write rests on the configuration and the APDU alone, and on no slot or default.
abbrev pub ChangesRestOnRequests : Type 0
ChangesRestOnRequests =
    (rules : List Rule) (c : Configured) (s t : List Slots) (context : Context) (octets : List ℕ) →
    device_change rules (standing c s) context octets ≡ device_change rules (standing c t) context octets

-- It is made at the place of the object that the APDU names.
abbrev pub ChangesAreInPlace : Type 0
ChangesAreInPlace =
    (rules : List Rule) (d : Database) (context : Context) (octets : List ℕ) (o : Object) →
    object_written octets ≡ Some o →
    (change : Change) → device_change rules d context octets ≡ Some change →
    place_of d.configured o ≡ Some change.place

-- There is none where no ask to write is allowed.
abbrev pub ChangesAreAllowed : Type 0
ChangesAreAllowed =
    (rules : List Rule) (d : Database) (context : Context) (octets : List ℕ) →
    NoneAllowed (IsFor operation.Write) rules (device_asks rules d context octets) →
    device_change rules d context octets ≡ None

-- It commands or relinquishes at a priority of 1 to 16 that isn't the reserved one, or sets a default.
abbrev pub ChangesCanBeMade : Type 0
ChangesCanBeMade =
    (rules : List Rule) (d : Database) (context : Context) (octets : List ℕ) (change : Change) →
    device_change rules d context octets ≡ Some change → CanAct change.act

-- ---- asks

-- Every ask of the device has the source that its context names.
abbrev pub AsksHaveTheirSource : Type 0
AsksHaveTheirSource =
    (rules : List Rule) (d : Database) (context : Context) (octets : List ℕ) →
    AllByRecursion (IsFrom context.source_network context.source_key) (device_asks rules d context octets)

-- an ask whose sender has this key, or that has none, and that names no station
pub record IsSentBy (key : Option ℕ) (ask : Ask) : Type 0 where
  pub sender : ask.sender ≡ key
  pub station : ask.station ≡ None

-- Every ask of the device has the sender that its context names, and no station.
abbrev pub AsksHaveTheirSender : Type 0
AsksHaveTheirSender =
    (rules : List Rule) (d : Database) (context : Context) (octets : List ℕ) →
    AllByRecursion (IsSentBy context.sender) (device_asks rules d context octets)
