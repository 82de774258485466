-- What a request reads or writes that is passed on: the asks after its `route` ask under the second and
-- third format of a policy, and after its `cast` ask under the third (ours; the bodies are those of
-- clauses 15.5, 15.7 and 15.9).
use Rattle.std.specs.Prelude.{ℕ, ◌==◌, ◌||◌, if◌then◌else◌, is_some, List, [], ◌∷◌, map, Option, Some, None, Result, Ok}
use Rattle.std.specs.Prelude.{Err}
use Rattle.gw_codecs.specs.apdu.Apdu.{Fields as Apdu}
use Rattle.gw_codecs.specs.apdu.Reading.{apdu_at}
use Rattle.gw_codecs.specs.declared.apdu.fault.ApduFault.{ApduFault}
use Rattle.gw_codecs.specs.declared.apdu.header.ConfirmedRequest.{ConfirmedRequest as Request}
use Rattle.gw_codecs.specs.declared.apdu.header.Header.{Header}
use Rattle.gw_codecs.specs.declared.apdu.header.Header.TheVariants.{ConfirmedRequest}
use Rattle.gw_frames.specs.npdu.Npdu.{Payload, apdu, message}
use Rattle.gw_rules.specs.Ask.{Ask}
use Rattle.gw_rules.specs.Operation.{operation_number}
use Rattle.gw_rules.specs.declared.format.Format.{Format}
use Rattle.gw_rules.specs.declared.format.Format.TheVariants.{One, Two, Three}
use Rattle.gw_rules.specs.declared.operation.Operation.{Operation}
use Rattle.gw_rules.specs.declared.operation.Operation.TheVariants as operations
use Rattle.gw_codecs.specs.services.Choices.{read_property, read_property_multiple, write_property}
use Rattle.gw_codecs.specs.services.Limits.{priority_of}
use Rattle.gw_codecs.specs.services.Multi.{Reference}
use Rattle.gw_codecs.specs.services.MultiReading.{multi_at}
use Rattle.gw_codecs.specs.services.Read.{Read, read_at}
use Rattle.gw_codecs.specs.services.Write.{Write, write_at}
use Rattle.gw_codecs.specs.declared.services.fault.BodyFault.{BodyFault}
use Rattle.gw_codecs.specs.tags.Object.{Object}

-- a read or a write of what the octets don't show: its way and its service are those of the `route` ask, and so are
-- its sender and its station
abbrev pub unnamed_ask : Ask → Operation → Ask
unnamed_ask route operation = record route { operation = Some (operation_number operation) }

-- of a property: the object is as the body has it, also the instance 4194303
abbrev pub named_ask : Ask → Operation → Object → ℕ → Option ℕ → Ask
named_ask route operation object property priority = record route {
  operation = Some (operation_number operation);
  object_type = Some object.kind;
  instance = Some object.instance;
  property = Some property;
  priority = priority;
}

abbrev pub read_asks : Ask → Result Read BodyFault → List Ask
read_asks route (Ok r) = named_ask route operations.Read r.object r.property None ∷ []
read_asks route (Err fault) = unnamed_ask route operations.Read ∷ []

-- ALL, REQUIRED and OPTIONAL are the property of that number
abbrev pub reference_ask : Ask → Reference → Ask
reference_ask route r = named_ask route operations.Read r.object r.property None

abbrev pub multi_asks : Ask → Result (List Reference) BodyFault → List Ask
multi_asks route (Ok rs) = map (reference_ask route) rs
multi_asks route (Err fault) = unnamed_ask route operations.Read ∷ []

abbrev pub write_asks : Ask → Result Write BodyFault → List Ask
write_asks route (Ok w) =
    named_ask route operations.Write w.object w.property (Some (priority_of w.priority)) ∷ []
write_asks route (Err fault) = unnamed_ask route operations.Write ∷ []

-- of a whole request, by its service
abbrev pub body_asks : Ask → ℕ → List ℕ → List Ask
body_asks route service body =
    if service == read_property then read_asks route (read_at body)
    else if service == read_property_multiple then multi_asks route (multi_at body)
    else if service == write_property then write_asks route (write_at body)
    else []

-- a segment doesn't show what it names
abbrev pub segment_asks : Ask → ℕ → List Ask
segment_asks route service =
    if service == read_property || service == read_property_multiple
    then unnamed_ask route operations.Read ∷ []
    else if service == write_property then unnamed_ask route operations.Write ∷ []
    else []

abbrev pub request_asks : Ask → Request → List ℕ → List Ask
request_asks route request body =
    if is_some request.segment then segment_asks route request.service
    else body_asks route request.service body

abbrev pub header_asks : Ask → Header → List ℕ → List Ask
header_asks route (ConfirmedRequest request) body = request_asks route request body
header_asks route other body = []

abbrev pub apdu_asks : Ask → Result Apdu ApduFault → List Ask
apdu_asks route (Ok a) = header_asks route a.header a.rest
apdu_asks route (Err fault) = []

-- of a payload: a network layer message names nothing
abbrev pub payload_asks : Ask → Payload → List Ask
payload_asks route (message m) = []
payload_asks route (apdu octets) = apdu_asks route (apdu_at octets)

-- what is asked after a `route` ask
abbrev pub named_asks : Format → Ask → Payload → List Ask
named_asks One route payload = []
named_asks Two route payload = payload_asks route payload
named_asks Three route payload = payload_asks route payload

-- a `route` ask, and what is asked after it
abbrev pub forward_asks : Format → Ask → Payload → List Ask
forward_asks format route payload = route ∷ named_asks format route payload
