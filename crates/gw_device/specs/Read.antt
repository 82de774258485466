-- ReadProperty (ISO 16484-5, clause 15.5).
use Rattle.std.specs.Prelude.{ℕ, if◌then◌else◌, List, [], ◌∷◌, ◌++◌, Option, Result, Ok, Err}
use Rattle.gw_codecs.specs.declared.apdu.header.ConfirmedRequest.{ConfirmedRequest}
use Rattle.gw_codecs.specs.declared.apdu.writing.ServiceError.{ServiceError}
use Rattle.gw_codecs.specs.apdu.Answers.{complex_ack, error}
use Rattle.gw_objects.specs.declared.fault.ReadFault.{ReadFault}
use Rattle.gw_objects.specs.Objects.{Database}
use Rattle.gw_objects.specs.Table.{read_of}
use Rattle.gw_rules.specs.declared.operation.Operation.TheVariants as operation
use Rattle.gw_rules.specs.declared.rule.Rule.{Rule}
use Rattle.gw_rules.specs.declared.service.Service.TheVariants.{Confirmed}
use Rattle.gw_rules.specs.Ask.{Ask}
use Rattle.gw_rules.specs.RuleList.{allows}
use Rattle.gw_codecs.specs.services.Read.{Read}
use Rattle.gw_codecs.specs.services.Reply.{read_answer_head, read_answer_tail}
use Rattle.gw_codecs.specs.tags.Object.{Object}
use Rattle.gw_device.specs.declared.context.Context.{Context}
use Rattle.gw_device.specs.Asks.{property_ask, named_object}
use Rattle.gw_device.specs.Errors.{read_denied, read_error}
use Rattle.gw_device.specs.Response.{Response, unchanged, to_client, fitted}
use Rattle.gw_codecs.specs.services.Choices.{read_property}

-- the octets of a property, or the error that its fault is
abbrev pub or_error : Result (List ℕ) ReadFault → Result (List ℕ) ServiceError
or_error (Ok octets) = Ok octets
or_error (Err fault) = Err (read_error fault)

-- What a read gives under these rules. They are asked before any look-up.
abbrev pub read_value : List Rule → Database → Ask → Object → ℕ → Option ℕ
    → Result (List ℕ) ServiceError
read_value rules d ask object property index =
    if allows rules ask then or_error (read_of d object property index) else Err read_denied

-- the request by the device's real instance
abbrev pub named_read : Database → Read → Read
named_read d read = record read { object = named_object d.configured read.object }

-- the one ask of a request
abbrev pub read_ask : Database → Context → Read → Ask
read_ask d context read =
    property_ask operation.Read (Confirmed read_property) d.configured context read.object
    read.property

-- the ComplexACK of a request: its parameters again, and the value
abbrev pub read_ack : ℕ → Read → List ℕ → List ℕ
read_ack invoke read value =
    complex_ack invoke read_property ++ read_answer_head read ++ value ++ read_answer_tail

abbrev pub read_answer : ConfirmedRequest → Context → Read → Result (List ℕ) ServiceError → List ℕ
read_answer request context read (Ok value) =
    fitted request context (read_ack request.invoke read value)
read_answer request context read (Err why) = error request.invoke read_property why

-- a request that names the real instance
abbrev pub plain_read_response : List Rule → Database → Context → ConfirmedRequest → Read → Response
plain_read_response rules d context request read =
    let ask = read_ask d context read in
    let value = read_value rules d ask read.object read.property read.index in
    unchanged (ask ∷ []) (to_client (read_answer request context read value))

abbrev pub read_response : List Rule → Database → Context → ConfirmedRequest → Read → Response
read_response rules d context request read =
    plain_read_response rules d context request (named_read d read)
