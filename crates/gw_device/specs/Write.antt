-- WriteProperty (ISO 16484-5, clause 15.9).
use Rattle.std.specs.Prelude.{ℕ, if◌then◌else◌, List, [], ◌∷◌, Option, Some, None, Result, Ok, Err}
use Rattle.gw_codecs.specs.declared.apdu.writing.ServiceError.{ServiceError}
use Rattle.gw_codecs.specs.apdu.Answers.{simple_ack, error}
use Rattle.gw_objects.specs.declared.fault.WriteFault.{WriteFault}
use Rattle.gw_objects.specs.Objects.{Database}
use Rattle.gw_objects.specs.Write.{Write as Change, write_of}
use Rattle.gw_rules.specs.declared.operation.Operation.TheVariants as operation
use Rattle.gw_rules.specs.declared.rule.Rule.{Rule}
use Rattle.gw_rules.specs.declared.service.Service.TheVariants.{Confirmed}
use Rattle.gw_rules.specs.Ask.{Ask}
use Rattle.gw_rules.specs.RuleList.{allows}
use Rattle.gw_codecs.specs.services.Limits.{priority_of}
use Rattle.gw_codecs.specs.services.Write.{Write}
use Rattle.gw_device.specs.declared.context.Context.{Context}
use Rattle.gw_device.specs.Asks.{property_ask}
use Rattle.gw_device.specs.Errors.{write_denied, write_error}
use Rattle.gw_device.specs.Response.{Response, to_client}
use Rattle.gw_codecs.specs.services.Choices.{write_property}

-- the one ask of a request
abbrev pub write_ask : Database → Context → Write → Ask
write_ask d context write =
    let ask =
    property_ask operation.Write (Confirmed write_property) d.configured context write.object
    write.property in
    record ask { priority = Some (priority_of write.priority) }

-- what the write does, or the error that its fault is
abbrev pub or_error : Result Change WriteFault → Result Change ServiceError
or_error (Ok change) = Ok change
or_error (Err fault) = Err (write_error fault)

-- What is made of a write under these rules. They are asked before any look-up.
abbrev pub write_decision : List Rule → Database → Context → Write → Result Change ServiceError
write_decision rules d context write =
    let priority = priority_of write.priority in
    if allows rules (write_ask d context write)
    then or_error
    (write_of d.configured write.object write.property write.index priority write.value)
    else Err write_denied

-- A write that succeeds is answered by a SimpleACK, and is made.
abbrev pub write_answer : ℕ → Result Change ServiceError → List ℕ
write_answer invoke (Ok change) = simple_ack invoke write_property
write_answer invoke (Err why) = error invoke write_property why

abbrev pub change_of : Result Change ServiceError → Option Change
change_of (Ok change) = Some change
change_of (Err why) = None

abbrev pub write_response : List Rule → Database → Context → ℕ → Write → Response
write_response rules d context invoke write =
    let decision = write_decision rules d context write in
    record {
      asks = write_ask d context write ∷ [];
      answer = to_client (write_answer invoke decision);
      change = change_of decision;
    }
