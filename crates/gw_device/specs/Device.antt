-- What the device does about an APDU, by its type and its service (ISO 16484-5, clauses 5.4.5 and
-- 20.1): what it asks of the policy, what it answers, and what it changes.
use Rattle.std.specs.Prelude.{ℕ, ◌==◌, if◌then◌else◌, is_some, List, Option, Result, Ok, Err}
use Rattle.gw_codecs.specs.declared.apdu.fault.ApduFault.{ApduFault}
use Rattle.gw_codecs.specs.declared.apdu.header.ConfirmedRequest.{ConfirmedRequest}
use Rattle.gw_codecs.specs.declared.apdu.header.Header.{Header}
use Rattle.gw_codecs.specs.declared.apdu.header.Header.TheVariants as header
use Rattle.gw_codecs.specs.apdu.Answers.{abort, reject}
use Rattle.gw_codecs.specs.apdu.Apdu.{Fields}
use Rattle.gw_codecs.specs.apdu.Reading.{apdu_at}
use Rattle.gw_codecs.specs.apdu.Reasons.{segmentation_not_supported, unrecognized_service}
use Rattle.gw_objects.specs.Objects.{Database}
use Rattle.gw_objects.specs.Write.{Write}
use Rattle.gw_rules.specs.declared.rule.Rule.{Rule}
use Rattle.gw_rules.specs.Ask.{Ask}
use Rattle.gw_codecs.specs.declared.services.fault.BodyFault.{BodyFault}
use Rattle.gw_codecs.specs.services.MultiReading.{multi_at}
use Rattle.gw_codecs.specs.services.Read.{read_at}
use Rattle.gw_codecs.specs.services.WhoHas.{who_has_at}
use Rattle.gw_codecs.specs.services.WhoIs.{who_is_at}
use Rattle.gw_codecs.specs.services.Write.{write_at}
use Rattle.gw_device.specs.declared.context.Context.{Context}
use Rattle.gw_device.specs.Errors.{reject_reason}
use Rattle.gw_device.specs.Multi.{multi_response}
use Rattle.gw_device.specs.Read.{read_response}
use Rattle.gw_device.specs.Response.{Answer, Response, silence, turned_down}
use Rattle.gw_codecs.specs.services.Choices.{read_property, read_property_multiple, write_property, who_has, who_is}
use Rattle.gw_device.specs.WhoHas.{who_has_response}
use Rattle.gw_device.specs.WhoIs.{who_is_response}
use Rattle.gw_device.specs.Write.{write_response}

-- a confirmed request whose body can be read; one whose body can't is rejected
abbrev pub or_reject : {B : Type 0} → ℕ → (B → Response) → Result B BodyFault → Response
or_reject invoke respond (Ok body) = respond body
or_reject invoke respond (Err fault) = turned_down (reject invoke (reject_reason fault))

-- an unconfirmed request whose body can be read; one whose body can't is dropped
abbrev pub or_silence : {B : Type 0} → (B → Response) → Result B BodyFault → Response
or_silence respond (Ok body) = respond body
or_silence respond (Err fault) = silence

-- a whole confirmed request, by its service
abbrev pub service_response : List Rule → Database → Context → ConfirmedRequest → List ℕ → Response
service_response rules d context request body =
    if request.service == read_property
    then or_reject request.invoke (read_response rules d context request) (read_at body)
    else if request.service == read_property_multiple
    then or_reject request.invoke (multi_response rules d context request) (multi_at body)
    else if request.service == write_property
    then or_reject request.invoke (write_response rules d context request.invoke) (write_at body)
    else turned_down (reject request.invoke unrecognized_service)

-- A confirmed request to a broadcast is dropped. The device takes no segments, whatever the
-- service.
abbrev pub confirmed_response : List Rule → Database → Context → ConfirmedRequest → List ℕ
    → Response
confirmed_response rules d context request body =
    if context.broadcast then silence
    else if is_some request.segment
    then turned_down (abort request.invoke segmentation_not_supported)
    else service_response rules d context request body

-- an unconfirmed request, by its service
abbrev pub unconfirmed_response : List Rule → Database → Context → ℕ → List ℕ → Response
unconfirmed_response rules d context service body =
    if service == who_has then or_silence (who_has_response rules d context) (who_has_at body)
    else if service == who_is then or_silence (who_is_response rules d context) (who_is_at body)
    else silence

-- an APDU by its type; what is no request is dropped
abbrev pub header_response : List Rule → Database → Context → Header → List ℕ → Response
header_response rules d context (header.ConfirmedRequest request) body =
    confirmed_response rules d context request body
header_response rules d context (header.UnconfirmedRequest service) body =
    unconfirmed_response rules d context service body
header_response rules d context _ body = silence

-- octets that are no APDU are dropped
abbrev pub apdu_response : List Rule → Database → Context → Result Fields ApduFault → Response
apdu_response rules d context (Ok apdu) = header_response rules d context apdu.header apdu.rest
apdu_response rules d context (Err fault) = silence

-- what the device does about the octets of an APDU under these rules
abbrev pub device_response : List Rule → Database → Context → List ℕ → Response
device_response rules d context octets = apdu_response rules d context (apdu_at octets)

-- what it asks, what it answers if anything, and the write that it makes if any
abbrev pub device_asks : List Rule → Database → Context → List ℕ → List Ask
device_asks rules d context octets = (device_response rules d context octets).asks

abbrev pub device_answer : List Rule → Database → Context → List ℕ → Option Answer
device_answer rules d context octets = (device_response rules d context octets).answer

abbrev pub device_change : List Rule → Database → Context → List ℕ → Option Write
device_change rules d context octets = (device_response rules d context octets).change
