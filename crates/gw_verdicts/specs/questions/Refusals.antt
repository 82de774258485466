-- An answer of the gateway's own device that access is denied.
use Rattle.std.specs.Prelude.{ℕ, Bool, false, ◌||◌, List, nat_eq, Result, Ok, Err}
use Rattle.std.specs.Cmp.Lexicographic.{pointwise}
use Rattle.gw_codecs.specs.apdu.Answers.{class_and_code}
use Rattle.gw_codecs.specs.apdu.Apdu as apdus
use Rattle.gw_codecs.specs.apdu.Reading.{apdu_at}
use Rattle.gw_codecs.specs.declared.apdu.fault.ApduFault.{ApduFault}
use Rattle.gw_codecs.specs.declared.apdu.header.Header.{Header}
use Rattle.gw_codecs.specs.declared.apdu.header.Header.TheVariants as header
use Rattle.gw_device.specs.Errors.{read_denied, write_denied}
use Rattle.gw_frames.specs.bvll.Bvll.{Message, original_unicast}
use Rattle.gw_frames.specs.bvll.Reading.{bvll_at}
use Rattle.gw_frames.specs.declared.bvll.fault.BvllFault.{BvllFault}
use Rattle.gw_frames.specs.declared.npdu.fault.NpduFault.{NpduFault}
use Rattle.gw_frames.specs.npdu.Npdu.{Fields, Payload, apdu}
use Rattle.gw_frames.specs.npdu.Reading.{npdu_at}

-- an Error of the class property that says that a read or a write is denied: READ_ACCESS_DENIED or WRITE_ACCESS_DENIED
-- (clause 18)
abbrev pub says_denied : List ℕ → Bool
says_denied body =
    pointwise nat_eq body (class_and_code read_denied) || pointwise nat_eq body (class_and_code write_denied)

abbrev pub is_denial : Header → List ℕ → Bool
is_denial (header.Error invoke service) body = says_denied body
is_denial _ body = false

abbrev pub denies : Result apdus.Fields ApduFault → Bool
denies (Ok a) = is_denial a.header a.rest
denies (Err fault) = false

abbrev pub payload_denies : Payload → Bool
payload_denies (apdu octets) = denies (apdu_at octets)
payload_denies _ = false

abbrev pub message_denies : Result Fields NpduFault → Bool
message_denies (Ok m) = payload_denies m.payload
message_denies (Err fault) = false

abbrev pub frame_denies : Result Message BvllFault → Bool
frame_denies (Ok (original_unicast octets)) = message_denies (npdu_at octets)
frame_denies _ = false

-- a datagram that carries such an Error
abbrev pub is_refusal : List ℕ → Bool
is_refusal octets = frame_denies (bvll_at octets)
