-- How octets are read as a message. These functions compute; what is to be believed is the relation
-- `IsBvll` of `Bvll.antt` and the words for each fault of `Shape.antt`, and `laws::read_as` says
-- that both agree.
use Rattle.std.specs.Prelude.{ℕ, ◌+◌, ◌%◌, List, [], ◌∷◌, length, Result, Ok, Err, ◌==◌}
use Rattle.std.specs.Prelude.{if◌then◌else◌, Bool, true, false, ⊤, slice_get}
use Rattle.std.specs.Option.{ok_or}
use Rattle.std.specs.Int.{w16, from_be_bytes}
use Rattle.gw_addr.specs.declared.bip.BipAddr.{BipAddr}
use Rattle.gw_addr.specs.Address.{address_at}
use Rattle.gw_addr.specs.Entry.{bdt_entry, fdt_entry}
use Rattle.gw_addr.specs.Reading.{◌>>=◌, number_at}
use Rattle.gw_frames.specs.declared.bvll.fault.BvllFault.{BvllFault}
use Rattle.gw_frames.specs.declared.bvll.fault.BvllFault.TheVariants as faults
use Rattle.gw_frames.specs.declared.bvll.function.Function.{Function}
use Rattle.gw_frames.specs.declared.bvll.function.Function.TheVariants as functions
use Rattle.gw_frames.specs.bvll.Tens.{entries_at}
use Rattle.gw_frames.specs.bvll.Bvll.{Message, result_code, write_bdt, read_bdt, read_bdt_ack, forwarded}
use Rattle.gw_frames.specs.bvll.Bvll.{register, read_fdt, read_fdt_ack, delete, distribute}
use Rattle.gw_frames.specs.bvll.Bvll.{original_unicast, original_broadcast}

-- the functions in the order of their octets, from 00
abbrev pub all_functions : List Function
all_functions =
    functions.Result ∷ functions.WriteBdt ∷ functions.ReadBdt ∷ functions.ReadBdtAck
    ∷ functions.Forwarded ∷ functions.Register ∷ functions.ReadFdt ∷ functions.ReadFdtAck
    ∷ functions.Delete ∷ functions.Distribute ∷ functions.OriginalUnicast
    ∷ functions.OriginalBroadcast ∷ []

-- the function of an octet
abbrev pub function_at : ℕ → Result Function BvllFault
function_at octet = ok_or (slice_get all_functions octet) faults.Function

-- a body that ends here
abbrev pub ended : {A : Type 0} → A → List ℕ → Result A BvllFault
ended x rest = if length rest == 0 then Ok x else Err faults.Body

-- a number of two octets, the whole body
abbrev pub number_body : List ℕ → Result ℕ BvllFault
number_body body = do
  number ← number_at faults.Body w16 body
  ended number.0 number.1

-- an address, the whole body
abbrev pub address_body : List ℕ → Result BipAddr BvllFault
address_body body = do
  address ← address_at faults.Body body
  ended address.0 address.1

-- table entries of ten octets each, the whole body
abbrev pub entries_body : {E : Type 0} → (List ℕ → E) → List ℕ → Result (List E) BvllFault
entries_body entry_of body =
    if length body % 10 == 0 then Ok (entries_at entry_of body) else Err faults.Body

-- the message of a function, from its body
abbrev pub body_at : Function → List ℕ → Result Message BvllFault
body_at functions.Result body = do
  code ← number_body body
  Ok (result_code code)
body_at functions.WriteBdt body = do
  entries ← entries_body bdt_entry body
  Ok (write_bdt entries)
body_at functions.ReadBdt body = ended read_bdt body
body_at functions.ReadBdtAck body = do
  entries ← entries_body bdt_entry body
  Ok (read_bdt_ack entries)
body_at functions.Forwarded body = do
  originator ← address_at faults.Body body
  Ok (forwarded originator.0 originator.1)
body_at functions.Register body = do
  time_to_live ← number_body body
  Ok (register time_to_live)
body_at functions.ReadFdt body = ended read_fdt body
body_at functions.ReadFdtAck body = do
  entries ← entries_body fdt_entry body
  Ok (read_fdt_ack entries)
body_at functions.Delete body = do
  address ← address_body body
  Ok (delete address)
body_at functions.Distribute body = Ok (distribute body)
body_at functions.OriginalUnicast body = Ok (original_unicast body)
body_at functions.OriginalBroadcast body = Ok (original_broadcast body)

-- a test that the octets must pass
abbrev pub judged : Bool → BvllFault → Result ⊤ BvllFault
judged true fault = Ok tt
judged false fault = Err fault

-- The message that octets are. The faults are judged in the order of the header: fewer than four
-- octets, the marker, the length, the function, and last the body.
abbrev pub bvll_at : List ℕ → Result Message BvllFault
bvll_at (marker ∷ function ∷ high ∷ low ∷ body) = do
  marked ← judged (marker == 0x81) faults.Marker
  sized ← judged (from_be_bytes w16 (high ∷ low ∷ []) == 4 + length body) faults.Length
  kind ← function_at function
  body_at kind body
bvll_at _ = Err faults.Length
