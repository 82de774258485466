-- Object identifiers (ISO 16484-5, clause 20.2.14).
use Rattle.std.specs.Prelude.{ℕ, ◌+◌, ◌*◌, ◌/◌, ◌%◌, ◌<◌, ◌^◌, List}
use Rattle.std.specs.Int.{w32, to_be_bytes, from_be_bytes}
use Rattle.gw_codecs.specs.declared.tags.object.ObjectId.{ObjectId}

-- an object: the number of its type, and its instance among those of the type
pub record Object : Type 0 where
  pub kind : ℕ
  pub instance : ℕ

-- an object identifier of the code, without the proof that it fits
abbrev pub object_view : ObjectId → Object
object_view id = record { kind = id.kind; instance = id.instance }

-- ten bits of type, 22 bits of instance
pub record IsObject (object : Object) : Type 0 where
  pub kind : object.kind < 2 ^ 10
  pub instance : object.instance < 2 ^ 22

-- the four octets: the type in the ten high bits, the instance in the 22 below
abbrev pub object_octets : Object → List ℕ
object_octets object = to_be_bytes w32 (object.kind * 2 ^ 22 + object.instance)

-- the object of four octets
abbrev pub object_of : List ℕ → Object
object_of octets = record {
  kind = from_be_bytes w32 octets / 2 ^ 22;
  instance =
      from_be_bytes w32 octets % 2 ^ 22;
}
