-- An object identifier and its octets are one to one.
use Rattle.std.proofs.Common.{◌≡◌, ℕ, ◌+◌, ◌*◌, ◌/◌, ◌%◌, ◌^◌, ◌<◌, List, length, refl, ap, ◌∙◌, arith}
use Rattle.std.specs.Int.{w32, from_be_bytes, to_be_bytes}
use Rattle.std.proofs.lemmas.Nat.{from_be_bytes-to_be_bytes_4}
use Rattle.gw_addr.specs.Reading.{AreOctets}
use Rattle.gw_addr.proofs.Reading.{wide32}
use Rattle.gw_codecs.specs.tags.Object.{Object, IsObject, object_octets, object_of}

split : (n kind instance : ℕ) → instance < 4194304 → n ≡ kind * 4194304 + instance → (n / 4194304 ≡ kind) × (n % 4194304 ≡ instance)
split n kind instance lt e = (omega arith, omega arith)

whole : (n : ℕ) → n / 4194304 * 4194304 + n % 4194304 ≡ n
whole n = omega arith

high_small : (n : ℕ) → n < 2 ^ 32 → n / 4194304 < 1024
high_small n lt = omega arith

low_small : (n : ℕ) → n % 4194304 < 4194304
low_small n = omega arith

same_object : (kind instance : ℕ) (object : Object) → kind ≡ object.kind → instance ≡ object.instance → (let made : Object = record { kind = kind; instance = instance } in made) ≡ object
same_object kind instance object kinds instances = rw (kinds, instances) refl

pub object_read : (object : Object) → IsObject object → object_of (object_octets object) ≡ object
object_read object is =
    let n = object.kind * 2 ^ 22 + object.instance in
    let back : from_be_bytes w32 (to_be_bytes w32 n) ≡ n = from_be_bytes-to_be_bytes_4 n (omega (arith, is.kind, is.instance)) in
    let parts = split (from_be_bytes w32 (to_be_bytes w32 n)) object.kind object.instance is.instance back in
    same_object (from_be_bytes w32 (to_be_bytes w32 n) / 4194304) (from_be_bytes w32 (to_be_bytes w32 n) % 4194304) object parts.0 parts.1

pub object_encoded : (octets : List ℕ) → length octets ≡ 4 → AreOctets octets → IsObject (object_of octets) × (object_octets (object_of octets) ≡ octets)
object_encoded octets len fits =
    let n = from_be_bytes w32 octets in
    (record { kind = high_small n (wide32.below octets fits); instance = low_small n }, ap (to_be_bytes w32) (whole n) ∙ wide32.back octets len fits)
