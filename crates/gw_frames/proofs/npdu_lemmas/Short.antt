-- The shape of a message has one fault: the octets end too early.
use Rattle.std.proofs.Common.{◌≡◌, ℕ, Bool, true, false, cond, ltb, List, [], ◌∷◌, length, Option, Some, None, Result, Ok, Err, inl, inr}
use Rattle.std.specs.Int.{w16}
use Rattle.gw_addr.specs.Reading.{◌>>=◌, octet_at, front_at, number_at}
use Rattle.gw_addr.proofs.Reading.{bind_err}
use Rattle.gw_frames.specs.declared.npdu.fault.NpduFault.{NpduFault}
use Rattle.gw_frames.specs.declared.npdu.fault.NpduFault.TheVariants.{Short}
use Rattle.gw_frames.specs.npdu.Numbers.{message_bit, destination_bit, source_bit}
use Rattle.gw_frames.specs.npdu.Numbers.{first_vendor_kind}
use Rattle.gw_frames.specs.npdu.Npdu.{Address}
use Rattle.gw_frames.specs.npdu.Reading.{is_set, address_at, named_at, hops_at, message_at, payload_at, raw_at}

-- a reading that fails by Short alone
pub record FailsShort {A : Type 0} (r : Result A NpduFault) : Type 0 where
  pub only : (fault : NpduFault) → r ≡ Err fault → fault ≡ Short

ok_short : {A : Type 0} (x : A) → FailsShort (Ok x)
ok_short x = record { only = λ fault e. absurd cc }

err_short : {A : Type 0} (r : Result A NpduFault) → r ≡ Err Short → FailsShort r
err_short r is = record { only = λ fault e. cc }

bind_short : {A B : Type 0} (r : Result A NpduFault) (f : A → Result B NpduFault) → FailsShort r → ((x : A) → FailsShort (f x)) → FailsShort (r >>= f)
bind_short r f first later =
    record {
      only = λ fault e. elim (bind_err r f fault e) [
        | inl failed ↦ first.only fault failed
        | inr went ↦ (later went.0).only fault went.2
      ];
    }

test_short : {A : Type 0} (b : Bool) (x y : Result A NpduFault) → FailsShort x → FailsShort y → FailsShort (cond b x y)
test_short true x y hx hy = hx
test_short false x y hx hy = hy

failed : {A : Type 0} → Result A NpduFault
failed {A} = Err Short

failed_short : {A : Type 0} → FailsShort (failed {A = A})
unfolding failed
failed_short {A} = record { only = λ fault e. cc }

octet_short : (octets : List ℕ) → FailsShort (octet_at Short octets)
octet_short [] = record { only = λ fault e. cc }
octet_short (o ∷ os) = ok_short (o, os)

front_short : (count : ℕ) (octets : List ℕ) → FailsShort (front_at Short count octets)
front_short count octets = test_short (ltb (length octets) count) (Err Short) _ (record { only = λ fault e. cc }) (ok_short _)

number_short : (octets : List ℕ) → FailsShort (number_at Short w16 octets)
number_short octets = test_short (ltb (length octets) 2) (Err Short) _ (record { only = λ fault e. cc }) (ok_short _)

address_short : (octets : List ℕ) → FailsShort (address_at octets)
address_short octets =
    bind_short (number_at Short w16 octets) _ (number_short octets) (λ network.
    bind_short (octet_at Short network.1) _ (octet_short network.1) (λ len.
    bind_short (front_at Short len.0 len.1) _ (front_short len.0 len.1) (λ address. ok_short _)))

named_short : (is_named : Bool) (octets : List ℕ) → FailsShort (named_at is_named octets)
named_short false octets = ok_short (None, octets)
named_short true octets = bind_short (address_at octets) _ (address_short octets) (λ found. ok_short _)

hops_short : (bound : Option Address) (octets : List ℕ) → FailsShort (hops_at bound octets)
hops_short None octets = ok_short (None, octets)
hops_short (Some bound) octets = bind_short (octet_at Short octets) _ (octet_short octets) (λ hops. ok_short _)

message_short : (octets : List ℕ) → FailsShort (message_at octets)
message_short octets =
    bind_short (octet_at Short octets) _ (octet_short octets) (λ kind.
    test_short (ltb kind.0 first_vendor_kind) _ _ (ok_short _) (bind_short (number_at Short w16 kind.1) _ (number_short kind.1) (λ vendor. ok_short _)))

payload_short : (is_named : Bool) (octets : List ℕ) → FailsShort (payload_at is_named octets)
payload_short false octets = ok_short _
payload_short true octets = bind_short (message_at octets) _ (message_short octets) (λ found. ok_short _)

pub raw_short : (octets : List ℕ) → FailsShort (raw_at octets)
raw_short octets =
    bind_short (octet_at Short octets) _ (octet_short octets) (λ version.
    bind_short (octet_at Short version.1) _ (octet_short version.1) (λ control.
    bind_short (named_at (is_set control.0 destination_bit) control.1) _ (named_short (is_set control.0 destination_bit) control.1) (λ bound.
    bind_short (named_at (is_set control.0 source_bit) bound.1) _ (named_short (is_set control.0 source_bit) bound.1) (λ source.
    bind_short (hops_at bound.0 source.1) _ (hops_short bound.0 source.1) (λ destination.
    bind_short (payload_at (is_set control.0 message_bit) destination.1) _ (payload_short (is_set control.0 message_bit) destination.1) (λ payload. ok_short _))))))
