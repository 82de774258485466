-- Octets that follow one another under a limit.
use Rattle.std.proofs.Common.{◌≡◌, ◌∙◌, sym, ap, refl, ℕ, ◌+◌, ◌-◌, Bool, true, false, List, ◌++◌, append_assoc, length, arith, Option, Some, None, Result}
use Rattle.std.specs.Prelude.{nat_le, OnOk}
use Rattle.std.proofs.lemmas.Bool.{leb-true, leb-false, lt-leb}
use Rattle.std.proofs.lemmas.List.{length-append}
use Rattle.std.proofs.lemmas.Result.{on_ok_weaker}
use Rattle.gw_codecs.specs.declared.apdu.header.ConfirmedRequest.{ConfirmedRequest}
use Rattle.gw_device.specs.declared.context.Context.{Context}
use Rattle.gw_device.specs.Response.{fits, fitted, header_room, with_room}
use Rattle.gw_device.specs.internal.Limit.{LimitedState, extended, followed, or_abort}

-- the second fits after the first exactly if both fit
both_fit : (first second left : ℕ) (x y : Bool) → nat_le first left ≡ true → nat_le second (left - first) ≡ x → nat_le (first + second) left ≡ y → x ≡ y
both_fit first second left true true one two both = refl
both_fit first second left false false one two both = refl
both_fit first second left true false one two both =
    absurd (omega (arith, leb-true first left one, leb-true second (left - first) two, leb-false (first + second) left both))
both_fit first second left false true one two both =
    absurd (omega (arith, leb-true first left one, leb-false second (left - first) two, leb-true (first + second) left both))

none_fit : (first second left : ℕ) → nat_le first left ≡ false → nat_le (first + second) left ≡ false
none_fit first second left over = lt-leb (first + second) left (omega (arith, leb-false first left over))

same_state : (left other : ℕ) (octets others : List ℕ) → left ≡ other → octets ≡ others
    → ◌≡◌ {A = LimitedState} (record { left = left; octets = Some octets }) (record { left = other; octets = Some others })
same_state left other octets others is are = rw (is, are) refl

followed_both : (left : ℕ) (octets : Option (List ℕ)) (one two : List ℕ)
    → extended (followed left octets one) two ≡ followed left octets (one ++ two)
followed_both left None one two = refl
followed_both left (Some octets) one two = by (nat_le (length one) left) refl
  where
    whole : nat_le (length (one ++ two)) left ≡ nat_le (length one + length two) left
    whole = ap (λ n. nat_le n left) (length-append one two)

    second : (y : Bool) → nat_le (length one) left ≡ true → nat_le (length two) (left - length one) ≡ y → nat_le (length one + length two) left ≡ y
        → followed (left - length one) (Some (octets ++ one)) two ≡ followed left (Some octets) (one ++ two)
    second true one_fits second_fits both_fit =
        rw (second_fits, whole, both_fit)
        (same_state (left - length one - length two) (left - length (one ++ two)) ((octets ++ one) ++ two) (octets ++ (one ++ two))
        (omega (arith, length-append one two)) (append_assoc octets one two))
    second false one_fits second_fits both_fit = rw (second_fits, whole, both_fit) refl

    by : (x : Bool) → nat_le (length one) left ≡ x → extended (followed left (Some octets) one) two ≡ followed left (Some octets) (one ++ two)
    by true one_fits =
        rw one_fits
        (second (nat_le (length two) (left - length one)) one_fits refl (sym (both_fit (length one) (length two) left _ _ one_fits refl refl)))
    by false over = rw (over, whole, none_fit (length one) (length two) left over) refl

-- the same of a state
pub extended_both : (limited : LimitedState) (one two : List ℕ) → extended (extended limited one) two ≡ extended limited (one ++ two)
extended_both limited one two = followed_both limited.left limited.octets one two

-- two parts one after the other
pub both_extended : {T F : Type 0} (result : Result T F) (before between after : LimitedState) (one two : List ℕ) → between ≡ extended before one
    → OnOk result (after ≡ extended between two) → OnOk result (after ≡ extended before (one ++ two))
both_extended result before between after one two first second =
    on_ok_weaker result (λ is. is ∙ ap (λ (limited : LimitedState). extended limited two) first ∙ extended_both before one two) second

-- what was written under the limit of its client is an answer or an Abort in its place
ack_or_abort : (most : ℕ) (request : ConfirmedRequest) (context : Context) (ack : List ℕ) (fit : Bool) → nat_le (length ack) most ≡ fit → fits request context ack ≡ fit
    → or_abort request.invoke (followed most (Some header_room) ack).octets ≡ with_room (fitted request context ack)
ack_or_abort most request context ack true within fit = rw (within, fit) refl
ack_or_abort most request context ack false within fit = rw (within, fit) refl

pub fitted_ack : (most : ℕ) (request : ConfirmedRequest) (context : Context) (limited : LimitedState) (ack : List ℕ)
    → ((octets : List ℕ) → nat_le (length octets) most ≡ fits request context octets)
    → limited ≡ extended (record { left = most; octets = Some header_room }) ack
    → or_abort request.invoke limited.octets ≡ with_room (fitted request context ack)
fitted_ack most request context limited ack limit is =
    ap (λ (state : LimitedState). or_abort request.invoke state.octets) is
    ∙ ack_or_abort most request context ack (nat_le (length ack) most) refl (sym (limit ack))

-- also in two parts
pub both_fitted : (most : ℕ) (request : ConfirmedRequest) (context : Context) (begun whole : LimitedState) (head items : List ℕ)
    → ((octets : List ℕ) → nat_le (length octets) most ≡ fits request context octets)
    → begun ≡ extended (record { left = most; octets = Some header_room }) head → whole ≡ extended begun items
    → or_abort request.invoke whole.octets ≡ with_room (fitted request context (head ++ items))
both_fitted most request context begun whole head items limit begins more =
    fitted_ack most request context whole (head ++ items) limit
    (more ∙ ap (λ (limited : LimitedState). extended limited items) begins
    ∙ extended_both (record { left = most; octets = Some header_room }) head items)
