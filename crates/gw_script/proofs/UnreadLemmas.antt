-- What is unread, once more was read after it or some was taken from it.
use Rattle.std.proofs.Common.{◌≡◌, ℕ, ◌+◌, ◌-◌, ◌≤◌, List, [], ◌++◌, length, take, drop, slice_range, Option, Some, None, refl, sym, ap, ◌∙◌, arith, append_assoc}
use Rattle.std.proofs.lemmas.List.{take_at, drop_at, take-append-le, drop-append-le, drop-take, drop-drop, length-take-le, length-drop, append-nil}
use Rattle.std.specs.Io.KnownBytes.{Keeps, Consumes, prepend_known}
use borrow.Rule.Slice.PartMut.{put_mid, post_of}
use lib.Seq.{take-add}

pub grown : (xs ys : List ℕ) (start end k n : ℕ) → start ≤ end → end ≤ length xs → n ≤ length ys
    → slice_range (put_mid end k xs ys) start (end + n) ≡ slice_range xs start end ++ take n ys
grown xs ys start end k n ordered within fits =
    let front = length-take-le end xs within in
    let unread = drop start (take end xs) in
    let len : length unread ≡ end - start = omega (arith, length-drop start (take end xs)) in
    let sum : end + n - start ≡ (end - start) + n = omega arith in
    let parts : end ≡ start + (end - start) = omega arith in
    let same : unread ≡ take (end - start) (drop start xs) = ap (λ j. drop start (take j xs)) parts ∙ drop-take start (end - start) xs in
    let after = ys ++ post_of end k xs in
    ap (take (end + n - start)) (drop-append-le start (take end xs) after (omega arith))
    ∙ ap (λ j. take j (unread ++ after)) sum ∙ take-add (end - start) n (unread ++ after)
    ∙ (rw (take_at unread after _ len, drop_at unread after _ len, take-append-le n ys (post_of end k xs) fits, same) refl)

pub consumed : (xs : List ℕ) (start end count : ℕ) → start + count ≤ end
    → slice_range xs (start + count) end ≡ drop count (slice_range xs start end)
consumed xs start end count inside =
    let parts : end - start ≡ count + (end - (start + count)) = omega arith in
    sym (ap (λ j. drop count (take j (drop start xs))) parts ∙ drop-take count _ (drop start xs)
    ∙ ap (take (end - (start + count))) (drop-drop count start xs))

-- a read moves octets from what the reader has left to what is unread
pub keeps_read : (old new : Option (List ℕ)) (unread more : List ℕ) → Consumes old new more → Keeps (prepend_known unread old) (prepend_known (unread ++ more) new)
keeps_read None new unread more read = tt
keeps_read (Some xs) None unread more read = read
keeps_read (Some xs) (Some ys) unread more read = append_assoc unread more ys ∙ ap (λ (t : List ℕ). unread ++ t) (sym read)

pub keeps_along : (a b c : Option (List ℕ)) → Keeps a b → Keeps b c → Keeps a c
keeps_along None b c h k = tt
keeps_along (Some xs) None c h k = absurd h
keeps_along (Some xs) (Some ys) None h k = absurd k
keeps_along (Some xs) (Some ys) (Some zs) h k = k ∙ h

pub keeps_same : (a b : Option (List ℕ)) → b ≡ a → Keeps a b
keeps_same None b e = tt
keeps_same (Some xs) None e = absurd cc
keeps_same (Some xs) (Some ys) e = cc

pub keeps_prepended : (front : List ℕ) (a b : Option (List ℕ)) → Keeps a b → Keeps (prepend_known front a) (prepend_known front b)
keeps_prepended front None b h = tt
keeps_prepended front (Some xs) None h = h
keeps_prepended front (Some xs) (Some ys) h = ap (λ (t : List ℕ). front ++ t) h

pub take_none : (n : ℕ) (xs : List ℕ) → n ≡ 0 → take n xs ≡ []
take_none n xs none = ap (λ (k : ℕ). take k xs) none

-- what is written after the unread octets leaves them as they are
pub put_back : (xs ys : List ℕ) (start end k : ℕ) → start ≤ end → end ≤ length xs → slice_range (put_mid end k xs ys) start end ≡ slice_range xs start end
put_back xs ys start end k ordered within =
    let none : end + 0 ≡ end = omega arith in
    ap (λ (e : ℕ). slice_range (put_mid end k xs ys) start e) (sym none) ∙ grown xs ys start end k 0 ordered within (omega arith) ∙ append-nil (slice_range xs start end)

pub length_unread : (xs : List ℕ) (start end : ℕ) → start ≤ end → end ≤ length xs → length (slice_range xs start end) ≡ end - start
length_unread xs start end ordered within = omega (arith, length-take-le (end - start) (drop start xs) (omega (arith, length-drop start xs)))
