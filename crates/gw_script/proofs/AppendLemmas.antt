-- What a piece says whatever comes after, and texts that are appended one after the other.
use Rattle.std.proofs.Common.{◌≡◌, ℕ, List, ◌++◌, take, drop, Option, Some, None, sym, ap, ◌∙◌, append_assoc}
use Rattle.std.specs.Prelude.{IfSome}
use Rattle.std.specs.Io.KnownBytes.{Appends}
use Rattle.std.proofs.lemmas.List.{take-append-drop}
use Rattle.gw_script.specs.declared.reader.NextLine.{NextLine}
use Rattle.gw_script.specs.Reader.{IsNextLine}

pub every_piece : (known : Option (List ℕ)) (unread : List ℕ) (piece : NextLine) → ((rest : List ℕ) → IsNextLine unread rest piece) → IfSome known (λ rest. IsNextLine unread rest piece)
every_piece None unread piece every = tt
every_piece (Some rest) unread piece every = every rest

pub appends_along : (a b c : Option (List ℕ)) (xs ys : List ℕ) → Appends a b xs → Appends b c ys → Appends a c (xs ++ ys)
appends_along None b c xs ys h k = tt
appends_along (Some p) None c xs ys h k = absurd h
appends_along (Some p) (Some q) None xs ys h k = absurd k
appends_along (Some p) (Some q) (Some r) xs ys h k = k ∙ ap (λ (t : List ℕ). t ++ ys) h ∙ append_assoc p xs ys

pub parts_along : (text front rest : List ℕ) (n : ℕ) → text ≡ front ++ rest → text ≡ (front ++ take n rest) ++ drop n rest
parts_along text front rest n e = e ∙ ap (λ (t : List ℕ). front ++ t) (sym (take-append-drop n rest)) ∙ sym (append_assoc front (take n rest) (drop n rest))
