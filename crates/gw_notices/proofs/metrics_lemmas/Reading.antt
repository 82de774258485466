-- Escaped values are read back, and nothing else is read.
use Rattle.std.proofs.Common.{◌≡◌, ◌∙◌, ◌++◌, ◌==◌, ℕ, Bool, true, false, List, [], ◌∷◌, Option, Some, None, ap, append_assoc, arith, cond, refl, sym}
use Rattle.std.proofs.lemmas.Bool.{false≢true}
use Rattle.gw_notices.specs.metrics.Escape.{escape_meaning, escaped, escaped_octet, read_from, with_meaning, with_octet}
use Rattle.gw_notices.specs.metrics.Laws.{OnlyEscapesAreRead, ValuesAreReadBack}

abbrev Read : Type 0
Read = Option (List ℕ × List ℕ)

chosen : {A : Type 0} (b : Bool) (P : A → Type 0) (first other : A) → (b ≡ true → P first) → (b ≡ false → P other) → P (cond b first other)
chosen true P first other left right = left refl
chosen false P first other left right = right refl

same : (a b : ℕ) → (a == b) ≡ true → a ≡ b
same a b e = grind (arith, e)

-- ---- back

choose : Bool → Read → Read → Read
choose b first other = cond b first other

plain_read : (x : ℕ) (t : List ℕ) → (x == 34) ≡ false → (x == 92) ≡ false → (x == 10) ≡ false
    → read_from false (x ∷ t) ≡ with_octet x (read_from false t)
unfolding read_from choose
plain_read x t quote slash feed =
    ap (λ (b : Bool). choose b (Some ([], t))
    (choose (x == 92) (read_from true t) (choose (x == 10) None (with_octet x (read_from false t))))) quote
    ∙ ap (λ (b : Bool). choose b (read_from true t) (choose (x == 10) None (with_octet x (read_from false t)))) slash
    ∙ ap (λ (b : Bool). choose b None (with_octet x (read_from false t))) feed

slash_read : (t : List ℕ) → read_from false (92 ∷ 92 ∷ t) ≡ with_octet 92 (read_from false t)
unfolding read_from
slash_read t = refl

quote_read : (t : List ℕ) → read_from false (92 ∷ 34 ∷ t) ≡ with_octet 34 (read_from false t)
unfolding read_from
quote_read t = refl

feed_read : (t : List ℕ) → read_from false (92 ∷ 110 ∷ t) ≡ with_octet 10 (read_from false t)
unfolding read_from
feed_read t = refl

-- an escaped octet is read as that octet
octet_back : (x : ℕ) (t : List ℕ) → read_from false (escaped_octet x ++ t) ≡ with_octet x (read_from false t)
octet_back x t =
    let P : List ℕ → Type 0 = λ (l : List ℕ). read_from false (l ++ t) ≡ with_octet x (read_from false t) in
    let means : (y : ℕ) → x ≡ y → with_octet y (read_from false t) ≡ with_octet x (read_from false t) =
    λ y is. ap (λ (n : ℕ). with_octet n (read_from false t)) (sym is) in
    chosen (x == 92) P _ _ (λ is. slash_read t ∙ means 92 (same x 92 is)) (λ slash.
    chosen (x == 34) P _ _ (λ is. quote_read t ∙ means 34 (same x 34 is)) (λ quote.
    chosen (x == 10) P _ _ (λ is. feed_read t ∙ means 10 (same x 10 is)) (λ feed.
    plain_read x t quote slash feed)))

end_read : (rest : List ℕ) → read_from false (34 ∷ rest) ≡ Some ([], rest)
unfolding read_from
end_read rest = refl

pub values_are_read_back : ValuesAreReadBack
values_are_read_back [] rest = end_read rest
values_are_read_back (x ∷ value) rest =
    ap (read_from false) (append_assoc (escaped_octet x) (escaped value) (34 ∷ rest))
    ∙ octet_back x (escaped value ++ 34 ∷ rest)
    ∙ ap (λ (r : Read). with_octet x r) (values_are_read_back value rest)

-- ---- only

abbrev value_in : Read → List ℕ
value_in None = []
value_in (Some (value, rest)) = value

abbrev rest_in : Read → List ℕ
rest_in None = []
rest_in (Some (value, rest)) = rest

octet_read : (x : ℕ) (r : Read) (v rest : List ℕ) (G : Type 0) → with_octet x r ≡ Some (v, rest)
    → ((w : List ℕ) → r ≡ Some (w, rest) → v ≡ x ∷ w → G) → G
octet_read x None v rest G e go = absurd cc
octet_read x (Some (w, q)) v rest G e go =
    go w (ap (λ (s : List ℕ). let read : Read = Some (w, s) in read) (ap rest_in e)) (sym (ap value_in e))

plain_octet : (x : ℕ) → (x == 34) ≡ false → (x == 92) ≡ false → (x == 10) ≡ false → escaped_octet x ≡ x ∷ []
plain_octet x quote slash feed =
    let P : List ℕ → Type 0 = λ (l : List ℕ). l ≡ x ∷ [] in
    chosen (x == 92) P _ _ (λ is. absurd (false≢true (sym slash ∙ is))) (λ a.
    chosen (x == 34) P _ _ (λ is. absurd (false≢true (sym quote ∙ is))) (λ b.
    chosen (x == 10) P _ _ (λ is. absurd (false≢true (sym feed ∙ is))) (λ c. refl)))

abbrev IsSpelled : List ℕ → List ℕ → List ℕ → Type 0
IsSpelled text v rest = text ≡ escaped v ++ 34 ∷ rest

meaning_read : (x : ℕ) (r : Read) (t v rest : List ℕ) → ((w : List ℕ) → r ≡ Some (w, rest) → IsSpelled t w rest)
    → with_meaning (escape_meaning x) r ≡ Some (v, rest) → IsSpelled (92 ∷ x ∷ t) v rest
meaning_read x r t v rest later =
    let P : Option ℕ → Type 0 = λ (m : Option ℕ). with_meaning m r ≡ Some (v, rest) → IsSpelled (92 ∷ x ∷ t) v rest in
    let spelled : List ℕ → List ℕ = λ u. escaped u ++ 34 ∷ rest in
    chosen (x == 92) P _ _ (λ is e. octet_read 92 r v rest _ e (λ w read whole.
    ap (λ (n : ℕ). 92 ∷ n ∷ t) (same x 92 is) ∙ ap (λ (s : List ℕ). 92 ∷ 92 ∷ s) (later w read) ∙ sym (ap spelled whole))) (λ a.
    chosen (x == 34) P _ _ (λ is e. octet_read 34 r v rest _ e (λ w read whole.
    ap (λ (n : ℕ). 92 ∷ n ∷ t) (same x 34 is) ∙ ap (λ (s : List ℕ). 92 ∷ 34 ∷ s) (later w read) ∙ sym (ap spelled whole))) (λ b.
    chosen (x == 110) P _ _ (λ is e. octet_read 10 r v rest _ e (λ w read whole.
    ap (λ (n : ℕ). 92 ∷ n ∷ t) (same x 110 is) ∙ ap (λ (s : List ℕ). 92 ∷ 110 ∷ s) (later w read) ∙ sym (ap spelled whole))) (λ c e.
    absurd cc)))

abbrev front : Bool → List ℕ → List ℕ
front true t = 92 ∷ t
front false t = t

only : (b : Bool) (t v rest : List ℕ) → read_from b t ≡ Some (v, rest) → IsSpelled (front b t) v rest
unfolding read_from
only true [] v rest e = absurd cc
only false [] v rest e = absurd cc
only true (x ∷ t) v rest e = meaning_read x (read_from false t) t v rest (λ w read. only false t w rest read) e
only false (x ∷ t) v rest e =
    let P : Read → Type 0 = λ (r : Read). r ≡ Some (v, rest) → IsSpelled (x ∷ t) v rest in
    let spelled : List ℕ → List ℕ = λ u. escaped u ++ 34 ∷ rest in
    chosen (x == 34) P _ _ (λ is h.
    ap (λ (n : ℕ). n ∷ t) (same x 34 is) ∙ ap (λ (s : List ℕ). 34 ∷ s) (ap rest_in h) ∙ ap spelled (ap value_in h)) (λ quote.
    chosen (x == 92) P _ _ (λ is h. ap (λ (n : ℕ). n ∷ t) (same x 92 is) ∙ only true t v rest h) (λ slash.
    chosen (x == 10) P _ _ (λ is h. absurd cc) (λ feed h.
    octet_read x (read_from false t) v rest _ h (λ w read whole.
    ap (λ (s : List ℕ). x ∷ s) (only false t w rest read)
    ∙ ap (λ (l : List ℕ). (l ++ escaped w) ++ 34 ∷ rest) (sym (plain_octet x quote slash feed))
    ∙ sym (ap spelled whole))))) e

pub only_escapes_are_read : OnlyEscapesAreRead
only_escapes_are_read text value rest is = only false text value rest is
