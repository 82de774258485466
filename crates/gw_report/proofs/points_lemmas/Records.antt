-- A reader of separated values finds the cells of which a text was made. After the proof of the kit's crate `csv` for
-- commas.
use Rattle.std.specs.Prelude.{length, ⊤}
use Rattle.std.proofs.Common.{◌≡◌, ◌==◌, ◌++◌, ◌∷◌, ◌∙◌, ◌+◌, ◌≤◌, ◌<◌, [], ℕ, zero, suc, List, Bool, Some, refl, sym, ap, subst, true, false, append_assoc, inl, inr, arith}
use Rattle.std.specs.Prelude.{◌||◌}
use Rattle.std.specs.List.{flat_map}
use Rattle.std.proofs.lemmas.List.{append-nil, length-append}
use Rattle.std.proofs.lemmas.Bool.{cases_Bool, eqb-true}
use Rattle.csv.specs.Machine.{next_record}
use Rattle.csv.specs.Reading.{records_from, records_next}
use Rattle.csv.specs.declared.parser.State.TheVariants as st
use Rattle.gw_report.specs.points.Cells.{Row, cell_text, doubled, is_marked, is_one_of, marks, next_text, row_text}
use Rattle.gw_report.specs.points.Reading.{rows_in, semicolons}

or-left : (a b : Bool) → (a || b) ≡ false → a ≡ false
or-left false b e = refl
or-left true b e = cc e

or-right : (a b : Bool) → (a || b) ≡ false → b ≡ false
or-right false b e = e
or-right true b e = cc e

-- an octet that isn't a mark
plain_octet : (b : ℕ) → is_one_of marks b ≡ false → ((b == 59) ≡ false) × ((b == 34) ≡ false) × ((b == 13) ≡ false) × ((b == 10) ≡ false)
plain_octet b e =
    let after = or-right (b == 59) _ e in
    let more = or-right (b == 34) _ after in
    let last = or-right (b == 13) _ more in
    (or-left _ _ e, or-left _ _ after, or-left _ _ more, or-left _ _ last)

plain_run : (fields : Row) (field x tail : List ℕ) → is_marked x ≡ false
    → next_record semicolons st.InField fields field (x ++ tail) ≡ next_record semicolons st.InField fields (field ++ x) tail
unfolding next_record
plain_run fields field [] tail e = rw (append-nil field) refl
plain_run fields field (b ∷ rest) tail e =
    let q = plain_octet b (or-left _ _ e) in
    rw (q.0, q.2, q.3) (plain_run fields (field ++ (b ∷ [])) rest tail (or-right _ _ e)
    ∙ ap (λ (f : List ℕ). next_record semicolons st.InField fields f tail) (append_assoc field (b ∷ []) rest))

quoted_plain : (fields : Row) (field : List ℕ) (b : ℕ) (tail : List ℕ) → (b == 34) ≡ false
    → next_record semicolons st.InQuoted fields field (b ∷ tail) ≡ next_record semicolons st.InQuoted fields (field ++ (b ∷ [])) tail
unfolding next_record
quoted_plain fields field b tail n = rw n refl

doubled_plain : (b : ℕ) (rest : List ℕ) → (b == 34) ≡ false → flat_map doubled (b ∷ rest) ≡ b ∷ flat_map doubled rest
doubled_plain b rest n = rw n refl

-- the octets between quotes, and the quote that ends them
quoted_run : (fields : Row) (field x tail : List ℕ)
    → next_record semicolons st.InQuoted fields field (flat_map doubled x ++ (34 ∷ tail))
    ≡ next_record semicolons st.AfterQuote fields (field ++ x) tail
unfolding next_record
quoted_run fields field [] tail = rw (append-nil field) refl
quoted_run fields field (b ∷ rest) tail = elim (cases_Bool (b == 34)) [
  | inl same ↦
      subst (λ (z : ℕ). next_record semicolons st.InQuoted fields field (flat_map doubled (z ∷ rest) ++ (34 ∷ tail))
      ≡ next_record semicolons st.AfterQuote fields (field ++ (z ∷ rest)) tail) (sym (eqb-true b 34 same))
      (quoted_run fields (field ++ (34 ∷ [])) rest tail
      ∙ ap (λ (f : List ℕ). next_record semicolons st.AfterQuote fields f tail) (append_assoc field (34 ∷ []) rest))
  | inr other ↦
      rw (doubled_plain b rest other) (quoted_plain fields field b _ other
      ∙ quoted_run fields (field ++ (b ∷ [])) rest tail
      ∙ ap (λ (f : List ℕ). next_record semicolons st.AfterQuote fields f tail) (append_assoc field (b ∷ []) rest))
]

after_quote : (fields : Row) (field : List ℕ) (c : ℕ) (tail : List ℕ) → (c == 34) ≡ false
    → next_record semicolons st.AfterQuote fields field (c ∷ tail) ≡ next_record semicolons st.InField fields field (c ∷ tail)
unfolding next_record
after_quote fields field c tail n = rw n refl

start_same : (fields : Row) (field : List ℕ) (c : ℕ) (tail : List ℕ) → (c == 34) ≡ false
    → next_record semicolons st.StartField fields field (c ∷ tail) ≡ next_record semicolons st.InField fields field (c ∷ tail)
unfolding next_record
start_same fields field c tail n = rw n refl

record_same : (fields : Row) (field : List ℕ) (c : ℕ) (tail : List ℕ) → (c == 13) ≡ false → (c == 10) ≡ false
    → next_record semicolons st.StartRecord fields field (c ∷ tail) ≡ next_record semicolons st.StartField fields field (c ∷ tail)
unfolding next_record
record_same fields field c tail r n = rw (r, n) refl

plain_start : (fields : Row) (x : List ℕ) (c : ℕ) (tail : List ℕ) → (c == 34) ≡ false → is_marked x ≡ false
    → next_record semicolons st.StartField fields [] (x ++ (c ∷ tail)) ≡ next_record semicolons st.InField fields x (c ∷ tail)
plain_start fields [] c tail n p = start_same fields [] c tail n
plain_start fields (b ∷ rest) c tail n p =
    let q = plain_octet b (or-left _ _ p) in
    start_same fields [] b (rest ++ (c ∷ tail)) q.1 ∙ plain_run fields [] (b ∷ rest) (c ∷ tail) p

-- a cell, and what follows it, which begins with no quote
cell_run : (fields : Row) (x : List ℕ) (c : ℕ) (tail : List ℕ) → (c == 34) ≡ false
    → next_record semicolons st.StartField fields [] (cell_text x ++ (c ∷ tail)) ≡ next_record semicolons st.InField fields x (c ∷ tail)
unfolding next_record cell_text
cell_run fields x c tail n = elim (cases_Bool (is_marked x)) [
  | inl needs ↦
      let text : cell_text x ++ (c ∷ tail) ≡ 34 ∷ (flat_map doubled x ++ (34 ∷ c ∷ tail)) =
      rw needs (ap (λ (t : List ℕ). 34 ∷ t) (append_assoc (flat_map doubled x) (34 ∷ []) (c ∷ tail))) in
      rw text (quoted_run fields [] x (c ∷ tail) ∙ after_quote fields x c tail n)
  | inr plain ↦
      let text : cell_text x ≡ x = rw plain refl in
      rw text (plain_start fields x c tail n plain)
]

-- a semicolon ends the cell, and a carriage return the line
end_cell : (fields : Row) (x u : List ℕ) → next_record semicolons st.InField fields x (59 ∷ u) ≡ next_record semicolons st.StartField (fields ++ (x ∷ [])) [] u
unfolding next_record
end_cell fields x u = refl

end_row : (fields : Row) (x u : List ℕ) → next_record semicolons st.InField fields x (13 ∷ u) ≡ Some (fields ++ (x ∷ []), st.AfterCr, u)
unfolding next_record
end_row fields x u = refl

-- what follows a cell: its first octet, and the rest
abbrev head_of : Row → ℕ
head_of [] = 13
head_of (z ∷ zs) = 59

abbrev tail_of : Row → List ℕ → List ℕ
tail_of [] tail = 10 ∷ tail
tail_of (z ∷ zs) tail = (cell_text z ++ flat_map next_text zs) ++ (13 ∷ 10 ∷ tail)

text_head : (ys : Row) (tail : List ℕ) → flat_map next_text ys ++ (13 ∷ 10 ∷ tail) ≡ head_of ys ∷ tail_of ys tail
text_head [] tail = refl
text_head (z ∷ zs) tail = refl

head_plain : (ys : Row) → (head_of ys == 34) ≡ false
head_plain [] = refl
head_plain (z ∷ zs) = refl

-- the other cells, after the first
rest_run : (fields : Row) (x : List ℕ) (rest : Row) (tail : List ℕ)
    → next_record semicolons st.InField fields x (flat_map next_text rest ++ (13 ∷ 10 ∷ tail)) ≡ Some (fields ++ (x ∷ rest), st.AfterCr, 10 ∷ tail)
rest_run fields x [] tail = end_row fields x (10 ∷ tail)
rest_run fields x (y ∷ ys) tail =
    let e = text_head ys tail in
    let u : (cell_text y ++ flat_map next_text ys) ++ (13 ∷ 10 ∷ tail) ≡ cell_text y ++ (head_of ys ∷ tail_of ys tail) =
    append_assoc (cell_text y) (flat_map next_text ys) (13 ∷ 10 ∷ tail) ∙ ap (λ (t : List ℕ). cell_text y ++ t) e in
    let run = cell_run (fields ++ (x ∷ [])) y (head_of ys) (tail_of ys tail) (head_plain ys) in
    let more = rest_run (fields ++ (x ∷ [])) y ys tail in
    let back = subst (λ (t : List ℕ). next_record semicolons st.InField (fields ++ (x ∷ [])) y t ≡ Some ((fields ++ (x ∷ [])) ++ (y ∷ ys), st.AfterCr, 10 ∷ tail)) e more in
    rw (end_cell fields x _, u) (run ∙ back ∙ rw (append_assoc fields (x ∷ []) (y ∷ ys)) refl)

first_plain : (x tail : List ℕ) → is_marked x ≡ false
    → next_record semicolons st.StartRecord [] [] (x ++ (59 ∷ tail)) ≡ next_record semicolons st.StartField [] [] (x ++ (59 ∷ tail))
first_plain [] tail p = record_same [] [] 59 tail refl refl
first_plain (b ∷ rest) tail p =
    let q = plain_octet b (or-left _ _ p) in
    record_same [] [] b (rest ++ (59 ∷ tail)) q.2 q.3

-- a line of two cells or more begins as a cell does
first_cell : (x tail : List ℕ)
    → next_record semicolons st.StartRecord [] [] (cell_text x ++ (59 ∷ tail)) ≡ next_record semicolons st.StartField [] [] (cell_text x ++ (59 ∷ tail))
unfolding cell_text
first_cell x tail = elim (cases_Bool (is_marked x)) [
  | inl needs ↦ rw needs (record_same [] [] 34 _ refl refl)
  | inr plain ↦ rw plain (first_plain x tail plain)
]

pub row_read : (x y : List ℕ) (ys : Row) (tail : List ℕ)
    → next_record semicolons st.StartRecord [] [] (row_text (x ∷ y ∷ ys) ++ tail) ≡ Some (x ∷ y ∷ ys, st.AfterCr, 10 ∷ tail)
row_read x y ys tail =
    let e = text_head (y ∷ ys) tail in
    let u : row_text (x ∷ y ∷ ys) ++ tail ≡ cell_text x ++ (flat_map next_text (y ∷ ys) ++ (13 ∷ 10 ∷ tail)) =
    append_assoc (cell_text x) (flat_map next_text (y ∷ ys) ++ 13 ∷ 10 ∷ []) tail
    ∙ ap (λ (t : List ℕ). cell_text x ++ t) (append_assoc (flat_map next_text (y ∷ ys)) (13 ∷ 10 ∷ []) tail) in
    let run = first_cell x (tail_of (y ∷ ys) tail) ∙ cell_run [] x 59 (tail_of (y ∷ ys) tail) refl in
    let more = subst (λ (t : List ℕ). next_record semicolons st.InField [] x t ≡ Some (x ∷ y ∷ ys, st.AfterCr, 10 ∷ tail)) e (rest_run [] x (y ∷ ys) tail) in
    rw (u, e) (run ∙ more)

-- a line has two cells or more
abbrev pub IsWide : Row → Type 0
IsWide [] = ⊥
IsWide (x ∷ []) = ⊥
IsWide (x ∷ y ∷ ys) = ⊤

abbrev pub AreWide : List Row → Type 0
AreWide [] = ⊤
AreWide (row ∷ rows) = IsWide row × AreWide rows

-- the line feed at a line's end is passed over
after_end : (n : ℕ) (text : List ℕ) → records_from semicolons n st.AfterCr (10 ∷ text) ≡ records_from semicolons n st.StartRecord text
unfolding records_from next_record
after_end zero text = refl
after_end (suc n) text = refl

none_read : (n : ℕ) → records_from semicolons (suc n) st.StartRecord [] ≡ []
unfolding records_from next_record
none_read n = refl

pub rows_read : (n : ℕ) (rows : List Row) → AreWide rows → length rows < n → records_from semicolons n st.StartRecord (flat_map row_text rows) ≡ rows
unfolding records_from
rows_read zero rows wide most = absurd (omega arith)
rows_read (suc n) [] wide most = none_read n
rows_read (suc n) ([] ∷ rows) wide most = absurd wide.0
rows_read (suc n) ((x ∷ []) ∷ rows) wide most = absurd wide.0
rows_read (suc n) ((x ∷ y ∷ ys) ∷ rows) wide most =
    ap (records_next (records_from semicolons n)) (row_read x y ys (flat_map row_text rows))
    ∙ ap (λ (t : List Row). (x ∷ y ∷ ys) ∷ t) (after_end n (flat_map row_text rows) ∙ rows_read n rows wide.1 (omega arith))

row_length : (row : Row) → 1 ≤ length (row_text row)
row_length [] = omega arith
row_length (x ∷ xs) =
    omega (arith, length-append (cell_text x) (flat_map next_text xs ++ 13 ∷ 10 ∷ []), length-append (flat_map next_text xs) (13 ∷ 10 ∷ []))

rows_length : (rows : List Row) → length rows ≤ length (flat_map row_text rows)
rows_length [] = omega arith
rows_length (row ∷ rows) = omega (arith, length-append (row_text row) (flat_map row_text rows), row_length row, rows_length rows)

pub rows_found : (rows : List Row) → AreWide rows → rows_in (flat_map row_text rows) ≡ rows
rows_found rows wide = rows_read (length (flat_map row_text rows) + 1) rows wide (omega (arith, rows_length rows))
