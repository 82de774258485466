-- A text without its notes.
use Rattle.std.proofs.Common.{◌≡◌, ◌∙◌, ◌<◌, ℕ, zero, suc, Bool, true, false, true≢false, List, [], ◌∷◌, ◌++◌, length, take, Option, Some, None, Result, Ok, Err, refl, sym, ap, subst, append_assoc, arith}
use Rattle.std.specs.Prelude.{⊤, ◌≢◌, ◌==◌, if◌then◌else◌, slice_index, OnErr, OnOk}
use Rattle.std.specs.Io.KnownBytes.{Appends, Keeps}
use Rattle.std.proofs.lemmas.Bool.{ne_eqb}
use Rattle.std.proofs.lemmas.List.{append-nil}
use Rattle.gw_addr.specs.Text.{Lacks}
use Rattle.gw_log_words.specs.Noted.{begins_note, held_without_notes, is_same, octet_without, place_after, place_at, without_notes}
use Rattle.gw_log_words.specs.Stamped.{EndsAtMost}
use Rattle.gw_log_words.specs.declared.noted.Place.{Place}
use Rattle.gw_log_words.specs.declared.noted.Place.TheVariants.{Begin, Note, Line}
use Rattle.gw_log_words.proofs.StampLemmas.{appends_none, appends_some, lacks_front, none_left}

without_both : (p : Place) (xs ys : List ℕ) → without_notes p (xs ++ ys) ≡ without_notes p xs ++ without_notes (place_at p xs) ys
unfolding without_notes place_at
without_both p [] ys = refl
without_both p (c ∷ xs) ys =
    ap (λ (t : List ℕ). octet_without p c ++ t) (without_both (place_after p c) xs ys)
    ∙ sym (append_assoc (octet_without p c) (without_notes (place_after p c) xs) (without_notes (place_at (place_after p c) xs) ys))

place_both : (p : Place) (xs ys : List ℕ) → place_at p (xs ++ ys) ≡ place_at (place_at p xs) ys
unfolding place_at
place_both p [] ys = refl
place_both p (c ∷ xs) ys = place_both (place_after p c) xs ys

-- ---- what is held

same_is : (p q : Place) → is_same p q ≡ true → q ≡ p
same_is Begin Begin e = refl
same_is Begin Note e = absurd cc
same_is Begin Line e = absurd cc
same_is Note Begin e = absurd cc
same_is Note Note e = refl
same_is Note Line e = absurd cc
same_is Line Begin e = absurd cc
same_is Line Note e = absurd cc
same_is Line Line e = refl

is_self : (p : Place) → is_same p p ≡ true
is_self Begin = refl
is_self Note = refl
is_self Line = refl

held_is : (p : Place) (text : List ℕ) → is_same p (place_at Begin text) ≡ true → held_without_notes p (Some text) ≡ Some (without_notes Begin text)
held_is p text e = rw e refl

held_none : (p : Place) (text : List ℕ) → is_same p (place_at Begin text) ≡ false → held_without_notes p (Some text) ≡ None
held_none p text e = rw e refl

-- what comes after a text comes without its notes
pub held_grows : (x y : Option (List ℕ)) (p q : Place) (more : List ℕ) → Appends x y more → place_at p more ≡ q
    → Appends (held_without_notes p x) (held_without_notes q y) (without_notes p more)
held_grows None y p q more grown leads = tt
held_grows (Some a) None p q more grown leads = absurd grown
held_grows (Some a) (Some b) p q more grown leads = by (is_same p (place_at Begin a)) refl
  where
    by : (e : Bool) → is_same p (place_at Begin a) ≡ e → Appends (held_without_notes p (Some a)) (held_without_notes q (Some b)) (without_notes p more)
    by false e = appends_none _ _ _ (held_none p a e)
    by true e =
        let at : place_at Begin a ≡ p = same_is p (place_at Begin a) e in
        let ends : place_at Begin b ≡ q =
        ap (place_at Begin) grown ∙ place_both Begin a more ∙ ap (λ (s : Place). place_at s more) at ∙ leads in
        let same : without_notes Begin b ≡ without_notes Begin a ++ without_notes p more =
        ap (without_notes Begin) grown ∙ without_both Begin a more
        ∙ ap (λ (s : Place). without_notes Begin a ++ without_notes s more) at in
        appends_some _ _ (without_notes Begin a) (without_notes Begin b) (without_notes p more) (held_is p a e)
        (held_is q b (subst (λ (s : Place). is_same q s ≡ true) (sym ends) (is_self q))) same

appends_none_keeps : (u v : Option (List ℕ)) (more : List ℕ) → more ≡ [] → Appends u v more → Keeps u v
appends_none_keeps None v more e grown = tt
appends_none_keeps (Some xs) None more e grown = absurd grown
appends_none_keeps (Some xs) (Some ys) more e grown = grown ∙ ap (λ (t : List ℕ). xs ++ t) e ∙ append-nil xs

-- octets of notes change nothing
pub held_keeps : (x y : Option (List ℕ)) (p q : Place) (more : List ℕ) → Appends x y more → place_at p more ≡ q → without_notes p more ≡ []
    → Keeps (held_without_notes p x) (held_without_notes q y)
held_keeps x y p q more grown leads gone = appends_none_keeps _ _ (without_notes p more) gone (held_grows x y p q more grown leads)

keeps_self : (x : Option (List ℕ)) → Keeps x x
keeps_self None = tt
keeps_self (Some xs) = refl

-- nor does what keeps all, at the same place
pub held_stays : (x y : Option (List ℕ)) (p q : Place) → Keeps x y → q ≡ p → Keeps (held_without_notes p x) (held_without_notes q y)
held_stays None y p q kept at = tt
held_stays (Some xs) None p q kept at = absurd kept
held_stays (Some xs) (Some ys) p q kept at =
    subst (λ (t : List ℕ). Keeps (held_without_notes p (Some xs)) (held_without_notes q (Some t))) (sym kept)
    (subst (λ (s : Place). Keeps (held_without_notes p (Some xs)) (held_without_notes s (Some xs))) (sym at) (keeps_self (held_without_notes p (Some xs))))

pub keeps_along : (a b c : Option (List ℕ)) → Keeps a b → Keeps b c → Keeps a c
keeps_along None b c first second = tt
keeps_along (Some xs) None c first second = absurd first
keeps_along (Some xs) (Some ys) None first second = absurd second
keeps_along (Some xs) (Some ys) (Some zs) first second = second ∙ first

pub appends_after_keeps : (a b c : Option (List ℕ)) (more : List ℕ) → Keeps a b → Appends b c more → Appends a c more
appends_after_keeps None b c more kept grown = tt
appends_after_keeps (Some xs) None c more kept grown = absurd kept
appends_after_keeps (Some xs) (Some ys) None more kept grown = absurd grown
appends_after_keeps (Some xs) (Some ys) (Some zs) more kept grown = grown ∙ ap (λ (t : List ℕ). t ++ more) kept

pub appends_self : (a : Option (List ℕ)) → Appends a a []
appends_self None = tt
appends_self (Some xs) = sym (append-nil xs)

-- ---- the octets of a note

pub sign_gone : without_notes Begin (35 ∷ []) ≡ []
unfolding without_notes
sign_gone = refl

pub sign_leads : place_at Begin (35 ∷ []) ≡ Note
unfolding place_at
sign_leads = refl

pub end_gone : without_notes Note (10 ∷ []) ≡ []
unfolding without_notes
end_gone = refl

pub end_leads : place_at Note (10 ∷ []) ≡ Begin
unfolding place_at
end_leads = refl

pub words_gone : (words : List ℕ) → Lacks 10 words → without_notes Note words ≡ []
unfolding without_notes
words_gone [] lacks = refl
words_gone (c ∷ words) lacks =
    rw (ne_eqb c 10 (lacks 0 (omega arith))) (words_gone words (λ i lt. lacks (suc i) (omega arith)))

pub words_lead : (words : List ℕ) → Lacks 10 words → place_at Note words ≡ Note
unfolding place_at
words_lead [] lacks = refl
words_lead (c ∷ words) lacks =
    rw (ne_eqb c 10 (lacks 0 (omega arith))) (words_lead words (λ i lt. lacks (suc i) (omega arith)))

-- ---- the octets of another line

nothing_gone : (p : Place) → without_notes p [] ≡ []
unfolding without_notes
nothing_gone p = refl

nothing_leads : (p : Place) → place_at p [] ≡ p
unfolding place_at
nothing_leads p = refl

line_stays : (piece : List ℕ) (n : ℕ) → EndsAtMost piece → without_notes Line (take n piece) ≡ take n piece
unfolding without_notes
line_stays piece zero ends = refl
line_stays [] (suc n) ends = refl
line_stays (c ∷ []) (suc n) ends =
    ap (λ (t : List ℕ). c ∷ t) (ap (without_notes (place_after Line c)) (none_left n) ∙ nothing_gone (place_after Line c) ∙ sym (none_left n))
line_stays (c ∷ d ∷ piece) (suc n) ends =
    rw (ne_eqb c 10 (ends 0 (omega arith))) (ap (λ (t : List ℕ). c ∷ t) (line_stays (d ∷ piece) n (λ i lt. ends (suc i) (omega arith))))

within_line : (c : ℕ) → c ≢ 10 → place_after Line c ≡ Line
within_line c other = rw (ne_eqb c 10 other) refl

line_leads : (piece : List ℕ) (k : ℕ) → EndsAtMost piece → k < length piece
    → place_at Line (take (suc k) piece) ≡ (if slice_index piece k == 10 then Begin else Line)
unfolding place_at
line_leads [] k ends within = absurd (omega arith)
line_leads (c ∷ []) zero ends within = refl
line_leads (c ∷ []) (suc k) ends within = absurd (omega arith)
line_leads (c ∷ d ∷ piece) zero ends within = refl
line_leads (c ∷ d ∷ piece) (suc k) ends within =
    ap (λ (s : Place). place_at s (take (suc k) (d ∷ piece))) (within_line c (ends 0 (omega arith)))
    ∙ line_leads (d ∷ piece) k (λ i lt. ends (suc i) (omega arith)) (omega arith)

-- at its begin they are no sign of a note
as_line : (c : ℕ) (text : List ℕ) → c ≢ 35 → without_notes Begin (c ∷ text) ≡ without_notes Line (c ∷ text)
unfolding without_notes
as_line c text other = rw (ne_eqb c 35 other) refl

leads_as_line : (c : ℕ) (text : List ℕ) → c ≢ 35 → place_at Begin (c ∷ text) ≡ place_at Line (c ∷ text)
unfolding place_at
leads_as_line c text other = rw (ne_eqb c 35 other) refl

-- a line may go on here with this octet
abbrev pub MayComeAt : Place → ℕ → Type 0
MayComeAt Begin c = c ≢ 35
MayComeAt Note c = ⊥
MayComeAt Line c = ⊤

pub piece_stays : (p : Place) (piece : List ℕ) (k : ℕ) → MayComeAt p (slice_index piece 0) → EndsAtMost piece → k < length piece
    → without_notes p (take (suc k) piece) ≡ take (suc k) piece
piece_stays Begin [] k may ends within = absurd (omega arith)
piece_stays Begin (c ∷ piece) k may ends within = as_line c (take k piece) may ∙ line_stays (c ∷ piece) (suc k) ends
piece_stays Note piece k may ends within = absurd may
piece_stays Line piece k may ends within = line_stays piece (suc k) ends

pub piece_leads : (p : Place) (piece : List ℕ) (k : ℕ) → MayComeAt p (slice_index piece 0) → EndsAtMost piece → k < length piece
    → place_at p (take (suc k) piece) ≡ (if slice_index piece k == 10 then Begin else Line)
piece_leads Begin [] k may ends within = absurd (omega arith)
piece_leads Begin (c ∷ piece) k may ends within = leads_as_line c (take k piece) may ∙ line_leads (c ∷ piece) k ends within
piece_leads Note piece k may ends within = absurd may
piece_leads Line piece k may ends within = line_leads piece k ends within

-- what is written of a line comes as it is
pub piece_comes : (x y : Option (List ℕ)) (p q : Place) (piece : List ℕ) (count k : ℕ) → MayComeAt p (slice_index piece 0)
    → EndsAtMost piece → Appends x y (take count piece) → count ≡ suc k → k < length piece
    → q ≡ (if slice_index piece k == 10 then Begin else Line)
    → Appends (held_without_notes p x) (held_without_notes q y) (take count piece)
piece_comes x y p q piece count k may ends written is within last =
    let grown = subst (λ (m : ℕ). Appends x y (take m piece)) is written in
    let leads = piece_leads p piece k may ends within ∙ sym last in
    subst (λ (m : ℕ). Appends (held_without_notes p x) (held_without_notes q y) (take m piece)) (sym is)
    (subst (λ (t : List ℕ). Appends (held_without_notes p x) (held_without_notes q y) t) (piece_stays p piece k may ends within)
    (held_grows x y p q (take (suc k) piece) grown leads))

pub may_come : (p : Place) (c : ℕ) → p ≢ Note → begins_note p c ≡ false → MayComeAt p c
may_come Begin c other unnoted = λ e. true≢false (sym (ap (λ (x : ℕ). x == 35) e) ∙ unnoted)
may_come Note c other unnoted = other refl
may_come Line c other unnoted = tt

-- ---- by the outcome of a write

-- one octet of a note
pub octet_keeps : {E : Type 0} (x y : Option (List ℕ)) (p q place : Place) (octet : ℕ) (r : Result (Unit {0}) E) → OnOk r (Appends x y (octet ∷ []))
    → OnErr r (Keeps x y) → OnOk r (q ≡ place) → OnErr r (q ≡ p) → place_at p (octet ∷ []) ≡ place → without_notes p (octet ∷ []) ≡ []
    → Keeps (held_without_notes p x) (held_without_notes q y)
octet_keeps x y p q place octet (Ok done) grown kept leads still at gone = held_keeps x y p q (octet ∷ []) grown (at ∙ sym leads) gone
octet_keeps x y p q place octet (Err e) grown kept leads still at gone = held_stays x y p q kept still

-- words of a note
front_lacks : (c : ℕ) (text front rest : List ℕ) → Lacks c text → text ≡ front ++ rest → Lacks c front
front_lacks c text front rest lacks is = lacks_front c front rest (subst (λ (t : List ℕ). Lacks c t) is lacks)

note_keeps : (x y : Option (List ℕ)) (p : Place) (words : List ℕ) → p ≡ Note → Lacks 10 words → Appends x y words
    → Keeps (held_without_notes p x) (held_without_notes p y)
note_keeps x y p words is lacks grown =
    held_keeps x y p p words grown (ap (λ (s : Place). place_at s words) is ∙ words_lead words lacks ∙ sym is)
    (ap (λ (s : Place). without_notes s words) is ∙ words_gone words lacks)

pub words_keep : {E : Type 0} (x y : Option (List ℕ)) (p : Place) (words : List ℕ) (r : Result (Unit {0}) E) → p ≡ Note → Lacks 10 words
    → OnOk r (Appends x y words)
    → OnErr r ((front : List ℕ) × (rest : List ℕ) × (words ≡ front ++ rest) × Appends x y front)
    → Keeps (held_without_notes p x) (held_without_notes p y)
words_keep x y p words (Ok done) is lacks grown front = note_keeps x y p words is lacks grown
words_keep x y p words (Err e) is lacks grown front =
    note_keeps x y p front.0 is (front_lacks 10 words front.0 front.1 lacks front.2) front.3
