-- Items that are read one after the other.
use Rattle.std.proofs.Common.{◌≡◌, ◌≢◌, ◌∙◌, ℕ, zero, suc, ◌+◌, ◌-◌, ◌<◌, ◌≤◌, Bool, true, false, List, [], ◌∷◌, ◌++◌, length, Result, Ok, Err, refl, sym, ap, subst, arith, append_assoc, append-nil}
use Rattle.std.specs.Prelude.{nat_eq}
use Rattle.std.specs.List.{flat_map, starts_with}
use Rattle.std.proofs.lemmas.Grind.{flat_map-append}
use Rattle.std.proofs.lemmas.List.{length-append}
use Rattle.std.proofs.lemmas.List.Concat.{flat_map-cons}
use Rattle.gw_state_text.specs.Items.{AllFit, AreItems}
use Rattle.gw_state_text.specs.declared.fault.FaultKind.TheVariants.{TooMany}
use Rattle.gw_state_text.specs.declared.fault.Stop.{Stop}
use Rattle.gw_state_text.specs.Reading.{all_at, stop_at}
use Rattle.gw_state_text.specs.internal.Block.{StopsAfter}

-- one item more
pub one_more : {A : Type 0} (line : A → List ℕ) (read : List A) (item : A) (text now remaining : List ℕ)
    → text ≡ flat_map line read ++ now → now ≡ line item ++ remaining → text ≡ flat_map line (read ++ item ∷ []) ++ remaining
one_more line read item text now remaining so_far then =
    so_far ∙ ap (λ (t : List ℕ). flat_map line read ++ t) then ∙ sym (append_assoc (flat_map line read) (line item) remaining)
    ∙ ap (λ (t : List ℕ). flat_map line read ++ t ++ remaining) (sym (flat_map-cons line item [] ∙ append-nil (line item)))
    ∙ ap (λ (t : List ℕ). t ++ remaining) (sym (flat_map-append line read (item ∷ [])))

-- reading stops after more items
pub stops_later : {A : Type 0} (line : A → List ℕ) (read : List A) (text now : List ℕ) (left : ℕ)
    → text ≡ flat_map line read ++ now → StopsAfter line now left → StopsAfter line text left
stops_later line read text now left so_far stops = record {
  items = read ++ stops.items;
  rest = stops.rest;
  parts =
      so_far ∙ ap (λ (t : List ℕ). flat_map line read ++ t) stops.parts
      ∙ sym (append_assoc (flat_map line read) (flat_map line stops.items) stops.rest)
      ∙ ap (λ (t : List ℕ). t ++ stops.rest) (sym (flat_map-append line read stops.items));
  is = stops.is;
}

pub stops_here : {A : Type 0} (line : A → List ℕ) (read : List A) (text now : List ℕ) (left : ℕ)
    → text ≡ flat_map line read ++ now → left ≡ length now → StopsAfter line text left
stops_here line read text now left so_far is = record { items = read; rest = now; parts = so_far; is = is }

-- ---- what fits

pub fit_more : {A : Type 0} (Fits : List A → A → Type 0) (before read : List A) (item : A)
    → AllFit Fits before read → Fits (before ++ read) item → AllFit Fits before (read ++ item ∷ [])
unfolding AllFit
fit_more Fits before [] item fit then = (subst (λ (xs : List _). Fits xs item) (append-nil before) then, tt)
fit_more Fits before (x ∷ read) item fit then = (
  fit.0,
  fit_more Fits (before ++ x ∷ []) read item fit.1
      (subst (λ (xs : List _). Fits xs item) (sym (append_assoc before (x ∷ []) read)) then),
)

pub none_fit : {A : Type 0} (Fits : List A → A → Type 0) → AllFit Fits [] []
unfolding AllFit
none_fit Fits = tt

-- ---- reading

-- the items so far are read
pub record Progress {A : Type 0} (line : A → List ℕ) (Fits : List A → A → Type 0) (text : List ℕ) (count : ℕ) (read : List A)
    (now : List ℕ) : Type 0 where
  pub found : text ≡ flat_map line read ++ now
  pub fit : AllFit Fits [] read
  pub few : length read ≡ count

pub start : {A : Type 0} (line : A → List ℕ) (Fits : List A → A → Type 0) (text : List ℕ) (read : List A) → read ≡ []
    → Progress line Fits text 0 read text
start line Fits text read none = record {
  found = ap (λ (xs : List _). flat_map line xs ++ text) (sym none);
  fit = subst (AllFit Fits []) (sym none) (none_fit Fits);
  few = ap length none;
}

pub next : {A : Type 0} (line : A → List ℕ) (Fits : List A → A → Type 0) (text : List ℕ) (count : ℕ) (read before : List A) (now : List ℕ)
    (item : A) (remaining : List ℕ) (pushed : List A) → Progress line Fits text count read now → now ≡ line item ++ remaining → before ≡ read
    → Fits before item → pushed ≡ read ++ item ∷ [] → Progress line Fits text (count + 1) pushed remaining
next line Fits text count read before now item remaining pushed p found same fits is =
    subst (λ (xs : List _). Progress line Fits text (count + 1) xs remaining) (sym is) (record {
      found = one_more line read item text now remaining p.found found;
      fit = fit_more Fits [] read item p.fit (subst (λ (xs : List _). Fits xs item) same fits);
      few = omega (arith, p.few, length-append read (item ∷ []));
    })

pub items_read : {A : Type 0} (line : A → List ℕ) (Fits : List A → A → Type 0) (text : List ℕ) (count most : ℕ) (read : List A) (now : List ℕ)
    → Progress line Fits text count read now → count ≤ most → AreItems Fits most read
items_read line Fits text count most read now p few = record { few = omega (arith, p.few, few); fit = p.fit }

-- ---- the same by the reading function

-- the same stop
pub stop_is : {A : Type 0} (r : Result A Stop) (s t : Stop) → r ≡ Err s → t ≡ s → r ≡ Err t
stop_is r s t e f = subst (λ (x : Stop). r ≡ Err x) (sym f) e

-- what reads one item
abbrev pub Reader : Type 0 → Type 0
Reader A = List A → List ℕ → Result (A × List ℕ) Stop

pub stopped : {A : Type 0} (read : Reader A) (word : List ℕ) (n : ℕ) (items : List A) (text : List ℕ)
    → starts_with nat_eq text word ≡ false → all_at read word n items text ≡ Ok (items, text)
unfolding all_at
stopped read word zero items text other = rw other refl
stopped read word (suc n) items text other = rw other refl

pub goes_on : {A : Type 0} (read : Reader A) (word : List ℕ) (n : ℕ) (items : List A) (text : List ℕ) (item : A) (rest : List ℕ)
    → starts_with nat_eq text word ≡ true → read items text ≡ Ok (item, rest)
    → all_at read word (suc n) items text ≡ all_at read word n (items ++ item ∷ []) rest
unfolding all_at
goes_on read word n items text item rest more is = rw (more, is) refl

-- so many items are read of as many as there can be
pub record Steps {A : Type 0} (read : Reader A) (word : List ℕ) (most : ℕ) (text : List ℕ) (count : ℕ) (items : List A)
    (rest : List ℕ) : Type 0 where
  pub same : all_at read word most [] text ≡ all_at read word (most - count) items rest

pub no_steps : {A : Type 0} (read : Reader A) (word : List ℕ) (most : ℕ) (text : List ℕ) (items : List A) → items ≡ []
    → Steps read word most text 0 items text
no_steps {A} read word most text items none =
    let all : most ≡ most - 0 = omega arith in
    record {
      same =
          ap (λ (k : ℕ). all_at read word k [] text) all ∙ ap (λ (xs : List A). all_at read word (most - 0) xs text) (sym none);
    }

-- a text begins with the word that an item does
pub starts_as : (text word opens : List ℕ) (r b : Bool) → r ≡ starts_with nat_eq text word → word ≡ opens → r ≡ b
    → starts_with nat_eq text opens ≡ b
starts_as text word opens r b e same is = ap (starts_with nat_eq text) (sym same) ∙ sym e ∙ is

pub one_step : {A : Type 0} (read : Reader A) (word : List ℕ) (most : ℕ) (text : List ℕ) (count : ℕ) (items before : List A) (now : List ℕ)
    (item : A) (rest : List ℕ) (pushed : List A) → Steps read word most text count items now → count < most
    → starts_with nat_eq now word ≡ true → read before now ≡ Ok (item, rest) → before ≡ items → pushed ≡ items ++ item ∷ []
    → Steps read word most text (count + 1) pushed rest
one_step read word most text count items before now item rest pushed so_far lt more is same grown =
    let left : most - count ≡ suc (most - (count + 1)) = omega (arith, lt) in
    let is' : read items now ≡ Ok (item, rest) = subst (λ (xs : List _). read xs now ≡ Ok (item, rest)) same is in
    record {
      same =
          so_far.same ∙ ap (λ (k : ℕ). all_at read word k items now) left
          ∙ goes_on read word (most - (count + 1)) items now item rest more is'
          ∙ ap (λ (xs : List _). all_at read word (most - (count + 1)) xs rest) (sym grown);
    }

-- no further item
pub steps_end : {A : Type 0} (read : Reader A) (word : List ℕ) (most : ℕ) (text : List ℕ) (count : ℕ) (items : List A) (now : List ℕ)
    → Steps read word most text count items now → starts_with nat_eq now word ≡ false → all_at read word most [] text ≡ Ok (items, now)
steps_end read word most text count items now so_far other = so_far.same ∙ stopped read word (most - count) items now other

-- an item that is not read
pub steps_fail : {A : Type 0} (read : Reader A) (word : List ℕ) (most : ℕ) (text : List ℕ) (count : ℕ) (items before : List A) (now : List ℕ)
    (stop : Stop) → Steps read word most text count items now → count < most → starts_with nat_eq now word ≡ true
    → read before now ≡ Err stop → before ≡ items → all_at read word most [] text ≡ Err stop
unfolding all_at
steps_fail read word most text count items before now stop so_far lt more is same =
    let left : most - count ≡ suc (most - (count + 1)) = omega (arith, lt) in
    let is' : read items now ≡ Err stop = subst (λ (xs : List _). read xs now ≡ Err stop) same is in
    so_far.same ∙ ap (λ (k : ℕ). all_at read word k items now) left ∙ failed (most - (count + 1)) is'
  where
    failed : (n : ℕ) → read items now ≡ Err stop → all_at read word (suc n) items now ≡ Err stop
    failed n is = rw (more, is) refl

-- one item too many
pub steps_over : {A : Type 0} (read : Reader A) (word : List ℕ) (most : ℕ) (text : List ℕ) (count : ℕ) (items : List A) (now : List ℕ)
    → Steps read word most text count items now → most ≤ count → starts_with nat_eq now word ≡ true
    → all_at read word most [] text ≡ Err (stop_at now TooMany)
unfolding all_at
steps_over read word most text count items now so_far all more =
    let left : most - count ≡ 0 = omega (arith, all) in
    so_far.same ∙ ap (λ (k : ℕ). all_at read word k items now) left ∙ rw more refl
