-- One field apart from the others: ranges joined and cut.
use Rattle.std.proofs.Common.{◌≡◌, ◌∙◌, sym, ap, refl, subst, ℕ, zero, suc, ◌+◌, ◌<◌, Bool, true, false, ◌&&◌, ◌||◌, List, [], ◌∷◌, ◌++◌, arith, drop, get_or, length, take, set, Option, Some, None, ◌==◌}
use Rattle.std.specs.List.{list_all, list_any}
use Rattle.std.proofs.lemmas.Bool.{eqb-true, false_from_ne_true}
use Rattle.std.proofs.lemmas.List.{length-append, length-drop, length-take, take-append-drop}
use Rattle.std.specs.Option.{IfSome}
use Rattle.std.proofs.lemmas.List.Folds.{list_any_more}
use Rattle.std.proofs.lemmas.List.Folds.{list_any-append}
use Rattle.gw_rules.specs.Ask.{Ask}
use Rattle.gw_rules.specs.Fields.{value_of, with_value}
use Rattle.gw_rules.specs.Range.{admits, holds}
use Rattle.gw_rules.specs.declared.field.FieldName.{FieldName}
use Rattle.gw_rules.specs.declared.field.FieldName.TheVariants.{Operation, Port, SourceNetwork, SourceKey, DestinationNetwork, Service, ObjectType, Instance, Property, Priority, Sender, Station}
use Rattle.gw_rules.specs.declared.field.TheConstants.FieldName.{ALL}
use Rattle.gw_rules.specs.declared.range.Range.{Range}
use Rattle.gw_ask_sets.specs.regions.Merging.{AreUnited}
use Rattle.gw_ask_sets.proofs.regions_lemmas.ComparingLaw.{all_same, every_field}
use Rattle.gw_ask_sets.proofs.regions_lemmas.MergingLaw.{either}
use Rattle.gw_ask_sets.proofs.regions_lemmas.RangeLaw.{and_none, or_none}
use Rattle.gw_policy_drafts.specs.suggestion.Own.{Group, CoverAlike, admits_but, covered, covers, covers_but}

-- ---- one field

-- the tests by which ranges cover an ask
abbrev tests : Group → Ask → List Bool
tests r ask =
    admits r.operation ask.operation
    ∷ admits r.port ask.port
    ∷ admits r.source_network ask.source_network
    ∷ admits r.source_key ask.source_key
    ∷ admits r.destination_network ask.destination_network
    ∷ admits r.service ask.service
    ∷ admits r.object_type ask.object_type
    ∷ admits r.instance ask.instance
    ∷ admits r.property ask.property
    ∷ admits r.priority ask.priority
    ∷ admits r.sender ask.sender
    ∷ admits r.station ask.station ∷ []

-- one test of many, and the others
apart : (front : List Bool) (x : Bool) (rest : List Bool) → list_all (λ t. t) (front ++ x ∷ rest) ≡ (x && list_all (λ t. t) (front ++ true ∷ rest))
apart [] x rest = refl
apart (true ∷ front) x rest = apart front x rest
apart (false ∷ front) x rest = sym (and_none x)

-- ranges cover an ask if they admit it in a field and in all others
pub covers_apart : (field : FieldName) (r : Group) (ask : Ask) → covers r ask ≡ (admits (value_of field r) (value_of field ask) && covers_but field r ask)
covers_apart Operation r ask = apart (take 0 (tests r ask)) (admits r.operation ask.operation) (drop 1 (tests r ask))
covers_apart Port r ask = apart (take 1 (tests r ask)) (admits r.port ask.port) (drop 2 (tests r ask))
covers_apart SourceNetwork r ask = apart (take 2 (tests r ask)) (admits r.source_network ask.source_network) (drop 3 (tests r ask))
covers_apart SourceKey r ask = apart (take 3 (tests r ask)) (admits r.source_key ask.source_key) (drop 4 (tests r ask))
covers_apart DestinationNetwork r ask = apart (take 4 (tests r ask)) (admits r.destination_network ask.destination_network) (drop 5 (tests r ask))
covers_apart Service r ask = apart (take 5 (tests r ask)) (admits r.service ask.service) (drop 6 (tests r ask))
covers_apart ObjectType r ask = apart (take 6 (tests r ask)) (admits r.object_type ask.object_type) (drop 7 (tests r ask))
covers_apart Instance r ask = apart (take 7 (tests r ask)) (admits r.instance ask.instance) (drop 8 (tests r ask))
covers_apart Property r ask = apart (take 8 (tests r ask)) (admits r.property ask.property) (drop 9 (tests r ask))
covers_apart Priority r ask = apart (take 9 (tests r ask)) (admits r.priority ask.priority) (drop 10 (tests r ask))
covers_apart Sender r ask = apart (take 10 (tests r ask)) (admits r.sender ask.sender) (drop 11 (tests r ask))
covers_apart Station r ask = apart (take 11 (tests r ask)) (admits r.station ask.station) (drop 12 (tests r ask))

-- and with other ranges for the field
pub covers_with : (field : FieldName) (r : Group) (v : List Range) (ask : Ask) → covers (with_value field v r) ask ≡ (admits v (value_of field ask) && covers_but field r ask)
covers_with Operation r v ask = apart (take 0 (tests r ask)) (admits v ask.operation) (drop 1 (tests r ask))
covers_with Port r v ask = apart (take 1 (tests r ask)) (admits v ask.port) (drop 2 (tests r ask))
covers_with SourceNetwork r v ask = apart (take 2 (tests r ask)) (admits v ask.source_network) (drop 3 (tests r ask))
covers_with SourceKey r v ask = apart (take 3 (tests r ask)) (admits v ask.source_key) (drop 4 (tests r ask))
covers_with DestinationNetwork r v ask = apart (take 4 (tests r ask)) (admits v ask.destination_network) (drop 5 (tests r ask))
covers_with Service r v ask = apart (take 5 (tests r ask)) (admits v ask.service) (drop 6 (tests r ask))
covers_with ObjectType r v ask = apart (take 6 (tests r ask)) (admits v ask.object_type) (drop 7 (tests r ask))
covers_with Instance r v ask = apart (take 7 (tests r ask)) (admits v ask.instance) (drop 8 (tests r ask))
covers_with Property r v ask = apart (take 8 (tests r ask)) (admits v ask.property) (drop 9 (tests r ask))
covers_with Priority r v ask = apart (take 9 (tests r ask)) (admits v ask.priority) (drop 10 (tests r ask))
covers_with Sender r v ask = apart (take 10 (tests r ask)) (admits v ask.sender) (drop 11 (tests r ask))
covers_with Station r v ask = apart (take 11 (tests r ask)) (admits v ask.station) (drop 12 (tests r ask))

-- ranges that are alike in each other field
pub same_but_law : (field : FieldName) (a b : Group) → ((k : ℕ) (d : FieldName) → k < 12 → (ask : Ask) → admits_but field (get_or ALL k d) a ask ≡ admits_but field (get_or ALL k d) b ask)
    → (ask : Ask) → covers_but field a ask ≡ covers_but field b ask
same_but_law field a b same ask =
    all_same (λ other. admits_but field other a ask) (λ other. admits_but field other b ask)
    (every_field (λ other. admits_but field other a ask ≡ admits_but field other b ask) (λ k d within. same k d within ask)) ALL

-- the ranges of two lists that each name the field
pub admits_united : (all a b : List Range) → (length all == 0) ≡ false → (length a == 0) ≡ false → (length b == 0) ≡ false → AreUnited all a b
    → (value : Option ℕ) → admits all value ≡ (admits a value || admits b value)
admits_united all a b some one two united None = ap (λ c. c || false) some ∙ sym (ap (λ c. (c || false) || (admits b None)) one ∙ ap (λ c. c || false) two)
admits_united all a b some one two united (Some n) =
    ap (λ c. c || list_any (holds n) all) some ∙ united n
    ∙ sym (ap (λ c. (c || list_any (holds n) a) || admits b (Some n)) one ∙ ap (λ c. list_any (holds n) a || (c || list_any (holds n) b)) two)

-- one in the place of two that differ in this field alone
pub joined_covers : (field : FieldName) (a b : Group) (all : List Range) (ask : Ask)
    → admits all (value_of field ask) ≡ (admits (value_of field a) (value_of field ask) || admits (value_of field b) (value_of field ask))
    → covers_but field a ask ≡ covers_but field b ask
    → covers (with_value field all a) ask ≡ (covers a ask || covers b ask)
joined_covers field a b all ask both rest =
    let x = admits (value_of field a) (value_of field ask) in
    let y = admits (value_of field b) (value_of field ask) in
    covers_with field a all ask
    ∙ ap (λ c. c && covers_but field a ask) both
    ∙ either x y (covers_but field a ask)
    ∙ ap (λ c. c || (y && covers_but field a ask)) (sym (covers_apart field a ask))
    ∙ ap (λ c. covers a ask || (y && c)) rest
    ∙ ap (λ c. covers a ask || c) (sym (covers_apart field b ask))

-- ---- lists

-- another item in the place of one
pub any_set : {A : Type 0} (test : A → Bool) (xs : List A) (i : ℕ) (d y : A) (b : Bool) → i < length xs → test y ≡ (test (get_or xs i d) || b)
    → list_any test (set xs i y) ≡ (list_any test xs || b)
any_set test [] i d y b within e = absurd (omega arith)
any_set test (x ∷ xs) zero d y b within e = ap (λ c. c || list_any test xs) e ∙ turned (test x) b (list_any test xs)
  where
    turned : (p q r : Bool) → ((p || q) || r) ≡ ((p || r) || q)
    turned true q r = refl
    turned false true true = refl
    turned false true false = refl
    turned false false true = refl
    turned false false false = refl
any_set test (x ∷ xs) (suc i) d y b within e =
    ap (λ c. test x || c) (any_set test xs i d y b (omega arith) e) ∙ regroup (test x) (list_any test xs) b
  where
    regroup : (p q r : Bool) → (p || (q || r)) ≡ ((p || q) || r)
    regroup true q r = refl
    regroup false q r = refl

-- one item more at the end
pub any_pushed : {A : Type 0} (test : A → Bool) (xs : List A) (y : A) → list_any test (xs ++ y ∷ []) ≡ (list_any test xs || test y)
any_pushed test xs y = list_any-append test xs (y ∷ []) ∙ ap (λ c. list_any test xs || c) (or_none (test y))

-- ---- ranges that are cut

suc_not_zero : (n : ℕ) → (suc n == 0) ≡ false
suc_not_zero n = false_from_ne_true (suc n == 0) (λ t. let e = eqb-true (suc n) 0 t in absurd (omega arith))

some_left : (xs : List Range) → 0 < length xs → (length xs == 0) ≡ false
some_left [] within = absurd (omega arith)
some_left (x ∷ xs) within = suc_not_zero (length xs)

parts_cover : (field : FieldName) (r : Group) (front back : List Range) (ask : Ask) → 0 < length front → 0 < length back
    → covers (with_value field (front ++ back) r) ask ≡ (covers (with_value field front r) ask || covers (with_value field back r) ask)
parts_cover field r front back ask one two =
    let x = admits front (value_of field ask) in
    let y = admits back (value_of field ask) in
    covers_with field r (front ++ back) ask
    ∙ ap (λ c. c && covers_but field r ask)
    (
    admits_united (front ++ back) front back (some_left (front ++ back) (omega (arith, one, length-append front back)))
    (some_left front one) (some_left back two) (λ n. list_any-append (holds n) front back) (value_of field ask)
    )
    ∙ either x y (covers_but field r ask)
    ∙ ap (λ c. c || (y && covers_but field r ask)) (sym (covers_with field r front ask))
    ∙ ap (λ c. covers (with_value field front r) ask || c) (sym (covers_with field r back ask))

or_regroup : (a b c : Bool) → ((a || b) || c) ≡ (a || (b || c))
or_regroup true b c = refl
or_regroup false b c = refl

-- with the ranges that it has
pub cut_begins : (field : FieldName) (r : Group) (done : List Group) (rest : List Range) (ask : Ask) → rest ≡ value_of field r
    → (covered done ask || covers (with_value field rest r) ask) ≡ (covered done ask || covers r ask)
cut_begins field r done rest ask is =
    ap (λ c. covered done ask || c)
    (ap (λ (v : List Range). covers (with_value field v r) ask) is ∙ covers_with field r (value_of field r) ask ∙ sym (covers_apart field r ask))

-- the first four are put, and the others are left
pub cut_step : (field : FieldName) (r : Group) (done new : List Group) (rest front back : List Range) (ask : Ask) (b : Bool) → 4 < length rest
    → front ≡ take 4 rest → back ≡ drop 4 rest → new ≡ done ++ with_value field front r ∷ []
    → (covered done ask || covers (with_value field rest r) ask) ≡ b → (covered new ask || covers (with_value field back r) ask) ≡ b
cut_step field r done new rest front back ask b many is others grown so_far =
    let whole : front ++ back ≡ rest = ap (λ (xs : List Range). xs ++ back) is ∙ ap (λ (xs : List Range). take 4 rest ++ xs) others ∙ take-append-drop 4 rest in
    let one : 0 < length front = omega (arith, many, ap length is, length-take 4 rest) in
    let two : 0 < length back = omega (arith, many, ap length others, length-drop 4 rest) in
    ap (λ (gs : List Group). covered gs ask || covers (with_value field back r) ask) grown
    ∙ ap (λ c. c || covers (with_value field back r) ask) (any_pushed (λ g. covers g ask) done (with_value field front r))
    ∙ or_regroup (covered done ask) (covers (with_value field front r) ask) (covers (with_value field back r) ask)
    ∙ ap (λ c. covered done ask || c) (sym (parts_cover field r front back ask one two) ∙ ap (λ (v : List Range). covers (with_value field v r) ask) whole)
    ∙ so_far

-- what is left is put
pub cut_ends : (r : Group) (done new : List Group) (ask : Ask) (b : Bool) → new ≡ done ++ r ∷ []
    → (covered done ask || covers r ask) ≡ b → covered new ask ≡ b
cut_ends r done new ask b grown so_far =
    ap (λ (gs : List Group). covered gs ask) grown ∙ any_pushed (λ g. covers g ask) done r ∙ so_far

-- ---- steps

pub alike_trans : (one two three : List Group) → CoverAlike one two → CoverAlike two three → CoverAlike one three
alike_trans one two three a b ask = b ask ∙ a ask

-- what is said of an option's item
pub some_weaker : {A : Type 0} (P Q : A → Type 0) (o : Option A) → ((x : A) → P x → Q x) → IfSome o P → IfSome o Q
some_weaker P Q None to is = tt
some_weaker P Q (Some x) to is = to x is

pub some_of : {A : Type 0} (P : A → Type 0) (o : Option A) (x : A) → o ≡ Some x → IfSome o P → P x
some_of P o x e is = subst (λ (q : Option _). IfSome q P) e is

-- one taken up more
pub covered_step : (groups : List Group) (place : ℕ) (item : Group) (done new : List Group) (ask : Ask) → place < length groups
    → covered new ask ≡ (covered done ask || covers item ask) → get_or groups place item ≡ item
    → covered done ask ≡ covered (take place groups) ask → covered new ask ≡ covered (take (place + 1) groups) ask
covered_step groups place item done new ask within grown is so_far =
    grown ∙ ap (λ b. b || covers item ask) so_far
    ∙ ap (λ (g : Group). covered (take place groups) ask || covers g ask) (sym is)
    ∙ sym (list_any_more (λ g. covers g ask) groups place item within)

-- one is put, since it isn't made one with another
pub put_last : (old now new : List Group) (made group : Group) (ask : Ask) (is_joined : Bool) → is_joined ≡ false
    → covered now ask ≡ (covered old ask || (is_joined && covers group ask)) → new ≡ now ++ made ∷ [] → made ≡ group
    → covered new ask ≡ (covered old ask || covers group ask)
put_last old now new made group ask is_joined e kept grown is =
    ap (λ (gs : List Group). covered gs ask) grown
    ∙ any_pushed (λ g. covers g ask) now made
    ∙ ap (λ b. b || covers made ask) (kept ∙ ap (λ b. covered old ask || (b && covers group ask)) e ∙ or_none (covered old ask))
    ∙ ap (λ (g : Group). covered old ask || covers g ask) is
