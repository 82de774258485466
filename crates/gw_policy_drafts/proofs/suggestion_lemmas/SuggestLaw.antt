-- What is allowed with suggested rules in front.
use Rattle.std.proofs.Common.{◌≡◌, ◌≢◌, ◌∙◌, sym, ap, refl, subst, ℕ, Bool, true, false, cond, ◌&&◌, ◌||◌, List, [], ◌∷◌, ◌++◌, Option, Some, None, nat_le, length, arith, ◌+◌, ◌<◌, get_or, take}
use Rattle.std.specs.Prelude.{Any, not, if◌then◌else◌, nat_eq, ◌==◌}
use Rattle.std.specs.List.{Contains, flat_map, list_all, list_any}
use Rattle.std.specs.Option.{option_eq, option_map_or}
use Rattle.std.proofs.lemmas.Bool.{and_parts, and_from, both_ways, eq-eqb, leb-true, le-leb}
use Rattle.std.proofs.lemmas.List.Folds.{Any-from_list_any, list_all-append, list_any-append, list_any_at, list_any_more}
use Rattle.gw_rules.specs.Ask.{Ask}
use Rattle.gw_rules.specs.Fields.{value_of}
use Rattle.gw_rules.specs.Range.{admits}
use Rattle.gw_rules.specs.Rule.{matches}
use Rattle.gw_rules.specs.RuleList.{allows}
use Rattle.gw_rules.specs.declared.field.FieldName.{FieldName}
use Rattle.gw_rules.specs.declared.field.FieldName.TheVariants.{Operation, Port, SourceNetwork, SourceKey, DestinationNetwork, Service, ObjectType, Instance, Property, Priority, Sender, Station}
use Rattle.gw_rules.specs.declared.rule.Rule.{Rule}
use Rattle.gw_rules.proofs.EachField.{each_field_at, each_field_from}
use Rattle.gw_ask_sets.specs.regions.Deciding.{decided}
use Rattle.gw_ask_sets.proofs.regions_lemmas.AllowsLaw.{decided_allows}
use Rattle.gw_policy_drafts.specs.suggestion.Given.{HaveSame, akin, filled, filled_from, is_none, is_open, lacks_for, lacks_property, of_both, taken}
use Rattle.gw_policy_drafts.specs.suggestion.Laws.{AllowsEach, AllowsNoOther, AllowsWhatMatches, FillsNoOther, HasValuesOf, OpensNothing}
use Rattle.gw_policy_drafts.specs.suggestion.Own.{Group, covered, covers, is_reading, own_ranges, own_rule, own_service, own_values}
use Rattle.gw_policy_drafts.proofs.suggestion_lemmas.GroupLaw.{any_pushed}
use Rattle.gw_policy_drafts.specs.suggestion.Suggestion.{IsSuggestion, matched, matched_own, wanted}
use Rattle.gw_policy_drafts.specs.declared.suggestion.suggestion.Manner.{Manner}

-- a rule matches what its ranges cover
pub matches_covers : (rule : Rule) (ask : Ask) → matches rule ask ≡ covers rule.ranges ask
unfolding matches
matches_covers rule ask = refl

-- ---- rules in front

in_front : (suggested old : List Rule) (ask : Ask) → list_all (λ rule. rule.allow) suggested ≡ true
    → decided (suggested ++ old) false ask ≡ (matched suggested ask || decided old false ask)
in_front [] old ask e = refl
in_front (rule ∷ rules) old ask e =
    let parts = and_parts rule.allow (list_all (λ r. r.allow) rules) e in by parts.0 (in_front rules old ask parts.1) (matches rule ask)
  where
    by : rule.allow ≡ true → decided (rules ++ old) false ask ≡ (matched rules ask || decided old false ask) → (m : Bool)
        → (if m then rule.allow else decided (rules ++ old) false ask) ≡ ((m || matched rules ask) || decided old false ask)
    by allowed rest true = allowed
    by allowed rest false = rest

kept_allow : (kept left : List Rule) → list_all (λ rule. rule.allow) (kept ++ left) ≡ true → list_all (λ rule. rule.allow) kept ≡ true
kept_allow kept left e =
    (and_parts (list_all (λ (r : Rule). r.allow) kept) (list_all (λ (r : Rule). r.allow) left)
    (sym (list_all-append (λ (r : Rule). r.allow) kept left) ∙ e)).0

pub allows_what_matches : AllowsWhatMatches
allows_what_matches keeps asks kept left old ask is =
    sym (decided_allows (kept ++ old) ask) ∙ in_front kept old ask (kept_allow kept left is.allow)
    ∙ ap (λ b. matched kept ask || b) (decided_allows old ask)

-- ---- an own rule

own_admits : (value : Option ℕ) → admits (own_values value) value ≡ true
own_admits None = refl
own_admits (Some n) = by (nat_le n n) (le-leb n n (omega arith))
  where
    by : (b : Bool) → b ≡ true → ((b && b) || false) ≡ true
    by true e = refl
    by false e = e

service_admits : (keeps : Bool) (ask : Ask) → admits (own_service keeps ask) ask.service ≡ true
service_admits keeps ask = by (keeps || not (is_reading ask))
  where
    by : (b : Bool) → admits (if b then own_values ask.service else []) ask.service ≡ true
    by true = own_admits ask.service
    by false = refl

own_at : (keeps : Bool) (ask : Ask) (field : FieldName) → admits (value_of field (own_ranges keeps ask)) (value_of field ask) ≡ true
unfolding own_ranges
own_at keeps ask Operation = own_admits ask.operation
own_at keeps ask Port = own_admits ask.port
own_at keeps ask SourceNetwork = own_admits ask.source_network
own_at keeps ask SourceKey = own_admits ask.source_key
own_at keeps ask DestinationNetwork = own_admits ask.destination_network
own_at keeps ask Service = service_admits keeps ask
own_at keeps ask ObjectType = own_admits ask.object_type
own_at keeps ask Instance = own_admits ask.instance
own_at keeps ask Property = own_admits ask.property
own_at keeps ask Priority = own_admits ask.priority
own_at keeps ask Sender = own_admits ask.sender
own_at keeps ask Station = own_admits ask.station

-- an ask matches its own rule
pub own_matches : (keeps : Bool) (ask : Ask) → matches (own_rule keeps ask) ask ≡ true
own_matches keeps ask =
    matches_covers (own_rule keeps ask) ask
    ∙ each_field_from (λ field. admits (value_of field (own_ranges keeps ask)) (value_of field ask)) (own_at keeps ask)

-- the value of a field that is named
own_value : (mine value : Option ℕ) (number : ℕ) → admits (own_values mine) value ≡ true → mine ≡ Some number → value ≡ Some number
own_value None value number t e = absurd (cc)
own_value (Some n) None number t e = absurd (both_ways false refl t)
own_value (Some n) (Some m) number t e = by (nat_le n m) (nat_le m n) refl refl t
  where
    by : (p q : Bool) → nat_le n m ≡ p → nat_le m n ≡ q → ((p && q) || false) ≡ true → Some m ≡ Some number
    by true true ep eq one =
        let u = leb-true n m ep in let v = leb-true m n eq in
        let same : m ≡ n = omega arith in ap (λ k. Some k) same ∙ e
    by true false ep eq one = absurd (both_ways false refl one)
    by false q ep eq one = absurd (both_ways false refl one)

others_of : (keeps : Bool) (given ask : Ask) (field : FieldName) (number : ℕ) → field ≢ Service
    → admits (value_of field (own_ranges keeps given)) (value_of field ask) ≡ true
    → value_of field given ≡ Some number → value_of field ask ≡ Some number
unfolding own_ranges
others_of keeps given ask Operation number not_it t e = own_value given.operation ask.operation number t e
others_of keeps given ask Port number not_it t e = own_value given.port ask.port number t e
others_of keeps given ask SourceNetwork number not_it t e = own_value given.source_network ask.source_network number t e
others_of keeps given ask SourceKey number not_it t e = own_value given.source_key ask.source_key number t e
others_of keeps given ask DestinationNetwork number not_it t e = own_value given.destination_network ask.destination_network number t e
others_of keeps given ask Service number not_it t e = absurd (not_it refl)
others_of keeps given ask ObjectType number not_it t e = own_value given.object_type ask.object_type number t e
others_of keeps given ask Instance number not_it t e = own_value given.instance ask.instance number t e
others_of keeps given ask Property number not_it t e = own_value given.property ask.property number t e
others_of keeps given ask Priority number not_it t e = own_value given.priority ask.priority number t e
others_of keeps given ask Sender number not_it t e = own_value given.sender ask.sender number t e
others_of keeps given ask Station number not_it t e = own_value given.station ask.station number t e

service_of : (keeps : Bool) (given ask : Ask) (number : ℕ) → (keeps || not (is_reading given)) ≡ true
    → admits (value_of Service (own_ranges keeps given)) ask.service ≡ true → given.service ≡ Some number → ask.service ≡ Some number
unfolding own_ranges
service_of keeps given ask number named t e =
    own_value given.service ask.service number
    (sym (ap (λ (b : Bool). admits (if b then own_values given.service else []) ask.service) named) ∙ t) e

-- what matches an own rule has the values of its ask
pub has_values : (keeps : Bool) (given ask : Ask) → matches (own_rule keeps given) ask ≡ true → HasValuesOf keeps given ask
has_values keeps given ask t =
    let at = each_field_at (λ field. admits (value_of field (own_ranges keeps given)) (value_of field ask)) (sym (matches_covers (own_rule keeps given) ask) ∙ t) in
    record {
      others = λ field number not_it e. others_of keeps given ask field number not_it (at field) e;
      service = λ number named e. service_of keeps given ask number named (at Service) e;
    }

-- ---- the laws

any_weaker : {A : Type 0} (P Q : A → Type 0) (xs : List A) → ((x : A) → P x → Q x) → Any P xs → Any Q xs
any_weaker P Q xs to any = (any.0, any.1, any.2, any.3, to any.1 any.4)

left_false : (a b : Bool) → (a || b) ≡ true → b ≡ false → a ≡ true
left_false true b e f = refl
left_false false b e f = absurd (both_ways b f e)

newly : (keeps : Bool) (asks : List Ask) (kept left old : List Rule) (ask : Ask) → IsSuggestion keeps asks (kept ++ left)
    → allows (kept ++ old) ask ≡ true → allows old ask ≡ false → matched_own keeps asks ask ≡ true
newly keeps asks kept left old ask is t f =
    sym (is.exact ask) ∙ list_any-append (λ rule. matches rule ask) kept left
    ∙ ap (λ b. b || matched left ask)
    (left_false (matched kept ask) (allows old ask) (sym (allows_what_matches keeps asks kept left old ask is) ∙ t) f)

pub allows_no_other : AllowsNoOther
allows_no_other keeps asks kept left old ask is t f =
    any_weaker (λ given. matches (own_rule keeps given) ask ≡ true) (λ given. HasValuesOf keeps given ask) asks
    (λ given. has_values keeps given ask)
    (Any-from_list_any (λ given. matches (own_rule keeps given) ask) asks (newly keeps asks kept left old ask is t f))

-- ---- what is filled

one_if : (test : Ask → Bool) (b : Bool) (x : Ask) (rest : Bool)
    → (list_any test (if b then x ∷ [] else []) || rest) ≡ ((b && test x) || rest)
one_if test true x rest = by (test x)
  where
    by : (t : Bool) → ((t || false) || rest) ≡ (t || rest)
    by true = refl
    by false = refl
one_if test false x rest = refl

pub fills_from : (test : Ask → Bool) (a : Ask) (given : List Ask)
    → list_any test (filled_from given a) ≡ list_any (λ b. akin a b && test (of_both a b)) given
fills_from test a [] = refl
fills_from test a (b ∷ given) =
    list_any-append test (if akin a b then of_both a b ∷ [] else []) (filled_from given a)
    ∙ one_if test (akin a b) (of_both a b) (list_any test (filled_from given a))
    ∙ ap (λ c. (akin a b && test (of_both a b)) || c) (fills_from test a given)

fills_part : (test : Ask → Bool) (given all : List Ask)
    → list_any test (flat_map (filled_from all) given) ≡ list_any (λ a. list_any (λ b. akin a b && test (of_both a b)) all) given
fills_part test [] all = refl
fills_part test (a ∷ given) all =
    list_any-append test (filled_from all a) (flat_map (filled_from all) given)
    ∙ ap (λ c. c || list_any test (flat_map (filled_from all) given)) (fills_from test a all)
    ∙ ap (λ c. list_any (λ b. akin a b && test (of_both a b)) all || c) (fills_part test given all)

pub fills_exactly : (test : Ask → Bool) (given : List Ask)
    → list_any test (filled given) ≡ list_any (λ a. list_any (λ b. akin a b && test (of_both a b)) given) given
fills_exactly test given = fills_part test given given

-- ---- those that have rules

-- one of those passes that have rules: one passes that has one
any_taken : (test : Ask → Bool) (asks : List Ask)
    → list_any test (taken asks) ≡ list_any (λ given. not (is_open given) && test given) asks
any_taken test [] = refl
any_taken test (ask ∷ asks) = by (not (is_open ask)) (any_taken test asks)
  where
    by : (b : Bool) → list_any test (taken asks) ≡ list_any (λ given. not (is_open given) && test given) asks
        → list_any test (cond b (ask ∷ taken asks) (taken asks))
        ≡ ((b && test ask) || list_any (λ given. not (is_open given) && test given) asks)
    by true rest = ap (λ c. test ask || c) rest
    by false rest = rest

-- one that passes is one that has a rule, and passes
taken_passes : (test : Ask → Bool) (asks : List Ask) → list_any test (taken asks) ≡ true
    → Any (λ given. (not (is_open given) ≡ true) × (test given ≡ true)) asks
taken_passes test asks t =
    any_weaker (λ given. (not (is_open given) && test given) ≡ true)
    (λ given. (not (is_open given) ≡ true) × (test given ≡ true)) asks
    (λ given both. and_parts (not (is_open given)) (test given) both)
    (Any-from_list_any (λ given. not (is_open given) && test given) asks (sym (any_taken test asks) ∙ t))

-- one of all passes then
passes_all : (test : Ask → Bool) (asks : List Ask) → list_any test (taken asks) ≡ true → list_any test asks ≡ true
passes_all test asks t =
    let any = taken_passes test asks t in
    list_any_at test asks any.0 any.1 any.2 (ap test any.3 ∙ any.4.1)

kept_value : (a b : Option ℕ) → ((n : ℕ) → a ≡ Some n → b ≡ Some n) → is_none a ≡ false → is_none b ≡ false
kept_value None b to e = absurd (both_ways true e refl)
kept_value (Some n) b to e = ap is_none (to n refl)

neither : (a b : Bool) → (a || b) ≡ false → (a ≡ false) × (b ≡ false)
neither true b e = absurd (both_ways true e refl)
neither false b e = (refl, e)

-- an ask that has what another one names isn't open if that one isn't
stays_closed : (given ask : Ask) → ((field : FieldName) (n : ℕ) → field ≢ Service → value_of field given ≡ Some n → value_of field ask ≡ Some n)
    → is_open given ≡ false → is_open ask ≡ false
stays_closed given ask to closed = by given.operation refl closed
  where
    property : lacks_property given ≡ false → lacks_property ask ≡ false
    property e =
        let first = neither (is_none given.object_type) (is_none given.instance || is_none given.property) e in
        let others = neither (is_none given.instance) (is_none given.property) first.1 in
        or_from (is_none ask.object_type) (is_none ask.instance || is_none ask.property)
        (kept_value given.object_type ask.object_type (λ n. to ObjectType n (λ e. cc)) first.0)
        (or_from (is_none ask.instance) (is_none ask.property)
        (kept_value given.instance ask.instance (λ n. to Instance n (λ e. cc)) others.0)
        (kept_value given.property ask.property (λ n. to Property n (λ e. cc)) others.1))
      where
        or_from : (a b : Bool) → a ≡ false → b ≡ false → (a || b) ≡ false
        or_from true b e f = e
        or_from false b e f = f

    lacks : (n : ℕ) → lacks_for n given ≡ false → lacks_for n ask ≡ false
    lacks n = at (n == 9) (n == 10)
      where
        at : (reads writes : Bool) → (if reads then lacks_property given else if writes then lacks_property given || is_none given.priority else false) ≡ false
            → (if reads then lacks_property ask else if writes then lacks_property ask || is_none ask.priority else false) ≡ false
        at true writes e = property e
        at false true e =
            let parts = neither (lacks_property given) (is_none given.priority) e in
            ap (λ b. b || is_none ask.priority) (property parts.0)
            ∙ kept_value given.priority ask.priority (λ n. to Priority n (λ e. cc)) parts.1
        at false false e = refl

    by : (operation : Option ℕ) → given.operation ≡ operation → option_map_or (λ n. lacks_for n given) operation true ≡ false → is_open ask ≡ false
    by None e isnt = absurd (both_ways true isnt refl)
    by (Some n) e isnt = ap (λ (o : Option ℕ). option_map_or (λ m. lacks_for m ask) o true) (to Operation n (λ s. cc) e) ∙ lacks n isnt

not_open : (b : Bool) → not b ≡ true → b ≡ false
not_open true e = absurd (both_ways false refl e)
not_open false e = refl

pub opens_nothing : OpensNothing
opens_nothing manner asks kept left old ask is t f =
    let own : Ask → Bool = λ given. matches (own_rule manner.keeps_services given) ask in
    let there = newly manner.keeps_services (wanted manner asks) kept left old ask is t f in
    let any = taken_passes own (if manner.fills then filled asks else asks) there in
    let given = any.1 in
    stays_closed given ask (has_values manner.keeps_services given ask any.4.1).others (not_open (is_open given) any.4.0)

pub fills_no_other : FillsNoOther
fills_no_other keeps asks kept left old ask is t f =
    let own : Ask → Bool = λ given. matches (own_rule keeps given) ask in
    any_weaker (λ a. list_any (λ b. akin a b && own (of_both a b)) asks ≡ true)
    (λ a. Any (λ b. (akin a b ≡ true) × HasValuesOf keeps (of_both a b) ask) asks) asks
    (λ a any.
    any_weaker (λ b. (akin a b && own (of_both a b)) ≡ true) (λ b. (akin a b ≡ true) × HasValuesOf keeps (of_both a b) ask) asks
    (λ b both. let parts = and_parts (akin a b) (own (of_both a b)) both in (parts.0, has_values keeps (of_both a b) ask parts.1))
    (Any-from_list_any (λ b. akin a b && own (of_both a b)) asks any))
    (Any-from_list_any (λ a. list_any (λ b. akin a b && own (of_both a b)) asks) asks
    (sym (fills_exactly own asks) ∙ passes_all own (filled asks) (newly keeps (taken (filled asks)) kept left old ask is t f)))

same_self : (value : Option ℕ) → option_eq nat_eq value value ≡ true
same_self None = refl
same_self (Some n) = eq-eqb n n refl

akin_self : (ask : Ask) → akin ask ask ≡ true
akin_self ask =
    and_from _ _ (same_self ask.operation) (and_from _ _ (same_self ask.port) (and_from _ _ (same_self ask.source_network)
    (and_from _ _ (same_self ask.source_key) (and_from _ _ (same_self ask.destination_network) (and_from _ _ (same_self ask.service)
    (and_from _ _ (same_self ask.sender) (same_self ask.station)))))))

passes_at : (test : Ask → Bool) (asks : List Ask) (ask : Ask) → Contains asks ask → test ask ≡ true → list_any test asks ≡ true
passes_at test asks ask there t = list_any_at test asks there.0 ask there.1 (ap test there.2 ∙ t)

wanted_passes : (manner : Manner) (fills : Bool) (test : Ask → Bool) (asks : List Ask) (ask : Ask) → manner.fills ≡ fills → Contains asks ask
    → test ask ≡ true → list_any test (if fills then filled asks else asks) ≡ true
wanted_passes manner true test asks ask e there t =
    fills_exactly test asks
    ∙ passes_at (λ a. list_any (λ b. akin a b && test (of_both a b)) asks) asks ask there
    (passes_at (λ b. akin ask b && test (of_both ask b)) asks ask there (and_from _ _ (akin_self ask) t))
wanted_passes manner false test asks ask e there t = passes_at test asks ask there t

or_between : (a b c : Bool) → (a || c) ≡ true → ((a || b) || c) ≡ true
or_between true b c e = refl
or_between false true c e = refl
or_between false false c e = e

pub allows_each : AllowsEach
allows_each manner asks kept left old ask is there has =
    let keeps = manner.keeps_services in
    let own : Ask → Bool = λ given. matches (own_rule keeps given) ask in
    ap (λ b. b || matched left ask) (allows_what_matches keeps (wanted manner asks) kept left old ask is)
    ∙ or_between (matched kept ask) (allows old ask) (matched left ask)
    (sym (list_any-append (λ rule. matches rule ask) kept left) ∙ is.exact ask ∙ any_taken own (if manner.fills then filled asks else asks)
    ∙ wanted_passes manner manner.fills (λ given. not (is_open given) && own given) asks ask refl there
    (and_from (not (is_open ask)) (own ask) (ap not has) (own_matches keeps ask)))

-- ---- what is wanted

pub wants_more : (manner : Manner) (asks more : List Ask) (rules : List Rule) → manner.fills ≡ true → HaveSame more (filled asks)
    → IsSuggestion manner.keeps_services (taken more) rules → IsSuggestion manner.keeps_services (wanted manner asks) rules
wants_more manner asks more rules e same is =
    subst (λ (b : Bool). IsSuggestion manner.keeps_services (taken (if b then filled asks else asks)) rules) (sym e) (
    record {
      exact = λ ask. let own : Ask → Bool = λ given. matches (own_rule manner.keeps_services given) ask in
          is.exact ask ∙ any_taken own more ∙ same (λ given. not (is_open given) && own given)
          ∙ sym (any_taken own (filled asks));
      allow = is.allow;
    }
    )

pub wants_these : (manner : Manner) (asks : List Ask) (rules : List Rule) → manner.fills ≡ false
    → IsSuggestion manner.keeps_services (taken asks) rules → IsSuggestion manner.keeps_services (wanted manner asks) rules
wants_these manner asks rules e is =
    subst (λ (b : Bool). IsSuggestion manner.keeps_services (taken (if b then filled asks else asks)) rules) (sym e) is

-- ---- one rule more

pub pushed_rule : (rules new : List Rule) (rule : Rule) (group : Group) (ask : Ask) → new ≡ rules ++ rule ∷ [] → rule.ranges ≡ group
    → matched new ask ≡ (matched rules ask || covers group ask)
pushed_rule rules new rule group ask grown ranges =
    ap (λ (rs : List Rule). matched rs ask) grown
    ∙ any_pushed (λ r. matches r ask) rules rule
    ∙ ap (λ b. matched rules ask || b) (matches_covers rule ask ∙ ap (λ (g : Group). covers g ask) ranges)

pub pushed_allow : (rules new : List Rule) (rule : Rule) → new ≡ rules ++ rule ∷ [] → rule.allow ≡ true
    → list_all (λ r. r.allow) rules ≡ true → list_all (λ r. r.allow) new ≡ true
pushed_allow rules new rule grown allow all =
    ap (list_all (λ (r : Rule). r.allow)) grown ∙ pushed rules all
  where
    pushed : (rs : List Rule) → list_all (λ r. r.allow) rs ≡ true → list_all (λ r. r.allow) (rs ++ rule ∷ []) ≡ true
    pushed [] e = and_from rule.allow true allow refl
    pushed (r ∷ rs) e =
        let parts = and_parts r.allow (list_all (λ q. q.allow) rs) e in
        and_from r.allow (list_all (λ q. q.allow) (rs ++ rule ∷ [])) parts.0 (pushed rs parts.1)

-- the ranges of one ask more
pub own_step : (keeps : Bool) (asks : List Ask) (place : ℕ) (d : Ask) (groups new : List Group) (made : Group) (ask : Ask) → place < length asks
    → new ≡ groups ++ made ∷ [] → made ≡ own_ranges keeps (get_or asks place d)
    → covered groups ask ≡ matched_own keeps (take place asks) ask
    → covered new ask ≡ matched_own keeps (take (place + 1) asks) ask
own_step keeps asks place d groups new made ask within grown is so_far =
    let one = get_or asks place d in
    ap (λ (gs : List Group). covered gs ask) grown
    ∙ any_pushed (λ g. covers g ask) groups made
    ∙ ap (λ b. b || covers made ask) so_far
    ∙ ap (λ b. matched_own keeps (take place asks) ask || b)
    (ap (λ (g : Group). covers g ask) is ∙ sym (matches_covers (own_rule keeps one) ask))
    ∙ sym (list_any_more (λ given. matches (own_rule keeps given) ask) asks place d within)

pub rules_step : (groups : List Group) (place : ℕ) (item : Group) (rules new : List Rule) (ask : Ask) → place < length groups
    → matched new ask ≡ (matched rules ask || covers item ask) → get_or groups place item ≡ item
    → matched rules ask ≡ covered (take place groups) ask → matched new ask ≡ covered (take (place + 1) groups) ask
rules_step groups place item rules new ask within grown is so_far =
    grown ∙ ap (λ b. b || covers item ask) so_far
    ∙ ap (λ (g : Group). covered (take place groups) ask || covers g ask) (sym is)
    ∙ sym (list_any_more (λ g. covers g ask) groups place item within)
