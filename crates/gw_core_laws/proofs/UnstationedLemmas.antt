-- Rules that say nothing of who sent a datagram, nor of the station that it names, judge an ask as they judge it without them.
use Rattle.std.proofs.Common.{◌≡◌, ◌∙◌, sym, ap, ap₂, refl, ℕ, ◌+◌, Bool, true, false, cond, not, ◌&&◌, nat_lt, List, [], ◌∷◌, length, map, filter, Option, Some, None}
use Rattle.std.specs.List.{AllByRecursion, list_all, position_or_len}
use Rattle.std.specs.Option.{option_map, option_map_or}
use Rattle.gw_audit.specs.declared.denial.Denial.{Denial}
use Rattle.gw_rules.specs.Ask.{Ask}
use Rattle.gw_rules.specs.Authorizer.{denied_of, refusal}
use Rattle.gw_rules.specs.Fields.{value_of}
use Rattle.gw_rules.specs.Range.{admits}
use Rattle.gw_rules.specs.Rule.{matches, ranges_of}
use Rattle.gw_rules.specs.RuleList.{allows, allows_at, first, is_logged, is_quiet_by}
use Rattle.gw_rules.specs.declared.field.FieldName.{FieldName}
use Rattle.gw_rules.specs.declared.field.FieldName.TheVariants.{Operation, Port, SourceNetwork, SourceKey, DestinationNetwork, Service, ObjectType, Instance, Property, Priority, Sender, Station}
use Rattle.gw_rules.specs.declared.field.TheConstants.FieldName.{ALL}
use Rattle.gw_rules.specs.declared.range.Range.{Range}
use Rattle.gw_rules.specs.declared.refusal.Refusal.{Refusal}
use Rattle.gw_rules.specs.declared.rule.Rule.{Rule}
use Rattle.gw_core.specs.Denials.{denials_from, denials_of, rule_name}
use Rattle.gw_core.specs.Receive.{Origin, source_of}
use Rattle.gw_core_laws.specs.FormatThree.{NameNoStation, unstationed, unstationed_denial}

-- ---- one rule

-- whether each field is admitted, with these answers for the two
test_with : Rule → Ask → Bool → Bool → FieldName → Bool
test_with rule ask sender station Operation = admits (ranges_of Operation rule) (value_of Operation ask)
test_with rule ask sender station Port = admits (ranges_of Port rule) (value_of Port ask)
test_with rule ask sender station SourceNetwork = admits (ranges_of SourceNetwork rule) (value_of SourceNetwork ask)
test_with rule ask sender station SourceKey = admits (ranges_of SourceKey rule) (value_of SourceKey ask)
test_with rule ask sender station DestinationNetwork = admits (ranges_of DestinationNetwork rule) (value_of DestinationNetwork ask)
test_with rule ask sender station Service = admits (ranges_of Service rule) (value_of Service ask)
test_with rule ask sender station ObjectType = admits (ranges_of ObjectType rule) (value_of ObjectType ask)
test_with rule ask sender station Instance = admits (ranges_of Instance rule) (value_of Instance ask)
test_with rule ask sender station Property = admits (ranges_of Property rule) (value_of Property ask)
test_with rule ask sender station Priority = admits (ranges_of Priority rule) (value_of Priority ask)
test_with rule ask sender station Sender = sender
test_with rule ask sender station Station = station

matched : (rule : Rule) (ask : Ask) → ranges_of Sender rule ≡ [] → ranges_of Station rule ≡ []
    → matches rule ask ≡ list_all (test_with rule ask true true) ALL
unfolding matches test_with
matched rule ask s t =
    ap₂ (λ (x y : List Range). list_all (test_with rule ask (admits x (value_of Sender ask)) (admits y (value_of Station ask))) ALL) s t

unmatched_by : (rule : Rule) (ask : Ask) → ranges_of Sender rule ≡ [] → ranges_of Station rule ≡ []
    → matches rule ask ≡ matches rule (unstationed ask)
unfolding test_with
unmatched_by rule ask s t = matched rule ask s t ∙ sym (matched rule (unstationed ask) s t)

-- ---- the first rule

same_place : (f g : Rule → Bool) (rules : List Rule) → AllByRecursion (λ rule. f rule ≡ g rule) rules
    → position_or_len f rules ≡ position_or_len g rules
same_place f g [] each = refl
same_place f g (rule ∷ rules) each =
    ap₂ (λ (b : Bool) (n : ℕ). cond (not b) (1 + n) 0) each.0 (same_place f g rules each.1)

each_matched : (rules : List Rule) (ask : Ask) → NameNoStation rules
    → AllByRecursion (λ rule. matches rule ask ≡ matches rule (unstationed ask)) rules
each_matched [] ask none = tt
each_matched (rule ∷ rules) ask none = (unmatched_by rule ask none.0.0 none.0.1, each_matched rules ask none.1)

pub first_alike : (rules : List Rule) → NameNoStation rules → (ask : Ask) → first rules ask ≡ first rules (unstationed ask)
unfolding first
first_alike rules none ask =
    ap (λ (n : ℕ). option_map (λ place. place + 1) (cond (nat_lt n (length rules)) (Some n) None))
    (same_place (λ rule. matches rule ask) (λ rule. matches rule (unstationed ask)) rules (each_matched rules ask none))

pub allowed_alike : (rules : List Rule) → NameNoStation rules → (ask : Ask) → allows rules ask ≡ allows rules (unstationed ask)
unfolding allows
allowed_alike rules none ask =
    ap (λ (number : Option ℕ). option_map_or (allows_at rules) number false) (first_alike rules none ask)

pub logged_alike : (rules : List Rule) → NameNoStation rules → (ask : Ask) → is_logged rules ask ≡ is_logged rules (unstationed ask)
logged_alike rules none ask =
    ap₂ (λ (allowed : Bool) (by : Option ℕ). not allowed && not (is_quiet_by rules by)) (allowed_alike rules none ask) (first_alike rules none ask)

-- ---- lists of asks

pub all_alike : (rules : List Rule) → NameNoStation rules → (asks : List Ask)
    → list_all (allows rules) asks ≡ list_all (allows rules) (map unstationed asks)
all_alike rules none [] = refl
all_alike rules none (ask ∷ asks) = ap₂ (λ (a b : Bool). a && b) (allowed_alike rules none ask) (all_alike rules none asks)

-- a refusal without the two fields
abbrev pub unstationed_refusal : Refusal → Refusal
unstationed_refusal r = record r { ask = unstationed r.ask }

-- a refusal of this ask by the rule of this number
abbrev refused_by : Ask → Option ℕ → Refusal
refused_by ask by = record { ask = ask; by = by }

-- the denial of this ask by the rule of this number
abbrev denied_by : List Rule → ℕ → ℕ → Origin → Ask → Option ℕ → Denial
denied_by rules number tick from ask by = record {
  number = number;
  tick = tick;
  port = from.port;
  source = source_of from ask;
  ask = unstationed ask;
  rule = rule_name rules by;
}

module _ (rules : List Rule) (none : NameNoStation rules) where
  one_refused : (b : Bool) (ask : Ask) (xs ys : List Ask) → map unstationed_refusal (map (refusal rules) xs) ≡ map (refusal rules) ys
      → map unstationed_refusal (map (refusal rules) (cond b (ask ∷ xs) xs)) ≡ map (refusal rules) (cond b (unstationed ask ∷ ys) ys)
  one_refused false ask xs ys same = same
  one_refused true ask xs ys same =
      ap₂ (λ (by : Option ℕ) (l : List Refusal). refused_by (unstationed ask) by ∷ l) (first_alike rules none ask) same

  pub denied_alike : (asks : List Ask) → map unstationed_refusal (denied_of rules asks) ≡ denied_of rules (map unstationed asks)
  denied_alike [] = refl
  denied_alike (ask ∷ asks) =
      let xs = filter (is_logged rules) asks in
      let ys = filter (is_logged rules) (map unstationed asks) in
      one_refused (is_logged rules ask) ask xs ys (denied_alike asks)
      ∙ ap (λ (b : Bool). map (refusal rules) (cond b (unstationed ask ∷ ys) ys)) (logged_alike rules none ask)

  -- ---- their record

  recorded : (number tick : ℕ) (from : Origin) (refusals : List Refusal)
      → map unstationed_denial (denials_from rules number tick from refusals) ≡ denials_from rules number tick from (map unstationed_refusal refusals)
  recorded number tick from [] = refl
  recorded number tick from (r ∷ refusals) =
      ap (λ (l : List Denial). denied_by rules number tick from r.ask r.by ∷ l) (recorded (number + 1) tick from refusals)

  recorded_of : (number tick : ℕ) (from : Option Origin) (refusals : List Refusal)
      → map unstationed_denial (denials_of rules number tick from refusals) ≡ denials_of rules number tick from (map unstationed_refusal refusals)
  recorded_of number tick None refusals = refl
  recorded_of number tick (Some from) refusals = recorded number tick from refusals

  -- the denials of asks are those of the asks without the two fields, but for these
  pub denials_alike : (number tick : ℕ) (from : Option Origin) (asks : List Ask)
      → map unstationed_denial (denials_of rules number tick from (denied_of rules asks))
      ≡ denials_of rules number tick from (denied_of rules (map unstationed asks))
  denials_alike number tick from asks =
      recorded_of number tick from (denied_of rules asks)
      ∙ ap (λ (r : List Refusal). denials_of rules number tick from r) (denied_alike asks)
