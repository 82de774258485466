-- What is asked of a body that is read a reference at a time.
use Rattle.std.proofs.Common.{◌≡◌, ◌∙◌, sym, ap, refl, ℕ, ◌-◌, Bool, true, false, ◌&&◌, List, [], ◌∷◌, ◌++◌, append_assoc, Option, Result, Ok, Err}
use Rattle.std.specs.Prelude.{is_ok}
use Rattle.gw_rules.specs.Ask.{Ask}
use Rattle.gw_rules.specs.RuleList.{allows}
use Rattle.gw_rules.specs.declared.rule.Rule.{Rule}
use Rattle.gw_rules.specs.declared.verdict.Verdict.{Verdict}
use Rattle.gw_codecs.specs.services.Multi.{Reference}
use Rattle.gw_codecs.specs.services.MultiReading.{and_more, finished, more_at, references_at, step_at, walked}
use Rattle.gw_codecs.specs.declared.services.fault.BodyFault.{BodyFault}
use Rattle.gw_codecs.proofs.services_lemmas.MultiWalk.{walk}
use Rattle.gw_codecs.specs.tags.Object.{Object}
use Rattle.gw_relay.specs.Named.{multi_asks, reference_ask}
use Rattle.gw_relay.specs.internal.Taken.{AreAsked}

-- ---- whether it is read

pub unread : (left : ℕ) (current : Option Object) (octets : List ℕ) (fault : BodyFault) → step_at left current octets ≡ Err fault
    → is_ok (references_at left current octets) ≡ false
unread left current octets fault e = ap is_ok (walk left current octets ∙ ap (walked left) e)

pub read_last : (left : ℕ) (current : Option Object) (octets : List ℕ) (r : Reference) → step_at left current octets ≡ Ok (r, finished)
    → is_ok (references_at left current octets) ≡ true
read_last left current octets r e = ap is_ok (walk left current octets ∙ ap (walked left) e)

more_ok : (r : Reference) (x : Result (List Reference) BodyFault) → is_ok (and_more r x) ≡ is_ok x
more_ok r (Ok rs) = refl
more_ok r (Err fault) = refl

pub read_more : (left : ℕ) (current place : Option Object) (octets rest : List ℕ) (r : Reference)
    → step_at left current octets ≡ Ok (r, more_at place rest)
    → is_ok (references_at left current octets) ≡ is_ok (references_at (left - 1) place rest)
read_more left current place octets rest r e =
    ap is_ok (walk left current octets ∙ ap (walked left) e) ∙ more_ok r (references_at (left - 1) place rest)

-- ---- what is asked

pub last_asks : (route : Ask) (left : ℕ) (current : Option Object) (octets : List ℕ) (r : Reference)
    → step_at left current octets ≡ Ok (r, finished) → multi_asks route (references_at left current octets) ≡ reference_ask route r ∷ []
last_asks route left current octets r e = ap (multi_asks route) (walk left current octets ∙ ap (walked left) e)

asks_behind : (route : Ask) (r : Reference) (x : Result (List Reference) BodyFault) → is_ok x ≡ true
    → multi_asks route (and_more r x) ≡ reference_ask route r ∷ multi_asks route x
asks_behind route r (Ok rs) is = refl
asks_behind route r (Err fault) is = cc

pub more_asks : (route : Ask) (left : ℕ) (current place : Option Object) (octets rest : List ℕ) (r : Reference)
    → step_at left current octets ≡ Ok (r, more_at place rest) → is_ok (references_at left current octets) ≡ true
    → multi_asks route (references_at left current octets)
    ≡ reference_ask route r ∷ multi_asks route (references_at (left - 1) place rest)
more_asks route left current place octets rest r e is =
    ap (multi_asks route) (walk left current octets ∙ ap (walked left) e)
    ∙ asks_behind route r (references_at (left - 1) place rest) (sym (read_more left current place octets rest r e) ∙ is)

-- ---- whether it is allowed

and-true : (b : Bool) → b ≡ (b && true)
and-true true = refl
and-true false = refl

-- one ask that is put
pub asked_one : {A : Type 0} (kept : A → List Verdict) (kept_of : List Rule → List Ask → List Verdict)
    (rules : List Rule) (ask : Ask) (old new : A) (b : Bool)
    → b ≡ allows rules ask → kept new ≡ kept old ++ kept_of rules (ask ∷ [])
    → AreAsked kept kept_of rules (ask ∷ []) old new b
asked_one kept kept_of rules ask old new b is asked = record { answer = is ∙ and-true (allows rules ask); verdicts = asked }

-- and others after it
pub asked_behind : {A : Type 0} (kept : A → List Verdict) (kept_of : List Rule → List Ask → List Verdict)
    → ((rules : List Rule) (one two : List Ask) → kept_of rules (one ++ two) ≡ kept_of rules one ++ kept_of rules two)
    → (rules : List Rule) (ask : Ask) (asks : List Ask) (old mid new : A) (b c : Bool)
    → b ≡ allows rules ask → kept mid ≡ kept old ++ kept_of rules (ask ∷ []) → AreAsked kept kept_of rules asks mid new c
    → AreAsked kept kept_of rules (ask ∷ asks) old new (b && c)
asked_behind kept kept_of both rules ask asks old mid new b c is asked behind = record {
  answer = rw (is, behind.answer) refl;
  verdicts = behind.verdicts ∙ ap (λ (l : List Verdict). l ++ kept_of rules asks) asked
      ∙ append_assoc (kept old) (kept_of rules (ask ∷ [])) (kept_of rules asks)
      ∙ ap (λ (l : List Verdict). kept old ++ l) (sym (both rules (ask ∷ []) asks));
}
