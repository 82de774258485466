use Rattle.std.proofs.Common.{◌≡◌, ℕ, ◌+◌, List, length, take, drop, sym, subst, ◌∙◌, arith}
use Rattle.std.specs.Prelude.{IsSomeAnd}
use Rattle.std.specs.Fmt.{decimal}
use Rattle.std.proofs.lemmas.Bool.{false≢true}
use Rattle.gw_addr.proofs.Lacking.{begins_with_octet, not_there}
use Rattle.gw_addr.proofs.digits.octet_before.Goals as goal

pub returns-then-stands_at-clause-only : goal.returns-then-stands_at-clause-only
returns-then-stands_at-clause-only c = λ n rest small e.
    let text = c.args.text.now in
    let begins = begins_with_octet text n c.args.separator rest small c.requires e in
    let here = c.stands_at.ensures.0 c.if-stands_at.true in
    let least = begins.first 1 here.1 in
    let len : length (decimal n) ≡ 1 = omega (arith, begins.least, least) in
    let front : take 1 text ≡ decimal n = subst (λ (k : ℕ). take k text ≡ decimal n) len begins.front in
    let behind : drop 2 text ≡ rest = subst (λ (k : ℕ). drop (k + 1) text ≡ rest) len begins.behind in
    subst (λ (r : List ℕ). IsSomeAnd c.octet_to.result (λ x. (x.0 ≡ n) × (x.1.now ≡ r))) behind (c.octet_to.ensures.only n small front)

pub returns-then-stands_at-2-clause-only : goal.returns-then-stands_at-2-clause-only
returns-then-stands_at-2-clause-only c = λ n rest small e.
    let text = c.args.text.now in
    let begins = begins_with_octet text n c.args.separator rest small c.requires e in
    let here = c.stands_at-2.ensures.0 c.if-stands_at-2.true in
    let least = begins.first 2 here.1 in
    let past_1 = not_there text n c.args.separator rest 1 begins (λ h. false≢true (sym c.if-stands_at.false ∙ c.stands_at.ensures.1 h)) in
    let len : length (decimal n) ≡ 2 = omega (arith, begins.least, least, past_1) in
    let front : take 2 text ≡ decimal n = subst (λ (k : ℕ). take k text ≡ decimal n) len begins.front in
    let behind : drop 3 text ≡ rest = subst (λ (k : ℕ). drop (k + 1) text ≡ rest) len begins.behind in
    subst (λ (r : List ℕ). IsSomeAnd c.octet_to-then-stands_at-2.result (λ x. (x.0 ≡ n) × (x.1.now ≡ r))) behind (c.octet_to-then-stands_at-2.ensures.only n small front)

pub returns-then-stands_at-3-clause-only : goal.returns-then-stands_at-3-clause-only
returns-then-stands_at-3-clause-only c = λ n rest small e.
    let text = c.args.text.now in
    let begins = begins_with_octet text n c.args.separator rest small c.requires e in
    let here = c.stands_at-3.ensures.0 c.if-stands_at-3.true in
    let least = begins.first 3 here.1 in
    let past_1 = not_there text n c.args.separator rest 1 begins (λ h. false≢true (sym c.if-stands_at.false ∙ c.stands_at.ensures.1 h)) in
    let past_2 = not_there text n c.args.separator rest 2 begins (λ h. false≢true (sym c.if-stands_at-2.false ∙ c.stands_at-2.ensures.1 h)) in
    let len : length (decimal n) ≡ 3 = omega (arith, begins.least, least, past_1, past_2) in
    let front : take 3 text ≡ decimal n = subst (λ (k : ℕ). take k text ≡ decimal n) len begins.front in
    let behind : drop 4 text ≡ rest = subst (λ (k : ℕ). drop (k + 1) text ≡ rest) len begins.behind in
    subst (λ (r : List ℕ). IsSomeAnd c.octet_to-then-stands_at-3.result (λ x. (x.0 ≡ n) × (x.1.now ≡ r))) behind (c.octet_to-then-stands_at-3.ensures.only n small front)

pub returns-clause-only : goal.returns-clause-only
returns-clause-only c = λ n rest small e.
    let text = c.args.text.now in
    let begins = begins_with_octet text n c.args.separator rest small c.requires e in
    let past_1 = not_there text n c.args.separator rest 1 begins (λ h. false≢true (sym c.if-stands_at.false ∙ c.stands_at.ensures.1 h)) in
    let past_2 = not_there text n c.args.separator rest 2 begins (λ h. false≢true (sym c.if-stands_at-2.false ∙ c.stands_at-2.ensures.1 h)) in
    let past_3 = not_there text n c.args.separator rest 3 begins (λ h. false≢true (sym c.if-stands_at-3.false ∙ c.stands_at-3.ensures.1 h)) in
    omega (arith, begins.least, begins.most, past_1, past_2, past_3)
