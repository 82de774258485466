-- What `==` computes of asks and of refusals holds exactly of what is the same.
use Rattle.std.proofs.Common.{◌≡◌, ℕ, Bool, true, ◌&&◌, Option, Some, None, ◌↔◌, refl, subst, ap, nat_eq}
use Rattle.std.specs.Option.{option_eq}
use Rattle.std.proofs.lemmas.Bool.{and_parts, and_from, eqb-true, eq-eqb}
use Rattle.gw_rules.specs.declared.refusal.Refusal.{Refusal}
use Rattle.gw_rules.specs.Ask.{Ask}

-- `==` on a number or none
abbrev same : Option ℕ → Option ℕ → Bool
same a b = option_eq nat_eq a b

same_is : (a b : Option ℕ) → same a b ≡ true → a ≡ b
same_is None None t = refl
same_is None (Some n) t = absurd (cc)
same_is (Some m) None t = absurd (cc)
same_is (Some m) (Some n) t = ap (λ k. Some k) (eqb-true m n t)

is_same : (a : Option ℕ) → same a a ≡ true
is_same None = refl
is_same (Some n) = eq-eqb n n refl

-- `==` on asks
abbrev pub same_ask : Ask → Ask → Bool
same_ask a b =
    same a.operation b.operation && (same a.port b.port && (same a.source_network b.source_network && (same a.source_key b.source_key
    && (same a.destination_network b.destination_network && (same a.service b.service && (same a.object_type b.object_type
    && (same a.instance b.instance && (same a.property b.property && (same a.priority b.priority && (same a.sender b.sender && same a.station b.station))))))))))

-- an ask is its twelve fields
joined : (o p s k d v t i r y x z : Option ℕ) (b : Ask) → o ≡ b.operation → p ≡ b.port → s ≡ b.source_network → k ≡ b.source_key → d ≡ b.destination_network → v ≡ b.service → t ≡ b.object_type → i ≡ b.instance → r ≡ b.property → y ≡ b.priority → x ≡ b.sender → z ≡ b.station → ◌≡◌ {A = Ask} (record { operation = o; port = p; source_network = s; source_key = k; destination_network = d; service = v; object_type = t; instance = i; property = r; priority = y; sender = x; station = z }) b
joined o p s k d v t i r y x z b e1 e2 e3 e4 e5 e6 e7 e8 e9 e10 e11 e12 = rw (e1, e2, e3, e4, e5, e6, e7, e8, e9, e10, e11, e12) refl

same_ask_is : (a b : Ask) → same_ask a b ≡ true → a ≡ b
same_ask_is a b t =
    let p1 = and_parts _ _ t in
    let p2 = and_parts _ _ p1.1 in
    let p3 = and_parts _ _ p2.1 in
    let p4 = and_parts _ _ p3.1 in
    let p5 = and_parts _ _ p4.1 in
    let p6 = and_parts _ _ p5.1 in
    let p7 = and_parts _ _ p6.1 in
    let p8 = and_parts _ _ p7.1 in
    let p9 = and_parts _ _ p8.1 in
    let p10 = and_parts _ _ p9.1 in
    let p11 = and_parts _ _ p10.1 in
    joined a.operation a.port a.source_network a.source_key a.destination_network a.service a.object_type a.instance a.property a.priority a.sender a.station b
    (same_is a.operation b.operation p1.0)
    (same_is a.port b.port p2.0)
    (same_is a.source_network b.source_network p3.0)
    (same_is a.source_key b.source_key p4.0)
    (same_is a.destination_network b.destination_network p5.0)
    (same_is a.service b.service p6.0)
    (same_is a.object_type b.object_type p7.0)
    (same_is a.instance b.instance p8.0)
    (same_is a.property b.property p9.0)
    (same_is a.priority b.priority p10.0)
    (same_is a.sender b.sender p11.0)
    (same_is a.station b.station p11.1)

ask_is_same : (a : Ask) → same_ask a a ≡ true
ask_is_same a =
    and_from _ _ (is_same a.operation) (and_from _ _ (is_same a.port) (and_from _ _ (is_same a.source_network) (and_from _ _ (is_same a.source_key)
    (and_from _ _ (is_same a.destination_network) (and_from _ _ (is_same a.service) (and_from _ _ (is_same a.object_type)
    (and_from _ _ (is_same a.instance) (and_from _ _ (is_same a.property) (and_from _ _ (is_same a.priority)
    (and_from _ _ (is_same a.sender) (is_same a.station)))))))))))

pub asks_iff : (a b : Ask) → (same_ask a b ≡ true) ↔ (a ≡ b)
asks_iff a b = (same_ask_is a b, λ e. subst (λ x. same_ask a x ≡ true) e (ask_is_same a))

refused : (ask : Ask) (by : Option ℕ) (b : Refusal) → ask ≡ b.ask → by ≡ b.by → ◌≡◌ {A = Refusal} (record { ask = ask; by = by }) b
refused ask by b e f = rw (e, f) refl

pub refusals_iff : (a b : Refusal) → ((same_ask a.ask b.ask && same a.by b.by) ≡ true) ↔ (a ≡ b)
refusals_iff a b = (
  λ t.
      let parts = and_parts (same_ask a.ask b.ask) (same a.by b.by) t in
      refused a.ask a.by b (same_ask_is a.ask b.ask parts.0) (same_is a.by b.by parts.1),
  λ e. subst (λ x. (same_ask a.ask x.ask && same a.by x.by) ≡ true) e (and_from (same_ask a.ask a.ask) (same a.by a.by) (ask_is_same a.ask) (is_same a.by)),
)
