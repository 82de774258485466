use Rattle.std.proofs.Common.{◌≡◌, ◌∙◌, ◌≤◌, ◌++◌, [], ℕ, List, Some, length, drop, sym, ap, subst, arith}
use Rattle.gw_script.specs.Reader.{BeginsLong}
use Rattle.gw_verdicts.specs.declared.asks.cursor.LinePlace.{LinePlace}
use Rattle.gw_verdicts.specs.declared.asks.cursor.LinePlace.TheVariants.{Passed}
use Rattle.gw_verdicts.specs.asks.Position.{GivesFront, IsBetween, Position, rest_at, rest_of}
use Rattle.gw_verdicts.proofs.asks_lemmas.StepLemmas.{passes_between, passes_first}
use Rattle.gw_verdicts.proofs.asks.cursor.Cursor.pass_long.Goals as goal

pub returns-in-Start : goal.returns-in-Start
returns-in-Start c =
    let count = c.long_front-count.result in
    let unread = c.self.inside.lines.unread in
    let n = c.self.inside.unread in
    let more = c.saturating_add-self-inside.result in
    let after = c.consume.new.self.unread in
    let same = c.long_front-count.ensures.same in
    let taken : after ≡ drop count unread = c.consume.ensures.unread ∙ ap (drop count) same in
    let within : count ≤ length unread = omega (arith, c.long_front-count.ensures.within, ap length same) in
    subst
    (λ (p : Position). (rest : List ℕ) → BeginsLong (p.lines.unread ++ rest) → GivesFront (rest_at p (Some rest)) (Some (rest_of Passed more (after ++ rest))) [])
    c.self.view_is
    (λ rest long.
    subst (λ (place : LinePlace). GivesFront (Some (rest_of place n (unread ++ rest))) (Some (rest_of Passed more (after ++ rest))) [])
    (sym c.in-Start.is)
    (passes_first n count unread after rest taken within c.long_front-count.ensures.most long more c.saturating_add-self-inside.ensures))

pub returns-in_default : goal.returns-in_default
returns-in_default c =
    let count = c.long_front-count.result in
    let unread = c.self.inside.lines.unread in
    let n = c.self.inside.unread in
    let place = c.self.inside.place in
    let after = c.consume.new.self.unread in
    let same = c.long_front-count.ensures.same in
    let taken : after ≡ drop count unread = c.consume.ensures.unread ∙ ap (drop count) same in
    let within : count ≤ length unread = omega (arith, c.long_front-count.ensures.within, ap length same) in
    let between : IsBetween place = subst (λ (p : Position). IsBetween p.place) (sym c.self.view_is) c.requires in
    subst
    (λ (p : Position). (rest : List ℕ) → BeginsLong (p.lines.unread ++ rest) → GivesFront (rest_at p (Some rest)) (Some (rest_of place n (after ++ rest))) [])
    c.self.view_is
    (λ rest long. passes_between n count unread after rest taken within c.long_front-count.ensures.most long place between c.in_default.not-Start)
