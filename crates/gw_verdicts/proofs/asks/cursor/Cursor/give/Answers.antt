use Rattle.std.proofs.Common.{◌∙◌, ◌+◌, ◌≤◌, ◌<◌, ◌++◌, ℕ, List, Option, length, take, drop, sym, subst, arith}
use Rattle.std.specs.Prelude.{option_map, slice_set}
use Rattle.std.specs.Io.KnownBytes.{prepend_known}
use Rattle.std.proofs.lemmas.Bool.Decides.{nat_tests}
use Rattle.gw_verdicts.specs.declared.asks.cursor.LinePlace.{LinePlace}
use Rattle.gw_verdicts.specs.declared.asks.cursor.LinePlace.TheVariants.{Start, Fields}
use Rattle.gw_verdicts.specs.asks.Position.{GivesFront, IsPlaced, Position, rest_at, rest_of}
use Rattle.gw_verdicts.proofs.asks_lemmas.StepLemmas.{copied, emptied, gives_feed, gives_own, one_set}
use Rattle.gw_verdicts.proofs.asks.cursor.Cursor.give.Goals as goal

pub returns-then-is_empty-2-clause-front : goal.returns-then-is_empty-2-clause-front
returns-then-is_empty-2-clause-front c =
    let next = c.in-Fields.next in
    let len = c.in-Fields.len in
    let span = c.in-Fields.span in
    let unread = c.self.inside.lines.unread in
    let n = c.self.inside.unread in
    let after = c.consume.new.self.unread in
    let buffer = c.args.buffer.now in
    let given = take 1 (slice_set buffer 0 10) in
    let some : 0 < length buffer = grind (arith, nat_tests, c.is_empty.ensures, c.if-is_empty.false) in
    let none = emptied next c.front.result.now (take len unread) c.front.ensures (sym c.if-is_empty-2.true ∙ c.is_empty-2.ensures) in
    let placed : IsPlaced (Fields next len span) unread = subst (λ (place : LinePlace). IsPlaced place unread) c.in-Fields.is c.self.invariant in
    subst (λ (p : Position). (left : Option (List ℕ)) → GivesFront (rest_at p left) (option_map (rest_of Start n) (prepend_known after left)) given)
    c.self.view_is
    (λ left.
    subst (λ (place : LinePlace). GivesFront (option_map (rest_of place n) (prepend_known unread left)) (option_map (rest_of Start n) (prepend_known after left)) given)
    (sym c.in-Fields.is)
    (gives_feed left n next len span unread after given placed.1 placed.2 none (one_set buffer some) c.consume.ensures.unread))

pub returns-clause-front : goal.returns-clause-front
returns-clause-front c =
    let next = c.in-Fields.next in
    let len = c.in-Fields.len in
    let span = c.in-Fields.span in
    let unread = c.self.inside.lines.unread in
    let n = c.self.inside.unread in
    let count = c.min-count.result in
    let buffer = c.args.buffer.now in
    let copy = c.copy_from_slice.new.self in
    let given = take count (copy ++ drop count buffer) in
    let room : count ≤ length buffer = omega (arith, c.min-count.ensures) in
    let is = copied count next copy buffer c.front.result.now (take len unread) (drop count buffer) c.copy_from_slice.ensures.len room
    c.copy_from_slice.ensures.after c.front.ensures in
    let placed : IsPlaced (Fields next len span) unread = subst (λ (place : LinePlace). IsPlaced place unread) c.in-Fields.is c.self.invariant in
    let new = Fields (next + count) len span in
    subst (λ (p : Position). (left : Option (List ℕ)) → GivesFront (rest_at p left) (option_map (rest_of new n) (prepend_known unread left)) given)
    c.self.view_is
    (λ left.
    subst (λ (place : LinePlace). GivesFront (option_map (rest_of place n) (prepend_known unread left)) (option_map (rest_of new n) (prepend_known unread left)) given)
    (sym c.in-Fields.is)
    (gives_own left n next len span count unread given placed.1 is))
