use Rattle.std.proofs.Common.{Bool, Ok, subst, refl, ◌∙◌}
use Rattle.std.specs.Io.KnownBytes.{prepend_known}
use Rattle.gw_script.proofs.KnownTexts.{nothing_held}
use Rattle.gw_decisions.specs.tally.Counting.{IsNext}
use Rattle.gw_decisions.proofs.tally_lemmas.CountingLemmas.{begins, ends, ends_passed, goes_on}
use Rattle.gw_decisions.proofs.tally.counting.AskCounting.count_each.Goals as goal

pub loop-number-init : goal.loop-number-init
loop-number-init g c = record {
  progress = λ text known. begins c.args.rules.now text _ _ (nothing_held _ _ text c.requires.unread known) c.requires.none;
  places = refl;
}

pub loop-number-preserved : goal.loop-number-preserved
loop-number-preserved g c =
    let left = g.R.OctetSource.left in
    let known = prepend_known c.loop-number.self.lines.unread (left c.loop-number.reader) in
    let leaves = prepend_known c.count_next.new.self.lines.unread (left c.count_next.new.reader) in record {
      progress = λ text was.
          let p = c.loop-number.invariant.progress text was in
          goes_on c.args.rules.now text c.loop-number.number known leaves c.loop-number.self.tally c.count_next.new.self.tally p
          (subst (λ (b : Bool). IsNext c.args.rules.now c.loop-number.number p.left leaves c.loop-number.self.tally c.count_next.new.self.tally (Ok b))
          c.if-not-branch.false (c.in_ok-count_next.ensures.outcome p.left p.known_is));
      places = c.count_next.ensures.places ∙ c.loop-number.invariant.places;
    }

pub returns-then-not-branch-clause-counted : goal.returns-then-not-branch-clause-counted
returns-then-not-branch-clause-counted g c = λ text was.
    let left = g.R.OctetSource.left in
    let known = prepend_known c.loop-number.self.lines.unread (left c.loop-number.reader) in
    let leaves = prepend_known c.count_next.new.self.lines.unread (left c.count_next.new.reader) in
    let p = c.loop-number.invariant.progress text was in
    ends c.args.rules.now text c.loop-number.number known leaves c.loop-number.self.tally c.count_next.new.self.tally p
    (subst (λ (b : Bool). IsNext c.args.rules.now c.loop-number.number p.left leaves c.loop-number.self.tally c.count_next.new.self.tally (Ok b))
    c.if-not-branch.true (c.in_ok-count_next.ensures.outcome p.left p.known_is))

pub returns-in_err-count_next-clause-counted : goal.returns-in_err-count_next-clause-counted
returns-in_err-count_next-clause-counted g c = λ text was.
    let left = g.R.OctetSource.left in
    let known = prepend_known c.loop-number.self.lines.unread (left c.loop-number.reader) in
    let leaves = prepend_known c.count_next.new.self.lines.unread (left c.count_next.new.reader) in
    let p = c.loop-number.invariant.progress text was in
    ends_passed c.args.rules.now text c.loop-number.number known leaves c.loop-number.self.tally c.count_next.new.self.tally p
    c.in_err-count_next.field-0.0 c.from_residual.result c.from_residual.ensures (c.in_err-count_next.ensures.outcome p.left p.known_is)
