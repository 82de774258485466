use Rattle.std.proofs.Common.{Bool, List, ℕ, Ok, subst, refl, ◌∙◌}
use Rattle.std.specs.Io.KnownBytes.{prepend_known}
use Rattle.gw_script.proofs.KnownTexts.{nothing_held}
use Rattle.gw_replay.specs.Decisions.{IsNext}
use Rattle.gw_replay.proofs.CountingLemmas.{begins, ends, goes_on}
use Rattle.gw_replay.proofs.counting.ScriptCounting.count_each.Goals as goal

pub loop-number-init : goal.loop-number-init
loop-number-init g c = record {
  progress = λ text known. begins c.args.announces c.args.ports c.args.self.now.gateway text c.args.self.now.tally _
      (nothing_held _ _ text c.requires.unread known);
  rules = refl;
  places = refl;
}

pub loop-number-preserved : goal.loop-number-preserved
loop-number-preserved g c =
    let left = g.R.OctetSource.left in
    let now = c.loop-number.self in
    let later = c.count_next.new.self in
    let known = prepend_known now.lines.unread (left c.loop-number.reader) in
    let leaves = prepend_known later.lines.unread (left c.count_next.new.reader) in record {
      progress = λ text was.
          let p = c.loop-number.invariant.progress text was in
          goes_on c.args.announces c.args.ports c.args.self.now.gateway text c.args.self.now.tally known leaves now.gateway later.gateway now.tally later.tally p
          (subst (λ (b : Bool). IsNext c.args.announces c.args.ports p.left leaves now.gateway later.gateway now.tally later.tally (Ok b))
          c.if-not-branch.false (c.in_ok-count_next.ensures.outcome p.left p.known_is));
      rules = c.count_next.ensures.rules ∙ c.loop-number.invariant.rules;
      places = c.count_next.ensures.places ∙ c.loop-number.invariant.places;
    }

pub returns-then-not-branch-clause-counted : goal.returns-then-not-branch-clause-counted
returns-then-not-branch-clause-counted g c = λ text was.
    let left = g.R.OctetSource.left in
    let now = c.loop-number.self in
    let later = c.count_next.new.self in
    let known = prepend_known now.lines.unread (left c.loop-number.reader) in
    let leaves = prepend_known later.lines.unread (left c.count_next.new.reader) in
    let p = c.loop-number.invariant.progress text was in
    ends c.args.announces c.args.ports c.args.self.now.gateway text c.args.self.now.tally known leaves now.gateway later.gateway now.tally later.tally p
    (subst (λ (b : Bool). IsNext c.args.announces c.args.ports p.left leaves now.gateway later.gateway now.tally later.tally (Ok b))
    c.if-not-branch.true (c.in_ok-count_next.ensures.outcome p.left p.known_is))
