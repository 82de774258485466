use Rattle.std.proofs.Common.{Bool, Ok, subst}
use Rattle.std.specs.Io.KnownBytes.{prepend_known}
use Rattle.gw_script.proofs.KnownTexts.{nothing_held}
use Rattle.gw_policy_drafts.specs.suggestion.Lines.{TakesNext}
use Rattle.gw_policy_drafts.proofs.suggestion_lemmas.LinesLaw.{begins, ends, goes_on}
use Rattle.gw_policy_drafts.proofs.suggestion.reading.LinesRead.take_each.Goals as goal

pub loop-number-init : goal.loop-number-init
loop-number-init g c = λ log known.
    begins c.args.rules.now log _ _ (nothing_held _ _ log c.requires.unread known) c.requires.none

pub loop-number-preserved : goal.loop-number-preserved
loop-number-preserved g c = λ log known.
    let rules = c.args.rules.now in
    let left = prepend_known c.loop-number.self.lines.unread (g.R.OctetSource.left c.loop-number.reader) in
    let new = prepend_known c.take_next.new.self.lines.unread (g.R.OctetSource.left c.take_next.new.reader) in
    let before = c.loop-number.self.seen.given in
    let after = c.take_next.new.self.seen.given in
    goes_on rules log left new before after (c.loop-number.invariant log known)
    (λ text is. subst (λ (b : Bool). TakesNext rules text new before after (Ok b)) c.if-not-branch.false (c.in_ok-take_next.ensures text is))

pub returns-then-not-branch : goal.returns-then-not-branch
returns-then-not-branch g c = λ log known.
    let rules = c.args.rules.now in
    let left = prepend_known c.loop-number.self.lines.unread (g.R.OctetSource.left c.loop-number.reader) in
    let new = prepend_known c.take_next.new.self.lines.unread (g.R.OctetSource.left c.take_next.new.reader) in
    let before = c.loop-number.self.seen.given in
    let after = c.take_next.new.self.seen.given in
    ends rules log left new before after (c.loop-number.invariant log known)
    (λ text is. subst (λ (b : Bool). TakesNext rules text new before after (Ok b)) c.if-not-branch.true (c.in_ok-take_next.ensures text is))
