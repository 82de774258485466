use Rattle.std.proofs.Common.{◌∙◌, ◌++◌, ℕ, List, ap, subst, sym}
use Rattle.gw_policy_review.specs.comparison.Comparing.{IsUnderWay, Progress}
use Rattle.gw_policy_review.specs.comparison.Comparison.{AppendsComparison, AppendsCounted, AreResults, manner_of}
use Rattle.gw_policy_review.specs.comparison.PairLines.{known_of}
use Rattle.gw_policy_review.proofs.comparison.comparing.Comparing.put.Goals as goal

pub returns-clause-ok : goal.returns-clause-ok
returns-clause-ok c =
    let results = c.in_ok-results.results in
    let summary = results.summary in
    let written = c.in_ok-written.written in
    let of = subst (λ (p : Progress). IsUnderWay p → AreResults p.old_one p.new_one summary.found.items summary.left.items summary.steps (known_of results.pairs))
    (sym c.self.view_is) c.in_ok-results.ensures.results in
    subst
    (λ (p : Progress). IsUnderWay p → AppendsComparison p.old_one p.new_one (manner_of c.args.how) written.made c.args.out.now.items c.put_whole.new.out.items)
    c.self.view_is
    (λ was.
    let is = c.in_ok-written.ensures (of was) in (
      written.text.items,
      is.0,
      c.in_ok-put_whole.ensures.ok ∙ ap (λ (text : List ℕ). c.args.out.now.items ++ text) c.deref.ensures.value,
    ))

pub returns-clause-counted : goal.returns-clause-counted
returns-clause-counted c =
    let results = c.in_ok-results.results in
    let summary = results.summary in
    let written = c.in_ok-written.written in
    let of = subst (λ (p : Progress). IsUnderWay p → AreResults p.old_one p.new_one summary.found.items summary.left.items summary.steps (known_of results.pairs))
    (sym c.self.view_is) c.in_ok-results.ensures.results in
    let same = c.in_ok-results.ensures.steps in
    subst
    (λ (p : Progress). IsUnderWay p → AppendsCounted p.old_one p.new_one (manner_of c.args.how) written.made c.args.self.steps c.args.out.now.items c.put_whole.new.out.items)
    c.self.view_is
    (λ was.
    let is = c.in_ok-written.ensures (of was) in (
      written.text.items,
      is.0,
      is.1 ∙ same,
      c.in_ok-put_whole.ensures.ok ∙ ap (λ (text : List ℕ). c.args.out.now.items ++ text) c.deref.ensures.value,
    ))
