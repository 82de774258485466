use Rattle.std.proofs.Common.{rules, ◌≡◌, ◌*◌, ◌∙◌, ap, pos, ℤ, ◌+ℤ◌, subst, sym, to_z, of_z, true, false}
use Rattle.std.specs.Int.{w128}
use Rattle.jiff_core.specs.DateTime.{IsCivilNanos, civil_nanos}
use Rattle.gw_log_words.proofs.MomentLemmas.{none_later, year_later}
use Rattle.gw_log_words.proofs.moment.Moment.later.Goals as goal

pub invariant_of-result : goal.invariant_of-result
invariant_of-result c =
    let added : to_z w128 (of_z w128 c.nanoseconds_of.result) ≡ pos (c.args.ticks * 1000000000) = search rules in
    record {
      year = year_later c.in-Ok.local c.args.self.local (c.args.ticks * 1000000000)
          (c.in-Ok.ensures.value ∙ ap (λ (z : ℤ). civil_nanos c.args.self.local +ℤ z) added) c.args.self.year;
    }

pub returns-in-Err : goal.returns-in-Err
returns-in-Err c = λ m later.
    let added : to_z w128 (of_z w128 c.nanoseconds_of.result) ≡ pos (c.args.ticks * 1000000000) = search rules in
    let bad : false ≡ true = c.in-Err.ensures.succeeds.1 (
    subst (λ (z : ℤ). IsCivilNanos (civil_nanos c.args.self.local +ℤ z)) (sym added)
    (none_later c.args.self c.args.ticks m later)
    ) in
    absurd cc
