use Rattle.std.proofs.Common.{◌≡◌, ℕ, ◌+◌, ◌-◌, ◌<◌, Some, None, sym, ap, ◌∙◌, cond, eqb, arith}
use Rattle.std.specs.Option.{option_map}
use Rattle.std.proofs.lemmas.Bool.{ne_eqb, eq-eqb}
use Rattle.gw_codecs.specs.tags.internal.Element.{element_view}
use Rattle.gw_codecs.specs.tags.Walk.{closing_at}
use Rattle.gw_codecs.proofs.tags_lemmas.Walks.{loop_nothing, loop_value, loop_deep, loop_list, loop_bad_list, loop_closing, no_fuel}
use Rattle.gw_codecs.proofs.tags.list.+close.Goals as goal
use Rattle.gw_codecs.proofs.tags.list.+close.Goals.{in-Value, in-Opened-2+in-Some-close}

pub returns-in_default : goal.returns-in_default
returns-in_default t c = loop_nothing c.args.fuel c.loop-done.done c.args.depth c.args.number c.loop-done.rest.now _ c.loop-done-test.true c.loop-done.invariant (sym c.element.ensures ∙ ap (option_map element_view) c.in_default.is)

pub returns-in-Opened : goal.returns-in-Opened
returns-in-Opened t c = loop_deep c.args.fuel c.loop-done.done c.args.number _ c.loop-done.rest.now _ _ c.loop-done-test.true (ap (λ (d : ℕ). closing_at (c.args.fuel - c.loop-done.done) d c.args.number c.loop-done.rest.now) (sym c.if-depth-eq0.true) ∙ c.loop-done.invariant) (sym c.in-Some.ensures ∙ ap (λ x. Some (element_view x)) c.in-Opened.is)

pub returns-in_default-close : goal.returns-in_default-close
returns-in_default-close t c =
    let some : 0 < c.args.depth = omega arith in
    loop_bad_list c.args.fuel c.loop-done.done c.args.depth c.args.number _ c.loop-done.rest.now _ _ c.loop-done-test.true some c.loop-done.invariant (sym c.in-Some.ensures ∙ ap (λ x. Some (element_view x)) c.in-Opened-2.is) (sym c.close.ensures ∙ ap (option_map (λ x. (x.0.now, x.1.now))) c.in_default-close.is)

pub returns-then-closed-number : goal.returns-then-closed-number
returns-then-closed-number t c =
    let same : eqb c.in-Closed.closed c.args.number ≡ _ = eq-eqb _ _ c.if-closed-number.true in
    ap (λ b. cond b (Some (c.loop-done.rest.now, c.in-Closed.behind.now)) None) (sym same)
    ∙ loop_closing c.args.fuel c.loop-done.done c.args.depth c.args.number c.in-Closed.closed c.loop-done.rest.now c.in-Closed.behind.now _ c.loop-done-test.true c.loop-done.invariant (sym c.in-Some.ensures ∙ ap (λ x. Some (element_view x)) c.in-Closed.is)

pub returns-else-closed-number : goal.returns-else-closed-number
returns-else-closed-number t c =
    let same : eqb c.in-Closed.closed c.args.number ≡ _ = ne_eqb _ _ c.if-closed-number.false in
    ap (λ b. cond b (Some (c.loop-done.rest.now, c.in-Closed.behind.now)) None) (sym same)
    ∙ loop_closing c.args.fuel c.loop-done.done c.args.depth c.args.number c.in-Closed.closed c.loop-done.rest.now c.in-Closed.behind.now _ c.loop-done-test.true c.loop-done.invariant (sym c.in-Some.ensures ∙ ap (λ x. Some (element_view x)) c.in-Closed.is)

pub loop-done-preserved : goal.loop-done-preserved
loop-done-preserved t c =
    let more : c.args.fuel - (c.loop-done.done + 1) ≡ c.args.fuel - c.loop-done.done - 1 = omega arith in
    elim c.match-found.branch [
      | in-Value w ↦
          ap (λ r. closing_at (c.args.fuel - (c.loop-done.done + 1)) c.args.depth c.args.number r.now) w.rest-is
          ∙ ap (λ (k : ℕ). closing_at k c.args.depth c.args.number w.in-Value.behind.now) more
          ∙ loop_value c.args.fuel c.loop-done.done c.args.depth c.args.number c.loop-done.rest.now _ _ c.loop-done-test.true c.loop-done.invariant (sym c.in-Some.ensures ∙ ap (λ x. Some (element_view x)) w.in-Value.is)
      | in-Opened-2+in-Some-close w ↦
          let some : 0 < c.args.depth = omega arith in
          ap (λ r. closing_at (c.args.fuel - (c.loop-done.done + 1)) c.args.depth c.args.number r.now) w.rest-is
          ∙ ap (λ (k : ℕ). closing_at k c.args.depth c.args.number w.in-Some-close.further.now) more
          ∙ loop_list c.args.fuel c.loop-done.done c.args.depth c.args.number _ c.loop-done.rest.now _ _ _ c.loop-done-test.true some c.loop-done.invariant (sym c.in-Some.ensures ∙ ap (λ x. Some (element_view x)) w.in-Opened-2.is) (sym w.close.ensures ∙ ap (option_map (λ x. (x.0.now, x.1.now))) w.in-Some-close.is)
    ]

pub returns : goal.returns
returns t c =
    let none : c.args.fuel - c.loop-done.done ≡ 0 = omega arith in
    sym (no_fuel c.args.depth c.args.number c.loop-done.rest.now) ∙ ap (λ (k : ℕ). closing_at k c.args.depth c.args.number c.loop-done.rest.now) (sym none) ∙ c.loop-done.invariant
