use Rattle.std.proofs.Common.{◌∙◌, ◌&&◌, ◌+◌, List, ap, sym, refl}
use Rattle.std.specs.Prelude.{not}
use Rattle.std.proofs.lemmas.List.{drop_all}
use Rattle.gw_configuration.specs.declared.port.Port.{Port}
use Rattle.gw_ask_sets.specs.assertions.Asserted.{enters_home}
use Rattle.gw_ask_sets.specs.regions.Regions.{lies_in_one}
use Rattle.gw_ask_sets.proofs.assertions_lemmas.GrowingLaw.{enters_next}
use Rattle.gw_ask_sets.proofs.regions_lemmas.RangeLaw.{and_all}
use Rattle.gw_ask_sets.proofs.assertions.asserted.without_all_enters.Goals as goal

pub loop-place-preserved : goal.loop-place-preserved
loop-place-preserved c = λ ask.
    enters_next c.args.ports.now c.loop-place.place _ c.index-ports-place.result ask (lies_in_one c.loop-place.rest.items ask) _ _
    c.loop-place-test.true c.index-ports-place.is refl (c.in_ok-rest.ensures ask) (c.loop-place.invariant ask)

pub returns : goal.returns
returns c = λ ask.
    sym (and_all (lies_in_one c.loop-place.rest.items ask))
    ∙ ap (λ (ps : List Port). lies_in_one c.loop-place.rest.items ask && not (enters_home (1 + c.loop-place.place) ps ask))
    (sym (drop_all c.loop-place.place c.args.ports.now c.loop-place-test.false))
    ∙ c.loop-place.invariant ask
