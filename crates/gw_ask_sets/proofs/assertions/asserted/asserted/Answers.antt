use Rattle.std.proofs.Common.{◌∙◌, ◌&&◌, List, ap, map}
use Rattle.std.specs.Prelude.{not}
use Rattle.std.proofs.lemmas.Result.{IfOk-weaker}
use Rattle.gw_configuration.specs.declared.port.Port.{Port}
use Rattle.gw_ask_sets.specs.assertions.Asserted.{enters_home}
use Rattle.gw_ask_sets.specs.regions.Regions.{lies_in_one}
use Rattle.gw_ask_sets.specs.shapes.Regions.{region_of}
use Rattle.gw_ask_sets.proofs.assertions_lemmas.AssertedLaw.{asserted_of}
use Rattle.gw_ask_sets.proofs.assertions.asserted.asserted.Goals as goal

pub returns : goal.returns
returns c =
    let home = rw (c.from.ensures, c.get.ensures.value, c.device.ensures.device) at c.in_ok-home.ensures in
    IfOk-weaker c.without_all_enters.result _ _
    (λ made is ask. asserted_of c.args.config.now made.items c.in_ok-rest.rest.items c.in_ok-regions.regions.items c.in_ok-home.home ask
    (c.in_ok-regions.ensures ∙ ap (map region_of) (c.deref.ensures.value ∙ c.in_ok-shapes.ensures)) home (c.in_ok-rest.ensures ask)
    (is ask ∙ ap (λ (ps : List Port). lies_in_one c.in_ok-rest.rest.items ask && not (enters_home 1 ps ask)) c.ports.ensures.ports))
    c.without_all_enters.ensures
