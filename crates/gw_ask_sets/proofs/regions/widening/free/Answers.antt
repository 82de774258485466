use Rattle.std.proofs.Common.{◌≡◌, ◌∙◌, ◌&&◌, ◌||◌, ap, false, subst, sym}
use Rattle.gw_rules.specs.Ask.{Ask}
use Rattle.gw_rules.specs.Fields.{with_value}
use Rattle.gw_ask_sets.specs.regions.Merging.{IsWide}
use Rattle.gw_ask_sets.specs.regions.Regions.{Region, lies, lies_in_one}
use Rattle.gw_ask_sets.specs.regions.Values.{has}
use Rattle.gw_ask_sets.specs.declared.regions.values.Values.{Values}
use Rattle.gw_ask_sets.proofs.regions_lemmas.WideningLaw.{freed}
use Rattle.gw_ask_sets.proofs.regions.widening.free.Goals as goal

pub returns-in-None : goal.returns-in-None
returns-in-None c =
    let shapes = c.args.shapes.now in
    let region = c.args.region.now in
    let field = c.args.field in
    let rest = c.in_ok-rest.rest in
    let none : (ask : Ask) → (lies (with_value field rest region) ask && lies_in_one shapes ask) ≡ false =
    λ ask. ap (λ (r : Region). lies r ask && lies_in_one shapes ask) (sym c.in_ok-beyond.ensures) ∙ c.ask_within.ensures.none c.in-None.is ask in
    subst (λ (r : Region). IsWide shapes region r) (sym c.set.ensures)
    (freed shapes field region rest c.in_ok-wide.wide
    (λ v. c.in_ok-wide.ensures v ∙ ap (λ (w : Values). has w v || has rest v) c.get-here.ensures) none)
