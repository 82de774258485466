use Rattle.std.proofs.Common.{◌≡◌, ◌∙◌, ◌&&◌, ap, sym}
use Rattle.std.specs.Prelude.{not}
use Rattle.std.proofs.lemmas.Result.{IfOk-weaker}
use Rattle.gw_rules.specs.Ask.{Ask}
use Rattle.gw_rules.specs.Fields.{with_value}
use Rattle.gw_ask_sets.specs.regions.Presence.{absence, present}
use Rattle.gw_ask_sets.specs.regions.Regions.{Region, lies, lies_in_one}
use Rattle.gw_ask_sets.specs.regions.Values.{is_any}
use Rattle.gw_ask_sets.specs.declared.regions.values.Values.{Values}
use Rattle.gw_ask_sets.proofs.regions_lemmas.PresenceLaw.{meant_lacking, meant_present, meant_unsaid}
use Rattle.gw_ask_sets.proofs.regions.presence.meant_values.Goals as goal

pub returns-then-not-says_none : goal.returns-then-not-says_none
returns-then-not-says_none c =
    let shapes = c.args.shapes.now in
    let region = c.args.region.now in
    let field = c.args.field in
    IfOk-weaker c.copy.result _ _
    (λ values is. meant_unsaid shapes region field values (is ∙ c.get-here.ensures)
    (sym (ap (λ (v : Values). v.absent && not (is_any v)) c.get-here.ensures) ∙ sym c.if-not-says_none.ensures)) c.copy.ensures

pub returns-in-None : goal.returns-in-None
returns-in-None c =
    let shapes = c.args.shapes.now in
    let region = c.args.region.now in
    let field = c.args.field in
    let made : (ask : Ask) → (lies c.in_ok-lacking.lacking ask && lies_in_one shapes ask) ≡ (lies (with_value field absence region) ask && lies_in_one shapes ask) =
    λ ask. ap (λ (r : Region). lies r ask && lies_in_one shapes ask) (c.in_ok-lacking.ensures ∙ ap (λ (v : Values). with_value field v region) c.absence.ensures) in
    IfOk-weaker c.present.result _ _
    (λ values is. meant_present shapes region field values (is ∙ ap present c.get-here.ensures)
    (λ ask. sym (made ask) ∙ c.ask_within.ensures.none c.in-None.is ask)) c.present.ensures

pub returns : goal.returns
returns c =
    let shapes = c.args.shapes.now in
    let region = c.args.region.now in
    let field = c.args.field in
    let ask = c.in-Some.field-0 in
    let made : (lies c.in_ok-lacking.lacking ask && lies_in_one shapes ask) ≡ (lies (with_value field absence region) ask && lies_in_one shapes ask) =
    ap (λ (r : Region). lies r ask && lies_in_one shapes ask) (c.in_ok-lacking.ensures ∙ ap (λ (v : Values). with_value field v region) c.absence.ensures) in
    IfOk-weaker c.copy-in-Some.result _ _
    (λ values is. meant_lacking shapes region field values ask (is ∙ c.get-here.ensures) (sym made ∙ c.in-Some.ensures.some)) c.copy-in-Some.ensures
