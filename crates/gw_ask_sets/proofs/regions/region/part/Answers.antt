use Rattle.std.proofs.Common.{sym, subst}
use Rattle.gw_rules.specs.declared.field.TheConstants.FieldName.{ALL}
use Rattle.gw_rules.specs.declared.rule.Rule.{Rule}
use Rattle.gw_ask_sets.specs.regions.Regions.{IsParted, Region, pieces}
use Rattle.gw_ask_sets.proofs.regions_lemmas.RegionLaw.{is_parted}
use Rattle.gw_ask_sets.proofs.regions_lemmas.TidyLaw.{parted_tidied}
use Rattle.gw_ask_sets.proofs.regions.region.part.Goals as goal

pub returns : goal.returns
returns c =
    let rule = c.in_ok-tidy.tidy in
    let region = c.args.region.now in
    let outer = pieces ALL rule region in
    let parted = subst (λ (within : Region). IsParted rule region within outer) (sym c.in_ok-part_fields.ensures.inside) (is_parted rule region) in
    let same = subst (λ (r : Rule). IsParted r region c.part_fields.new.region outer) c.in_ok-tidy.ensures parted in
    record { parted = (outer, c.in_ok-part_fields.ensures.pieces, parted_tidied c.args.rule.now region c.part_fields.new.region outer same) }
