use Rattle.std.proofs.Common.{◌&&◌, [], inl, refl, sym}
use Rattle.std.proofs.lemmas.Bool.{and_from, both_ways}
use Rattle.std.proofs.lemmas.List.{append-nil}
use Rattle.gw_ask_sets.specs.regions.Regions.{lies, lies_in_one}
use Rattle.gw_ask_sets.proofs.regions.comparing.settle.Goals as goal

pub returns-in-None : goal.returns-in-None
returns-in-None c =
    let region = c.args.region in
    let shapes = c.args.policies.now.shapes.now in
    record {
      more = [];
      back = [];
      becomes = inl (
        (λ ask in_shape there. absurd (both_ways (lies region ask && lies_in_one shapes ask) (c.ask_within.ensures.none c.in-None.is ask)
            (and_from (lies region ask) (lies_in_one shapes ask) there in_shape))),
        refl,
        refl,
      );
      found = sym (append-nil c.args.comparison.now.found.items);
      left = sym (append-nil c.args.comparison.now.left.items);
    }
