use Rattle.std.proofs.Common.{rules, ◌≡◌, ◌++◌}
use Rattle.std.specs.Prelude.{codes, decimal}
use Rattle.gw_configuration.specs.Subnet.{subnet_text}
use Rattle.gw_policy_review.proofs.warnings_lemmas.Pieces.{four}
use Rattle.gw_policy_review.proofs.warnings.station_oversights.put_overlap_words.Goals as goal

pub returns : goal.returns
returns c =
    let first : c.extend_from_slice.new.self.items ≡ c.args.out.now.items ++ subnet_text c.args.subnet = search rules in
    four c.put_slice.result c.args.out.now.items c.extend_from_slice.new.self.items c.extend_from_slice-2.new.self.items
    c.put_decimal.new.out.items c.put_slice.new.out.items (subnet_text c.args.subnet) (codes " overlaps with those of port ")
    (decimal c.args.other) (codes "\n") first c.in_ok-extend_from_slice-2.ensures.items c.in_ok-put_decimal.ensures.ok c.put_slice.ensures.ok
