use Rattle.std.proofs.lemmas.Result.{on_ok_weaker}
use Rattle.gw_ask_sets.specs.shapes.Shapes.{enter_shapes, near_shapes, shapes_from, table_shapes}
use Rattle.gw_ask_sets.proofs.shapes_lemmas.Listing.{four_appended}
use Rattle.gw_ask_sets.proofs.shapes.shapes.push_within.Goals as goal

pub returns : goal.returns
returns c =
    let format = c.args.format in
    let from = c.args.from.now in
    let near = c.in_ok-extend_from_slice.ensures.items in
    let near = rw c.near_shapes.ensures at near in
    on_ok_weaker c.push_from.result
    (λ grown. four_appended c.args.out.now.items (table_shapes format from) (enter_shapes format from) (near_shapes from)
    (shapes_from format c.args.device from) c.push_table.new.out.items c.push_enter.new.out.items
    c.extend_from_slice.new.self.items c.push_from.new.out.items c.in_ok-push_table.ensures c.in_ok-push_enter.ensures near grown)
    c.push_from.ensures
