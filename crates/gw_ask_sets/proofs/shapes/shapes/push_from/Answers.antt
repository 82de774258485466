use Rattle.std.proofs.lemmas.Result.{on_ok_weaker}
use Rattle.gw_ask_sets.specs.shapes.Shapes.{cast_shapes, message_shapes, request_shapes}
use Rattle.gw_ask_sets.proofs.shapes_lemmas.Listing.{three_appended}
use Rattle.gw_ask_sets.proofs.shapes.shapes.push_from.Goals as goal

pub returns : goal.returns
returns c =
    let format = c.args.format in
    let from = c.args.from.now in
    let messages = c.in_ok-extend_from_slice.ensures.items in
    let messages = rw c.message_shapes.ensures at messages in
    on_ok_weaker c.push_requests.result
    (λ grown. three_appended c.args.out.now.items (cast_shapes format from) (message_shapes format c.args.device from)
    (request_shapes format from) c.push_cast.new.out.items c.extend_from_slice.new.self.items c.push_requests.new.out.items
    c.in_ok-push_cast.ensures messages grown)
    c.push_requests.ensures
