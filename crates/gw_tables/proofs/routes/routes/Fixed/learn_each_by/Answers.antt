use Rattle.std.proofs.Common.{◌≡◌, ◌∙◌, ℕ, ◌+◌, ◌∷◌, drop, arith, ap}
use Rattle.std.specs.Map.{keys_of}
use Rattle.gw_tables.specs.declared.routes.route.Route.{Route}
use Rattle.gw_tables.specs.routes.Table.{Table, Routed}
use Rattle.gw_tables.specs.routes.internal.Fixed.{table_with}
use Rattle.gw_tables.proofs.routes_lemmas.Room.{first_by, by_left, room_left}
use Rattle.gw_tables.proofs.routes.routes.Fixed.learn_each_by.Goals as goal

pub loop-net-preserved : goal.loop-net-preserved
loop-net-preserved c =
    let t : Table = table_with c.args.self.now c.loop-net.learned in
    let u : Table = table_with c.args.self.now c.learn_one.new.learned in
    let place : ℕ = c.loop-net.net-index in
    let net : ℕ = c.loop-net-item.result.0 in
    let route : Route = c.loop-net-item.result.1 in
    let learnings : Routed = drop place c.args.learnings.now in
    let left : Routed = drop (place + 1) c.args.learnings.now in
    let first : learnings ≡ (net, route) ∷ left =
    first_by c.args.learnings.now place net route c.loop-net-test.true c.loop-net-item.is in
    let step = c.learn_one.ensures in
    let room = room_left t u net route (keys_of learnings) (keys_of left) (ap keys_of first) step.rows in
    record {
      limit = step.limit;
      room = omega (arith, room, step.room, c.loop-net.invariant.room);
      rows = by_left t u net route learnings left first step.rows ∙ c.loop-net.invariant.rows;
    }
