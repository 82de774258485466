use Rattle.std.proofs.Common.{◌≡◌, ◌∙◌, ℕ, ◌+◌, List, ◌∷◌, drop, arith}
use Rattle.gw_tables.specs.routes.Table.{Table}
use Rattle.gw_tables.specs.routes.internal.Fixed.{table_with}
use Rattle.gw_tables.proofs.routes_lemmas.Room.{first_left, room_left, rows_left}
use Rattle.gw_tables.proofs.routes.routes.Fixed.learn_each.Goals as goal

pub loop-net-preserved : goal.loop-net-preserved
loop-net-preserved c =
    let t : Table = table_with c.args.self.now c.loop-net.learned in
    let u : Table = table_with c.args.self.now c.learn_one.new.learned in
    let place : ℕ = c.loop-net.net-index in
    let net : ℕ = c.net-item.result in
    let nets : List ℕ = drop place c.args.nets.now in
    let left : List ℕ = drop (place + 1) c.args.nets.now in
    let first : nets ≡ net ∷ left =
    first_left c.args.nets.now place net c.loop-net-test.true c.net-item.is in
    let step = c.learn_one.ensures in
    let room = room_left t u net c.args.route nets left first step.rows in
    record {
      limit = step.limit;
      room = omega (arith, room, step.room, c.loop-net.invariant.room);
      rows = rows_left t u net c.args.route nets left first step.rows ∙ c.loop-net.invariant.rows;
    }
