use Rattle.gw_verdicts.proofs.ShapeLaw.{asks_lie_in_shapes, fresh_asks_lie_in_shapes, never_first_never_decides}
use Rattle.gw_verdicts.proofs.laws.shapes.Goals as goal

pub returns-clause-lie : goal.returns-clause-lie
returns-clause-lie c = asks_lie_in_shapes

pub returns-clause-never : goal.returns-clause-never
returns-clause-never c = never_first_never_decides

pub returns-clause-fresh : goal.returns-clause-fresh
returns-clause-fresh c = fresh_asks_lie_in_shapes
