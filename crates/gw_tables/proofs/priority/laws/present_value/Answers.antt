use Rattle.gw_tables.proofs.priority_lemmas.Present.{present_iff}
use Rattle.gw_tables.proofs.priority.laws.present_value.Goals as goal

pub returns : goal.returns
returns g c = λ property value long. present_iff property value long
