use Rattle.std.proofs.Common.{refl}
use Rattle.gw_rules.proofs.EachField.{field_places}
use Rattle.gw_rules.proofs.laws.fields.Goals as goal

pub returns : goal.returns
returns c = record { numbers = refl; places = field_places }
