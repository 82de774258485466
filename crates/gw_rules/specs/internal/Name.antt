-- How the octets of a rule's name are kept: in front.
use Rattle.std.specs.Prelude.{◌≤◌, take, IsTrue}
use Rattle.gw_rules.specs.declared.name.RuleName.TheInside.{Inside}
use Rattle.gw_rules.specs.Name.{is_name}

pub record IsKept (name : Inside) : Type 0 where
  pub most : name.len ≤ 32
  pub shape : IsTrue (is_name (take name.len name.octets))
