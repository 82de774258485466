-- The shapes of the asks of which a line says who may raise them. Each holds shapes of a configuration of format 3, or parts of
-- them (`Shapes.antt` of gw_ask_sets::shapes).
use Rattle.std.specs.Prelude.{ℕ, true}
use Rattle.gw_rules.specs.declared.format.Format.TheVariants.{Three}
use Rattle.gw_rules.specs.declared.operation.Operation.TheVariants as operations
use Rattle.gw_ask_sets.specs.shapes.Pieces.{numbers}
use Rattle.gw_ask_sets.specs.shapes.Shape.{Shape}
use Rattle.gw_ask_sets.specs.shapes.Shapes.{bound, foreign, network as any_network, nothing, only, own}
use Rattle.gw_ask_sets.specs.declared.shapes.shapes.Entrance.{Entrance}
use Rattle.gw_policy_review.specs.declared.permissions.questions.Point.{Point}

-- any of so many ports
abbrev pub any_of : ℕ → Entrance
any_of ports = record { port = numbers 1 ports; manages = true }

-- to enter by the port of this number, which has this network
abbrev pub entering : ℕ → ℕ → Shape
entering number network = bound (own Three number network true) operations.Enter nothing nothing

-- to speak for any network, by any of so many ports
abbrev pub claiming : ℕ → Shape
claiming ports = bound (foreign Three (any_of ports) any_network) operations.Claim nothing nothing

-- to read properties of an object of the device, which has this network, by claims of another network and any of so many ports
abbrev pub reading : (ports device network : ℕ) → Point → Shape
reading ports device network point =
    record (bound (foreign Three (any_of ports) (only network)) operations.Read (numbers 12 14) (only device)) {
      object_type = only point.kind;
      instance = only point.instance;
      property = point.property;
    }
