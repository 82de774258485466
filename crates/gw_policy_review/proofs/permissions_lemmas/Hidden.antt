-- Of an object that is hidden whatever else an ask says, no read is allowed.
use Rattle.std.proofs.Common.{◌≡◌, inl, inr, ℕ, [], ◌∷◌, Option, Some, None, ap, arith, refl}
use Rattle.std.proofs.lemmas.Bool.{both_ways, false≢true}
use Rattle.gw_rules.specs.Ask.{Ask}
use Rattle.gw_rules.specs.Hides.{Reads}
use Rattle.gw_rules.specs.Operation.{operation_number}
use Rattle.gw_rules.specs.RuleList.{allows}
use Rattle.gw_rules.specs.declared.field.FieldName.TheVariants.{Instance, ObjectType, Operation, SourceNetwork}
use Rattle.gw_rules.specs.declared.operation.Operation.TheVariants as operations
use Rattle.gw_rules.proofs.Hiding.{hidden_from_network}
use Rattle.gw_ask_sets.specs.shapes.Shape.{IsWithin, LiesIn, LiesInOne, Shape}
use Rattle.gw_ask_sets.specs.shapes.Shapes.{only}
use Rattle.gw_policy_review.specs.permissions.Laws.{HiddenIsNotRead}

one_number : (number : ℕ) (value : Option ℕ) → IsWithin (only number) value → value ≡ Some number
one_number number None is = absurd (false≢true is)
one_number number (Some other) is =
    let from = is.0 in
    let to = is.1 in
    let same : other ≡ number = omega (arith, from, to) in
    ap Some same

alone : (shape : Shape) (ask : Ask) → LiesInOne (shape ∷ []) ask → LiesIn shape ask
alone shape ask (inl lies) = lies
alone shape ask (inr none) = absurd none

pub hidden_is_not_read : HiddenIsNotRead
hidden_is_not_read c network kind instance left rest property ask hides read =
    let lies = alone _ ask read.1.right.0 in
    let reads : Reads network ask.source_key kind instance ask = record {
      operation = one_number (operation_number operations.Read) ask.operation (lies Operation);
      source_network = one_number network ask.source_network (lies SourceNetwork);
      source_key = refl;
      object_type = one_number kind ask.object_type (lies ObjectType);
      instance = one_number instance ask.instance (lies Instance);
    } in
    both_ways (allows c.rules ask) (hidden_from_network c.rules network kind instance hides ask.source_key ask reads) read.1.right.1
