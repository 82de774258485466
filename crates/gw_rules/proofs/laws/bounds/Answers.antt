use Rattle.std.proofs.Common.{◌≡◌, refl}
use Rattle.gw_rules.specs.Bounds.{bounds}
use Rattle.gw_rules.specs.declared.field.FieldName.{FieldName}
use Rattle.gw_rules.specs.declared.field.FieldName.TheVariants as fields
use Rattle.gw_rules.specs.declared.format.Format.TheVariants.{One, Two}
use Rattle.gw_rules.proofs.Limits.{bounded_iff}
use Rattle.gw_rules.proofs.laws.bounds.Goals as goal

same : (field : FieldName) → bounds Two field ≡ bounds One field
same field = elim field as (λ f. bounds Two f ≡ bounds One f) [ fields.Operation ↦ refl | fields.Port ↦ refl | fields.SourceNetwork ↦ refl | fields.SourceKey ↦ refl | fields.DestinationNetwork ↦ refl | fields.Service ↦ refl | fields.ObjectType ↦ refl | fields.Instance ↦ refl | fields.Property ↦ refl | fields.Priority ↦ refl | fields.Sender ↦ refl | fields.Station ↦ refl ]

pub returns : goal.returns
returns c = record { lows = λ format. refl; one = refl; two = same; three = refl; bounded = bounded_iff }
