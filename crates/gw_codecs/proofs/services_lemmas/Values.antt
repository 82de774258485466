-- The fields of the code's values fit what is written of them.
use Rattle.std.proofs.Common.{◌≤◌, Option, Some, None, arith}
use Rattle.std.specs.Option.{option_map}
use Rattle.gw_codecs.specs.declared.tags.object.ObjectId.{ObjectId}
use Rattle.gw_codecs.specs.tags.Object.{IsObject, object_view}
use Rattle.gw_codecs.specs.declared.services.discovery.Limits.{Limits}
use Rattle.gw_codecs.specs.declared.services.discovery.Sought.{Sought}
use Rattle.gw_codecs.specs.declared.services.discovery.Sought.TheVariants.{Object, Name}
use Rattle.gw_codecs.specs.declared.services.segmentation.Segmentation.{Segmentation}
use Rattle.gw_codecs.specs.declared.services.segmentation.Segmentation.TheVariants as choices
use Rattle.gw_codecs.specs.services.Limits.{last_segmentation}
use Rattle.gw_codecs.specs.services.WhoIs.{limits_view}
use Rattle.gw_codecs.specs.services.WhoHas.{sought_view, NameFits}
use Rattle.gw_codecs.specs.services.IAm.{segmentation_number}
use Rattle.gw_codecs.proofs.services_lemmas.EncodedBodies.{FitsLimits, FitsSought}

pub is_object : (id : ObjectId) → IsObject (object_view id)
is_object id = record { kind = id.kind_fits; instance = id.instance_fits }

pub limits_fit : (limits : Option Limits) → FitsLimits (option_map limits_view limits)
limits_fit None = tt
limits_fit (Some l) = (l.low_fits, l.high_fits)

pub sought_fits : (s : Sought) → NameFits (sought_view s) → FitsSought (sought_view s)
sought_fits (Object id) fits = is_object id
sought_fits (Name name) fits = (fits, name.text)

pub segmentation_fits : (s : Segmentation) → segmentation_number s ≤ last_segmentation
segmentation_fits choices.Both = omega arith
segmentation_fits choices.Transmit = omega arith
segmentation_fits choices.Receive = omega arith
segmentation_fits choices.None = omega arith
