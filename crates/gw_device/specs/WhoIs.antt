-- Who-Is and I-Am (ISO 16484-5, clause 16.10).
use Rattle.std.specs.Prelude.{ℕ, Bool, true, ◌&&◌, nat_le, if◌then◌else◌, List, [], ◌∷◌, ◌++◌, Option, Some, None}
use Rattle.gw_objects.specs.declared.configured.Configured.{Configured}
use Rattle.gw_objects.specs.declared.property.Property.TheVariants.{ObjectIdentifier}
use Rattle.gw_objects.specs.Objects.{Database, device_id}
use Rattle.gw_objects.specs.Property.{property_number}
use Rattle.gw_rules.specs.declared.operation.Operation.TheVariants as operation
use Rattle.gw_rules.specs.declared.rule.Rule.{Rule}
use Rattle.gw_rules.specs.declared.service.Service.TheVariants.{Unconfirmed}
use Rattle.gw_rules.specs.Ask.{Ask}
use Rattle.gw_rules.specs.RuleList.{allows}
use Rattle.gw_codecs.specs.declared.services.segmentation.Segmentation.TheVariants as segmentation
use Rattle.gw_codecs.specs.services.IAm.{i_am_encoding, segmentation_number}
use Rattle.gw_codecs.specs.services.WhoIs.{Limits, WhoIs}
use Rattle.gw_device.specs.declared.context.Context.{Context}
use Rattle.gw_device.specs.Asks.{property_ask}
use Rattle.gw_device.specs.Response.{Response, silence, unchanged, announcement_of}
use Rattle.gw_codecs.specs.services.Choices.{who_is, i_am}

-- an unconfirmed request: its type and its service (clause 20.1.3)
abbrev pub unconfirmed : ℕ → List ℕ
unconfirmed service = 0x10 ∷ service ∷ []

-- the device is asked: from the lowest instance to the highest, or everyone
abbrev pub is_within : Option Limits → ℕ → Bool
is_within None instance = true
is_within (Some limits) instance = nat_le limits.low instance && nat_le instance limits.high

-- the longest APDU that the device takes, in octets
abbrev pub longest_apdu : ℕ
longest_apdu = 1476

-- to announce that the device is here, which is to list its Object_Identifier
abbrev pub who_is_ask : Configured → Context → Ask
who_is_ask c context =
    property_ask operation.List (Unconfirmed who_is) c context (device_id c.device)
    (property_number ObjectIdentifier)

-- I-Am: the device, its longest APDU, no segmentation, and its vendor
abbrev pub i_am_apdu : Configured → List ℕ
i_am_apdu c = unconfirmed i_am ++ i_am_encoding (record {
  device = device_id c.device;
  max_apdu = longest_apdu;
  segmentation = segmentation_number segmentation.None;
  vendor = c.device.vendor;
})

-- what there is to announce, if its ask is allowed
abbrev pub if_allowed : List Rule → Ask → Option (List ℕ) → Response
if_allowed rules ask apdu = unchanged (ask ∷ []) (if allows rules ask then announcement_of apdu else None)

abbrev pub who_is_response : List Rule → Database → Context → WhoIs → Response
who_is_response rules d context request =
    if is_within request.limits d.configured.device.instance
    then if_allowed rules (who_is_ask d.configured context) (Some (i_am_apdu d.configured))
    else silence
