-- I-Am (ISO 16484-5, clause 16.10).
use Rattle.std.specs.Prelude.{ℕ, List, [], ◌∷◌, ◌++◌, Result}
use Rattle.gw_addr.specs.Reading.{◌>>=◌}
use Rattle.gw_codecs.specs.tags.Object.{Object, object_view}
use Rattle.gw_codecs.specs.tags.Value.{object_id, unsigned, enumerated, value_encoding}
use Rattle.gw_codecs.specs.declared.services.fault.BodyFault.{BodyFault}
use Rattle.gw_codecs.specs.declared.services.segmentation.Segmentation.{Segmentation}
use Rattle.gw_codecs.specs.declared.services.segmentation.Segmentation.TheVariants.{Both, Transmit, Receive}
use Rattle.gw_codecs.specs.declared.services.segmentation.Segmentation.TheVariants.{None as NoSegmentation}
use Rattle.gw_codecs.specs.declared.services.discovery.IAm.{IAm as RustIAm}
use Rattle.gw_codecs.specs.services.Limits.{last_short_number, last_segmentation}
use Rattle.gw_codecs.specs.services.Parameter.{Content, object, number, plain_object, plain_unsigned, plain_enumerated}
use Rattle.gw_codecs.specs.services.Body.{Body, done, must, IsBody}
use Rattle.gw_codecs.specs.services.Reading.{value_of_kind_at, number_of_kind_at, object_value, unsigned_value}
use Rattle.gw_codecs.specs.services.Reading.{enumerated_value, ended}

-- four application values: the device, the longest APDU that it takes, its segmentation, its vendor
abbrev pub i_am_body : Body
i_am_body =
    must plain_object
    (must (plain_unsigned 0 last_short_number)
    (must (plain_enumerated 0 last_segmentation)
    (must (plain_unsigned 0 last_short_number)
    done)))

-- the number of each choice (clause 21, BACnetSegmentation)
abbrev pub segmentation_number : Segmentation → ℕ
segmentation_number Both = 0
segmentation_number Transmit = 1
segmentation_number Receive = 2
segmentation_number NoSegmentation = 3

pub record IAm : Type 0 where
  pub device : Object
  pub max_apdu : ℕ
  pub segmentation : ℕ
  pub vendor : ℕ

abbrev pub i_am_view : RustIAm → IAm
i_am_view i = record {
  device = object_view i.device;
  max_apdu = i.max_apdu;
  segmentation = segmentation_number i.segmentation;
  vendor = i.vendor;
}

-- what its parameters hold
abbrev pub i_am_held : IAm → List Content
i_am_held i =
    object i.device ∷ number i.max_apdu ∷ number i.segmentation ∷ number i.vendor ∷ []

-- the octets are the body of this announcement
abbrev pub IsIAm : List ℕ → IAm → Type 0
IsIAm octets i = IsBody i_am_body octets (i_am_held i)

-- ---- as it is written

abbrev pub i_am_encoding : IAm → List ℕ
i_am_encoding i =
    value_encoding (object_id i.device)
    ++ value_encoding (unsigned i.max_apdu)
    ++ value_encoding (enumerated i.segmentation)
    ++ value_encoding (unsigned i.vendor)

-- ---- as it is read; computes, believe `IsIAm`

abbrev pub i_am_at : List ℕ → Result IAm BodyFault
i_am_at octets = do
  device ← value_of_kind_at object_value octets
  max_apdu ← number_of_kind_at unsigned_value 0 last_short_number device.1
  segmentation ← number_of_kind_at enumerated_value 0 last_segmentation max_apdu.1
  vendor ← number_of_kind_at unsigned_value 0 last_short_number segmentation.1
  ended (record {
    device = device.0;
    max_apdu = max_apdu.0;
    segmentation = segmentation.0;
    vendor = vendor.0;
  }) vendor.1
