-- What the values of the code that lend parts of an object say.
use Rattle.std.specs.Prelude.{List, [], ◌∷◌, map}
use Rattle.gw_codecs.specs.tags.Object.{object_view}
use Rattle.gw_codecs.specs.tags.Value.{Value, null, boolean, unsigned, signed, bit_string, enumerated, object_id}
use Rattle.gw_objects.specs.declared.contents.Flags.{Flags}
use Rattle.gw_objects.specs.declared.contents.Flags.TheVariants as flags
use Rattle.gw_objects.specs.declared.contents.Item.{Item}
use Rattle.gw_objects.specs.declared.contents.Item.TheVariants as items
use Rattle.gw_objects.specs.declared.contents.Array.{Array}
use Rattle.gw_objects.specs.declared.contents.Array.TheVariants as arrays
use Rattle.gw_objects.specs.declared.contents.Contents.{Contents as CodeContents}
use Rattle.gw_objects.specs.declared.contents.Contents.TheVariants as code
use Rattle.gw_objects.specs.Contents.{Contents, one, array, empty_list}
use Rattle.gw_objects.specs.declared.configured.Configured.{Configured}
use Rattle.gw_objects.specs.Objects.{Database, Slots, object_id_of}
use Rattle.gw_objects.specs.Table.{text, slot_value, bits, services, object_types}

abbrev pub flags_view : Flags → Value
flags_view flags.Status = bit_string 4 (0 ∷ [])
flags_view flags.Services = bit_string 0 (bits 5 services)
flags_view flags.ObjectTypes = bit_string 0 (bits 7 object_types)

abbrev pub item_view : Item → Value
item_view items.Null = null
item_view (items.Boolean said) = boolean said
item_view (items.Unsigned number) = unsigned number
item_view (items.Signed number) = signed number
item_view (items.Enumerated number) = enumerated number
item_view (items.Text octets) = text octets.now
item_view (items.Bits set) = flags_view set
item_view (items.Object id) = object_id (object_view id)

abbrev pub array_view : Array → List Value
array_view (arrays.Objects device objects) =
    map object_id (object_view device ∷ map object_id_of objects.now)
array_view (arrays.Slots property) = map slot_value property.now.slots
array_view (arrays.Texts texts) = map text texts.now

abbrev pub contents_view : CodeContents → Contents
contents_view (code.One item) = one (item_view item)
contents_view (code.Array elements) = array (array_view elements)
contents_view code.EmptyList = empty_list

-- what is configured, and the slots and the default of each value object
abbrev pub database_with : Configured → List Slots → Database
database_with configured states = record { configured = configured; states = states }
