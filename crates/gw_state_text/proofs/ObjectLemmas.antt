-- An object and its slots, read one after the other.
use Rattle.std.proofs.Common.{◌≡◌, ◌∙◌, ℕ, List, ◌++◌, Option}
use Rattle.gw_objects.specs.declared.value.PropertyValue.{PropertyValue}
use Rattle.gw_state.specs.Saved.{SavedObject}
use Rattle.gw_codecs.specs.tags.Object.{object_view}
use Rattle.gw_state_text.specs.Text.{object_text, slots_text}
use Rattle.gw_state_text.specs.declared.object.Head.{Head}
use Rattle.gw_state_text.specs.internal.Block.{StopsAfter}
use Rattle.gw_state_text.specs.internal.Objects.{StopsInSlots, head_text}
use Rattle.gw_state_text.proofs.PortLemmas.{one_after}
use Rattle.gw_state_text.proofs.StateLemmas.{after}

-- an object of a line and of slots
abbrev pub object_from : Head → List (Option PropertyValue) → SavedObject
object_from head slots = record {
  object = object_view head.object;
  configured = head.configured;
  slots = record { slots = slots; default = head.default };
}

pub object_whole : (head : Head) (slots : List (Option PropertyValue)) (text a rest : List ℕ) → text ≡ head_text head ++ a
    → a ≡ slots_text 1 slots ++ rest → text ≡ object_text (object_from head slots) ++ rest
object_whole head slots text a rest e f = e ∙ after (head_text head) a (slots_text 1 slots) rest f

pub in_slots : (head : Head) (text a : List ℕ) (left : ℕ) → text ≡ head_text head ++ a → StopsInSlots a left
    → StopsAfter object_text text left
in_slots head text a left e stops =
    one_after object_text (object_from head stops.slots) text stops.rest left
    (object_whole head stops.slots text a stops.rest e stops.parts) stops.is
