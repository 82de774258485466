-- The pieces that the answer to a ReadPropertyMultiple is written in (ISO 16484-5, clause 15.7).
use Rattle.std.specs.Prelude.{ℕ, List}
use Rattle.gw_objects.specs.Objects.{Database}
use Rattle.gw_objects.specs.Table.{read_of}
use Rattle.gw_codecs.specs.services.Multi.{head_part, tail_part}
use Rattle.gw_codecs.specs.services.Reply.{error_item}
use Rattle.gw_codecs.specs.tags.Object.{object_view}
use Rattle.gw_device.specs.declared.piece.Piece.{Piece}
use Rattle.gw_device.specs.declared.piece.Piece.TheVariants.{ListHead, ListTail, Item, ErrorItem}
use Rattle.gw_device.specs.Multi.{item}
use Rattle.gw_device.specs.Read.{or_error}

-- the octets of a piece
abbrev pub piece_octets : Database → Piece → List ℕ
piece_octets d (ListHead begins object) = head_part begins (object_view object)
piece_octets d (ListTail ends) = tail_part ends
piece_octets d (Item of) = item of.property of.index (or_error (read_of d (object_view of.object) of.property of.index))
piece_octets d (ErrorItem property index why) = error_item property index why
