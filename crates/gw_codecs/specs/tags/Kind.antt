-- What a tag announces (ISO 16484-5, clause 20.2.1.3): a content of so many octets, or an opening
-- or closing of a list.
use Rattle.std.specs.Prelude.{Bool, true, false}
use Rattle.gw_codecs.specs.declared.tags.tag.Kind.{Kind}
use Rattle.gw_codecs.specs.declared.tags.tag.Kind.TheVariants.{Length, Opening, Closing}

-- a content follows, and no list opens or closes
abbrev pub is_length : Kind → Bool
is_length (Length n) = true
is_length Opening = false
is_length Closing = false
