-- Parameters of a body: contents under context tags (ISO 16484-5, clauses 20.2.1.1 and 20.2.1.3).
use Rattle.std.specs.Prelude.{◌≡◌, ℕ, Bool, false, List, ◌++◌, length, ◌==◌, ◌&&◌}
use Rattle.gw_codecs.specs.declared.tags.tag.Kind.TheVariants.{Length}
use Rattle.gw_codecs.specs.tags.Kind.{is_length}
use Rattle.gw_codecs.specs.tags.Tag.{Tag, IsTag, EncodesTag, BeginsWith, canonical}
use Rattle.gw_codecs.specs.tags.List.{context}

-- a content after its context tag, as it is written
abbrev pub in_context : ℕ → List ℕ → List ℕ
in_context number content = canonical (context number (Length (length content))) ++ content

-- the context tag of this number, the content that it announces, and the rest
pub record BeginsWithContent (number : ℕ) (octets content rest : List ℕ) : Type 0 where
  pub header : List ℕ
  pub encodes : EncodesTag header (context number (Length (length content)))
  pub parts : octets ≡ header ++ (content ++ rest)

-- the tag is that of a content under this number
abbrev pub is_content : ℕ → Tag → Bool
is_content number tag = is_length tag.kind && (tag.context && tag.number == number)

-- another tag is at the front
pub record BeginsWithOther (number : ℕ) (octets : List ℕ) : Type 0 where
  pub tag : Tag
  pub rest : List ℕ
  pub is_tag : IsTag tag
  pub begins : BeginsWith octets tag rest
  pub other : is_content number tag ≡ false
