-- Lists of tagged values between an opening and a closing tag (ISO 16484-5, clause 20.2.1.3.2).
use Rattle.std.specs.Prelude.{◌≡◌, ℕ, suc, Bool, true, List, [], ◌++◌, length, Option, Some, None, not, ◌==◌, ◌&&◌}
use Rattle.std.specs.Prelude.{if◌then◌else◌}
use Rattle.gw_codecs.specs.declared.tags.tag.Kind.{Kind}
use Rattle.gw_codecs.specs.declared.tags.tag.Kind.TheVariants.{Length, Opening, Closing}
use Rattle.gw_codecs.specs.tags.Tag.{Tag, IsTag, EncodesTag}

-- a tag of context class
abbrev pub context : ℕ → Kind → Tag
context number kind = record { number = number; context = true; kind = kind }

-- a Boolean of application class has its value in its tag (clause 20.2.3)
abbrev pub is_boolean : Tag → Bool
is_boolean tag = not tag.context && tag.number == 1

-- how many octets follow a tag that opens and closes no list
abbrev pub content_length : Tag → Kind → Option ℕ
content_length tag (Length n) = if is_boolean tag then Some 0 else Some n
content_length tag Opening = None
content_length tag Closing = None

-- Contents after their tags, and lists between an opening and a closing tag of one number, one
-- after the other. No more lists than `depth` are open at once.
pub data IsBalanced : ℕ → List ℕ → Type 0 where
  no_more : {depth : ℕ} → IsBalanced depth []
  primitive : {depth : ℕ} {octets : List ℕ} (header content rest : List ℕ) (tag : Tag) → IsTag tag
      → EncodesTag header tag → content_length tag tag.kind ≡ Some (length content)
      → octets ≡ header ++ (content ++ rest) → IsBalanced depth rest → IsBalanced depth octets
  nested : {depth : ℕ} {octets : List ℕ} (opening inner closing rest : List ℕ) (number : ℕ)
      → IsTag (context number Opening) → EncodesTag opening (context number Opening)
      → EncodesTag closing (context number Closing)
      → octets ≡ opening ++ (inner ++ (closing ++ rest)) → IsBalanced depth inner
      → IsBalanced (suc depth) rest → IsBalanced (suc depth) octets

-- how deep lists may nest inside a list (our own limit)
abbrev pub deepest : ℕ
deepest = 16

-- after an opening tag: a balanced content, the closing tag of the number, and the rest
pub record EndsList (number : ℕ) (octets content rest : List ℕ) : Type 0 where
  pub closing : List ℕ
  pub balanced : IsBalanced deepest content
  pub is_tag : IsTag (context number Closing)
  pub closes : EncodesTag closing (context number Closing)
  pub parts : octets ≡ content ++ (closing ++ rest)
