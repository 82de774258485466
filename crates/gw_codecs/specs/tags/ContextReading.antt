-- Reading parameters under context tags. This file computes; believe `BeginsWithContent` and
-- `BeginsWith`.
use Rattle.std.specs.Prelude.{ℕ, List, Result, Ok, Err, ◌==◌, ◌&&◌, if◌then◌else◌}
use Rattle.gw_addr.specs.Reading.{◌>>=◌, front_at}
use Rattle.gw_codecs.specs.declared.tags.tag.Kind.{Kind}
use Rattle.gw_codecs.specs.declared.tags.tag.Kind.TheVariants.{Length, Opening, Closing}
use Rattle.gw_codecs.specs.declared.tags.fault.TagFault.{TagFault}
use Rattle.gw_codecs.specs.declared.tags.fault.ContextFault.{ContextFault}
use Rattle.gw_codecs.specs.declared.tags.fault.ContextFault.TheVariants.{Short, OtherTag}
use Rattle.gw_codecs.specs.tags.Fault.{context_fault}
use Rattle.gw_codecs.specs.tags.Tag.{Tag}
use Rattle.gw_codecs.specs.tags.Reading.{tag_at}

-- the tag at the front
abbrev pub tag_or : Result (Tag × List ℕ) TagFault → Result (Tag × List ℕ) ContextFault
tag_or (Ok x) = Ok x
tag_or (Err fault) = Err (context_fault fault)

abbrev pub content_of : ℕ → Tag → Kind → List ℕ → Result (List ℕ × List ℕ) ContextFault
content_of number tag (Length n) rest =
    if tag.context && tag.number == number then front_at Short n rest else Err OtherTag
content_of number tag Opening rest = Err OtherTag
content_of number tag Closing rest = Err OtherTag

-- the content under the context tag of this number, and the octets after it
abbrev pub content_at : ℕ → List ℕ → Result (List ℕ × List ℕ) ContextFault
content_at number octets = tag_or (tag_at octets) >>= λ x. content_of number x.0 x.0.kind x.1

abbrev pub opening_of : ℕ → Tag → Kind → List ℕ → Result (List ℕ) ContextFault
opening_of number tag (Length n) rest = Err OtherTag
opening_of number tag Opening rest = if tag.number == number then Ok rest else Err OtherTag
opening_of number tag Closing rest = Err OtherTag

-- the octets after the opening tag of this number
abbrev pub opening_at : ℕ → List ℕ → Result (List ℕ) ContextFault
opening_at number octets = tag_or (tag_at octets) >>= λ x. opening_of number x.0 x.0.kind x.1

abbrev pub closing_of : ℕ → Tag → Kind → List ℕ → Result (List ℕ) ContextFault
closing_of number tag (Length n) rest = Err OtherTag
closing_of number tag Opening rest = Err OtherTag
closing_of number tag Closing rest = if tag.number == number then Ok rest else Err OtherTag

-- the octets after the closing tag of this number
abbrev pub closing_tag_at : ℕ → List ℕ → Result (List ℕ) ContextFault
closing_tag_at number octets = tag_or (tag_at octets) >>= λ x. closing_of number x.0 x.0.kind x.1
