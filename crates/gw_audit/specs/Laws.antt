-- What a line tells whoever reads the log.
use Rattle.std.specs.Prelude.{◌≡◌, ℕ, ◌^◌, ◌<◌, List, [], ◌∷◌, ◌++◌, None, IfSome, IsTrue}
use Rattle.gw_addr.specs.Reading.{AreOctets}
use Rattle.gw_addr.specs.Text.{Lacks}
use Rattle.gw_rules.specs.declared.field.FieldName.{FieldName}
use Rattle.gw_rules.specs.Fields.{value_of}
use Rattle.gw_rules.specs.Name.{is_name}
use Rattle.gw_audit.specs.declared.denial.Denial.{Denial}
use Rattle.gw_audit.specs.Line.{line_text, stations_of}
use Rattle.gw_audit.specs.Short.{short_line}

-- a denial whose numbers fit their types, and whose rule's name has no space, as each value of the type is one
pub record IsDenial (d : Denial) : Type 0 where
  pub number : d.number < 2 ^ 64
  pub tick : d.tick < 2 ^ 64
  pub port : d.port < 2 ^ 8
  pub network : d.source.net < 2 ^ 16
  pub mac : AreOctets d.source.mac
  pub fields : (field : FieldName) → IfSome (value_of field d.ask) (λ n. n < 2 ^ 64)
  pub spaceless : Lacks 32 d.rule

-- the same in each field that a line shows
pub record AreShownAlike (a b : Denial) : Type 0 where
  pub number : a.number ≡ b.number
  pub tick : a.tick ≡ b.tick
  pub port : a.port ≡ b.port
  pub source : a.source ≡ b.source
  pub operation : a.ask.operation ≡ b.ask.operation
  pub destination_network : a.ask.destination_network ≡ b.ask.destination_network
  pub service : a.ask.service ≡ b.ask.service
  pub object_type : a.ask.object_type ≡ b.ask.object_type
  pub instance : a.ask.instance ≡ b.ask.instance
  pub property : a.ask.property ≡ b.ask.property
  pub priority : a.ask.priority ≡ b.ask.priority
  pub stations : stations_of a.ask ≡ stations_of b.ask
  pub rule : a.rule ≡ b.rule

-- two denials with one line are the same in each field that it shows
abbrev pub NamesOneDenial : Type 0
NamesOneDenial = (a b : Denial) → IsDenial a → IsDenial b → line_text a ≡ line_text b → AreShownAlike a b

-- a text that has a line feed at its end, and nowhere else
pub record IsOneLine (text : List ℕ) : Type 0 where
  pub front : List ℕ
  pub ends : text ≡ front ++ 10 ∷ []
  pub lacks : Lacks 10 front

-- a denial as each value of the type is one: its numbers fit, and its rule has a name
pub record IsKept (d : Denial) : Type 0 where
  pub numbers : IsDenial d
  pub name : IsTrue (is_name d.rule)

-- a line is one line
abbrev pub EndsOnce : Type 0
EndsOnce = (d : Denial) → IsKept d → IsOneLine (line_text d)

-- the line of an ask without a sender is that of the formats 1 and 2
abbrev pub StaysShort : Type 0
StaysShort = (d : Denial) → d.ask.sender ≡ None → line_text d ≡ short_line d
