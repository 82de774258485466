-- What is true of the text of metrics.
use Rattle.std.specs.Prelude.{◌≡◌, ⊤, ℕ, ◌-◌, ◌<◌, ◌^◌, Bool, true, false, is_some, nat_eq, length, drop, codes, List, [], ◌∷◌, ◌++◌, Some}
use Rattle.std.specs.Cmp.Lexicographic.{pointwise}
use Rattle.std.specs.List.{filter, find}
use Rattle.gw_addr.specs.Text.{Lacks}
use Rattle.gw_notices.specs.metrics.Escape.{escaped, read_value}
use Rattle.gw_notices.specs.metrics.Family.{families, family_kind, family_name}
use Rattle.gw_notices.specs.metrics.Text.{Count, Help, KindOf, Line, line_text, lines_text, metrics_lines, metrics_text, samples_of}
use Rattle.gw_notices.specs.declared.metrics.counts.GatewayCounts.{GatewayCounts}
use Rattle.gw_notices.specs.declared.metrics.family.Family.{Family}
use Rattle.gw_notices.specs.declared.metrics.family.FamilyKind.{FamilyKind}
use Rattle.gw_notices.specs.declared.metrics.family.FamilyKind.TheVariants.{Counter, Gauge}

-- ---- values of labels

-- what is read of an escaped value and a quote is the value
abbrev pub ValuesAreReadBack : Type 0
ValuesAreReadBack = (value rest : List ℕ) → read_value (escaped value ++ 34 ∷ rest) ≡ Some (value, rest)

-- and nothing else is read as a value
abbrev pub OnlyEscapesAreRead : Type 0
OnlyEscapesAreRead = (text value rest : List ℕ) → read_value text ≡ Some (value, rest) → text ≡ escaped value ++ 34 ∷ rest

-- ---- lines

-- the text is its lines, each with a line feed after it
abbrev pub TextIsLines : Type 0
TextIsLines = (c : GatewayCounts) → metrics_text c ≡ lines_text (metrics_lines c)

-- its number has at most 128 bits, if the line has one
abbrev pub HasPlainNumber : Line → Type 0
HasPlainNumber (Help f) = ⊤
HasPlainNumber (KindOf f) = ⊤
HasPlainNumber (Count f sample) = sample.number < 2 ^ 128

-- and no line has another line feed
abbrev pub LinesHaveNoFeed : Type 0
LinesHaveNoFeed = (line : Line) → HasPlainNumber line → Lacks 10 (line_text line)

-- each line is of the family that the last line of help before it begins; this one if there is none
abbrev pub IsUnder : Family → List Line → Type 0
IsUnder f [] = ⊤
IsUnder f (Help g ∷ lines) = IsUnder g lines
IsUnder f (KindOf g ∷ lines) = (g ≡ f) × IsUnder f lines
IsUnder f (Count g sample ∷ lines) = (g ≡ f) × IsUnder f lines

-- so it is in the text, whatever is before it
abbrev pub SamplesAreUnderTheirFamily : Type 0
SamplesAreUnderTheirFamily = (c : GatewayCounts) (f : Family) → IsUnder f (metrics_lines c)

-- the families that lines begin
abbrev pub helps : List Line → List Family
helps [] = []
helps (Help f ∷ lines) = f ∷ helps lines
helps (KindOf f ∷ lines) = helps lines
helps (Count f sample ∷ lines) = helps lines

abbrev pub is_counted : GatewayCounts → Family → Bool
is_counted c f = is_some (samples_of c f)

-- the text begins each family once that is counted, in their order
abbrev pub FamiliesAreOnce : Type 0
FamiliesAreOnce = (c : GatewayCounts) → helps (metrics_lines c) ≡ filter (is_counted c) families

-- ---- names

-- the first family of a family's name is that family
abbrev pub NamesDiffer : Type 0
NamesDiffer = (f : Family) → find (λ g. pointwise nat_eq (family_name g) (family_name f)) families ≡ Some f

abbrev pub is_counter : FamilyKind → Bool
is_counter Counter = true
is_counter Gauge = false

abbrev pub ends_in_total : List ℕ → Bool
ends_in_total name = pointwise nat_eq (drop (length name - 6) name) (codes "_total")

-- the names of counters end in `_total`, and no others do
abbrev pub CountersAreTotals : Type 0
CountersAreTotals = (f : Family) → ends_in_total (family_name f) ≡ is_counter (family_kind f)
