-- What `compare` says of the assertions of two configurations.
use Rattle.std.specs.Prelude.{◌≡◌, ℕ, Bool, if◌then◌else◌, List, [], ◌∷◌, ◌++◌, Option, Some, None, IsTrue, codes, find, is_some, nat_eq}
use Rattle.std.specs.Cmp.Lexicographic.{pointwise}
use Rattle.std.specs.List.{flat_map}
use Rattle.gw_ask_sets.specs.assertions.Judging.{AreJudged}
use Rattle.gw_ask_sets.specs.declared.assertions.judging.Judged.{Judged}
use Rattle.gw_ask_sets.specs.declared.assertions.judging.TheConstants.{JUDGING_STEPS}
use Rattle.gw_configuration.specs.Configuration.{Configuration}
use Rattle.gw_configuration.specs.declared.assertion.Assertion.{Assertion}
use Rattle.gw_ending.specs.reading.Assertions.{unheld_text}
use Rattle.gw_tools.specs.declared.asserting.Fate.{Fate}
use Rattle.gw_tools.specs.declared.asserting.Fate.TheVariants as fate

-- an assertion has this name
abbrev pub is_named : List ℕ → Assertion → Bool
is_named name assertion = pointwise nat_eq assertion.name name

-- the first one of this name
abbrev pub named : List ℕ → List Assertion → Option Assertion
named name assertions = find (is_named name) assertions

-- `assert "a" is new`
abbrev pub told : (name words : List ℕ) → List ℕ
told name words = codes "assert \"" ++ (name ++ (codes "\" is " ++ (words ++ 10 ∷ [])))

-- ---- what became of an assertion of the new configuration

abbrev pub IsFate : (old : List Assertion) → Assertion → Fate → Type 0
IsFate old assertion fate.New = named assertion.name old ≡ None
IsFate old assertion fate.Changed = IsTrue (is_some (named assertion.name old))
IsFate old assertion fate.Same = named assertion.name old ≡ Some assertion

-- its line, if it isn't the same
abbrev pub fate_text : (name : List ℕ) → Fate → List ℕ
fate_text name fate.New = told name (codes "new")
fate_text name fate.Changed = told name (codes "changed")
fate_text name fate.Same = []

abbrev pub IsFateText : (old : List Assertion) → Assertion → List ℕ → Type 0
IsFateText old assertion text = (f : Fate) × IsFate old assertion f × (text ≡ fate_text assertion.name f)

-- those of all, in their order
abbrev pub AreFateTexts : (old new : List Assertion) → List ℕ → Type 0
AreFateTexts old [] text = text ≡ []
AreFateTexts old (assertion ∷ new) text =
    (first rest : List ℕ) × IsFateText old assertion first × AreFateTexts old new rest × (text ≡ first ++ rest)

-- ---- what is gone

-- the line of an assertion of the old configuration that the new one hasn't
abbrev pub gone_text : (new : List Assertion) → Assertion → List ℕ
gone_text new assertion = if is_some (named assertion.name new) then [] else told assertion.name (codes "gone")

-- ---- all that is said

-- which assertions are new, changed or gone, and those of the new configuration that don't hold
abbrev pub SaysAssertions : (old new : Configuration) → List ℕ → Type 0
SaysAssertions old new text =
    (fates : List ℕ) × AreFateTexts old.assertions new.assertions fates
    × (judged : List Judged) × AreJudged new JUDGING_STEPS judged
    × (text ≡ fates ++ (flat_map (gone_text new.assertions) old.assertions ++ unheld_text new judged))

-- such a text was appended
abbrev pub TellsFates : (Is : List ℕ → Type 0) → (before after : List ℕ) → Type 0
TellsFates Is before after = (text : List ℕ) × Is text × (after ≡ before ++ text)
