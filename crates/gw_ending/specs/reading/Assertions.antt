-- What is said of the assertions of a configuration.
use Rattle.std.specs.Prelude.{◌≡◌, ℕ, ◌-◌, Bool, true, false, if◌then◌else◌, List, [], ◌∷◌, ◌++◌, Option, Some, None, Result, Ok, Err}
use Rattle.std.specs.Prelude.{codes, decimal, slice_get}
use Rattle.std.specs.List.{list_all}
use Rattle.std.specs.Option.{option_map_or}
use Rattle.gw_ask_sets.specs.declared.assertions.judging.Judged.{Judged}
use Rattle.gw_ask_sets.specs.declared.assertions.judging.Judged.TheVariants as judged
use Rattle.gw_configuration.specs.Configuration.{Configuration}
use Rattle.gw_configuration.specs.declared.assertion.Assertion.{Assertion}
use Rattle.gw_rules.specs.declared.rule.Rule.{Rule}
use Rattle.gw_ask_sets.specs.AskText.{ask_fields_text}
use Rattle.gw_script.specs.Order.{in_order}
use Rattle.gw_ending.specs.declared.fault.Fault.{Fault}
use Rattle.gw_ending.specs.declared.fault.Fault.TheVariants as fault
use Rattle.gw_ending.specs.reading.Configured.{summary}

-- an assertion holds
abbrev pub holds : Judged → Bool
holds judged.Holds = true
holds _ = false

-- each of them does
abbrev pub do_hold : List Judged → Bool
do_hold judged = list_all holds judged

-- how a command ends that judges them
abbrev pub outcome_of_judged : List Judged → Result (Unit {0}) Fault
outcome_of_judged judged = if do_hold judged then Ok tt else Err fault.Broken

-- the name of the assertion of a number, counted from 1
abbrev pub assertion_name : List Assertion → ℕ → List ℕ
assertion_name assertions number = option_map_or (λ a. a.name) (slice_get assertions (number - 1)) []

-- the name of the rule that decides, or `default` if none matches
abbrev pub decider_name : List Rule → Option ℕ → List ℕ
decider_name rules None = codes "default"
decider_name rules (Some number) = option_map_or (λ rule. rule.name) (slice_get rules (number - 1)) []

-- how an ask is decided, up to the rule
abbrev pub verdict_text : Bool → List ℕ
verdict_text true = codes " is allowed by "
verdict_text false = codes " is denied by "

-- what is said of an assertion that doesn't hold
abbrev pub unheld_words : List Rule → Judged → List ℕ
unheld_words rules judged.Holds = []
unheld_words rules (judged.Broken ask by is_allowed) =
    codes "broken:" ++ (ask_fields_text ask ++ (verdict_text is_allowed ++ decider_name rules by))
unheld_words rules judged.Empty = codes "empty: no ask is meant"
unheld_words rules judged.Unknown = codes "unknown"

-- its line; one that holds has none
abbrev pub unheld_line : Configuration → ℕ → Judged → List ℕ
unheld_line c number found =
    if holds found then []
    else codes "assert " ++ (decimal number ++ (codes " \"" ++ (assertion_name c.assertions number ++ (codes "\": "
    ++ (unheld_words c.rules found ++ 10 ∷ [])))))

-- the lines of all that don't hold, in their order
abbrev pub unheld_text : Configuration → List Judged → List ℕ
unheld_text c judged = in_order (unheld_line c) 1 judged

-- what `check` prints of a configuration whose assertions were judged so: its summary in the place of no line
abbrev pub judged_text : Configuration → List Judged → List ℕ
judged_text c judged = if do_hold judged then summary c else unheld_text c judged
