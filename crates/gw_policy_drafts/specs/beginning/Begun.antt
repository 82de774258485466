-- What a configuration to begin with is, and what is answered to the words of a call.
use Rattle.std.specs.Prelude.{◌≡◌, ◌⊎◌, ⊤, ◌<◌, ℕ, ◌==◌, Bool, true, false, ◌&&◌, not, List, length}
use Rattle.std.specs.Prelude.{Some, None, Ok}
use Rattle.std.specs.List.{list_all, list_any}
use Rattle.std.specs.Option.{option_map_or}
use Rattle.gw_addr.specs.Address.{big_endian, octets_of}
use Rattle.gw_ask_sets.specs.assertions.Judging.{AreJudged}
use Rattle.gw_ask_sets.specs.declared.assertions.judging.Judged.{Judged}
use Rattle.gw_ask_sets.specs.declared.assertions.judging.Judged.TheVariants as judged
use Rattle.gw_ask_sets.specs.declared.assertions.judging.TheConstants.{JUDGING_STEPS}
use Rattle.gw_configuration.specs.Assertion.{is_for, is_of_service, is_passed}
use Rattle.gw_configuration.specs.Configuration.{Configuration}
use Rattle.gw_configuration.specs.declared.assertion.TheConstants.{WRITING_SERVICES}
use Rattle.gw_policy_text.specs.Document.{configuration}
use Rattle.gw_rules.specs.Ask.{Ask}
use Rattle.gw_rules.specs.RuleList.{allows}
use Rattle.gw_rules.specs.declared.format.Format.TheVariants.{Three}
use Rattle.gw_rules.specs.declared.operation.Operation.{Operation}
use Rattle.gw_rules.specs.declared.operation.Operation.TheVariants as operation
use Rattle.gw_policy_drafts.specs.beginning.Flaws.{wrong_in}
use Rattle.gw_policy_drafts.specs.beginning.Ports.{address_of, ports_of, routes_of}
use Rattle.gw_policy_drafts.specs.beginning.Site.{Says, Site, SiteText, words_in}
use Rattle.gw_policy_drafts.specs.declared.beginning.fault.BeginFault.{BeginFault}
use Rattle.gw_policy_drafts.specs.declared.beginning.fault.BeginFault.TheVariants as fault
use Rattle.gw_policy_drafts.specs.declared.beginning.fault.Flaw.TheVariants as flaw
use Rattle.gw_policy_drafts.specs.declared.beginning.part.SitePart.{SitePart}

-- ---- the configuration

-- the key of a station is that of an operator's
abbrev pub key_of : SitePart → ℕ
key_of part = big_endian (octets_of (address_of part))

abbrev pub is_operator : List SitePart → ℕ → Bool
is_operator operators key = list_any (λ operator. key_of operator == key) operators

-- an ask comes from an operator's station
abbrev pub is_operators : List SitePart → Ask → Bool
is_operators operators ask = option_map_or (is_operator operators) ask.sender false

-- what nobody may do: register, delete a registration, see or change a table, teach a route, be heard as a stranger, and speak for a
-- network of others
abbrev pub is_closed : Operation → Bool
is_closed operation.Register = true
is_closed operation.Delete = true
is_closed operation.ReadTable = true
is_closed operation.WriteTable = true
is_closed operation.Learn = true
is_closed operation.Enter = true
is_closed operation.Claim = true
is_closed _ = false

abbrev pub holds : Judged → Bool
holds judged.Holds = true
holds _ = false

-- there are assertions, and each of them holds
abbrev pub do_hold : List Judged → Bool
do_hold found = not (length found == 0) && list_all holds found

-- The ports and the routes are those of the site; nobody but an operator writes, nobody changes a device by another service, and nobody
-- does what is closed; and what is asserted holds.
pub record IsBegun (s : Site) (c : Configuration) : Type 0 where
  pub format : c.format ≡ Three
  pub announce : c.announce ≡ false
  pub ports : c.ports ≡ ports_of s
  pub routes : c.routes ≡ routes_of s
  pub writes : (ask : Ask) → is_for operation.Write ask ≡ true → allows c.rules ask ≡ true → is_operators s.operators ask ≡ true
  pub changes : (ask : Ask) → is_passed ask ≡ true → is_of_service WRITING_SERVICES ask ≡ true → allows c.rules ask ≡ false
  pub closed : (o : Operation) (ask : Ask) → is_closed o ≡ true → is_for o ask ≡ true → allows c.rules ask ≡ false
  pub found : List Judged
  pub judged : AreJudged c JUDGING_STEPS found
  pub hold : do_hold found ≡ true

-- a text is read as that
abbrev pub Begins : Site → List ℕ → Type 0
Begins s text = (c : Configuration) × (configuration text ≡ Ok c) × IsBegun s c

-- ---- what is answered

-- the text of what the words say, of which none is wrong
abbrev pub BeginsAs : SiteText → List ℕ → Type 0
BeginsAs words text = (s : Site) × Says words s × (wrong_in s ≡ None) × Begins s text

-- a word isn't of the form of its option
abbrev pub IsUnread : SiteText → BeginFault → Type 0
IsUnread words (fault.Word w) = (w.flaw ≡ flaw.Form) × (w.place < length (words_in words w.option))
IsUnread words fault.Unlike = ⊥
IsUnread words fault.Memory = ⊤

abbrev pub IsUnwritten : BeginFault → Type 0
IsUnwritten (fault.Word w) = ⊥
IsUnwritten fault.Unlike = ⊤
IsUnwritten fault.Memory = ⊤

-- the first of the words that is wrong; or one that isn't of its form
abbrev pub IsWrong : SiteText → BeginFault → Type 0
IsWrong words (fault.Word w) =
    IsUnread words (fault.Word w) ⊎ ((s : Site) × Says words s × (wrong_in s ≡ Some w))
IsWrong words fault.Unlike = ⊤
IsWrong words fault.Memory = ⊤
