-- What `init` says and reports: over the definitions of `gw_policy_drafts`.
use Rattle.std.specs.Prelude.{◌≡◌, ℕ, List, [], Result, Ok, Err, map, string_bytes}
use Rattle.gw_ending.specs.declared.fault.Fault.{Fault}
use Rattle.gw_ending.specs.declared.fault.Fault.TheVariants as fault
use Rattle.gw_ending.specs.declared.reading.printing.Said.{Said}
use Rattle.gw_policy_drafts.specs.beginning.Begun.{BeginsAs, IsWrong}
use Rattle.gw_policy_drafts.specs.beginning.Flaws.{wrong_line}
use Rattle.gw_policy_drafts.specs.beginning.Site.{SiteText}
use Rattle.gw_policy_drafts.specs.declared.beginning.fault.BeginFault.TheVariants.{Word}
use Rattle.gw_policy_drafts.specs.declared.beginning.fault.WrongWord.{WrongWord}
use Rattle.gw_tool_line.specs.declared.init_choice.SiteWords.{SiteWords}

-- the words of a call
abbrev pub text_of : SiteWords → SiteText
text_of words = record {
  ports = map string_bytes words.ports.items;
  peers = map string_bytes words.peers.items;
  routers = map string_bytes words.routers.items;
  operators = map string_bytes words.operators.items;
  managers = map string_bytes words.managers.items;
}

-- What `init` says of some words, and reports: a configuration to begin with; if a word is wrong, a line on standard error that names
-- it; and nothing at any other fault.
abbrev pub SaysBegun : SiteText → (reported : List ℕ) → Result Said Fault → Type 0
SaysBegun words reported (Ok said) =
    BeginsAs words said.text.items × (said.ends ≡ Ok tt) × (said.unprinted ≡ fault.Write) × (reported ≡ [])
SaysBegun words reported (Err fault.CommandLine) = (w : WrongWord) × IsWrong words (Word w) × (reported ≡ wrong_line words w)
SaysBegun words reported (Err fault.Unlisted) = reported ≡ []
SaysBegun words reported (Err fault.Memory) = reported ≡ []
SaysBegun words reported (Err _) = ⊥
