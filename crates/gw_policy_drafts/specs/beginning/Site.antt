-- What a site has, as the words of a call say.
use Rattle.std.specs.Prelude.{◌≡◌, ℕ, List, map, string_bytes}
use Rattle.gw_policy_drafts.specs.beginning.Part.{word_of}
use Rattle.gw_policy_drafts.specs.declared.beginning.part.SitePart.{SitePart}
use Rattle.gw_policy_drafts.specs.declared.beginning.part.SiteOption.{SiteOption}
use Rattle.gw_policy_drafts.specs.declared.beginning.part.SiteOption.TheVariants as option
use Rattle.gw_policy_drafts.specs.declared.beginning.site.Site.{Site as Held}
use Rattle.gw_policy_drafts.specs.declared.beginning.site.SiteInWords.{SiteInWords}

-- the words of a call, by their options
pub record SiteText : Type 0 where
  pub ports : List (List ℕ)
  pub peers : List (List ℕ)
  pub routers : List (List ℕ)
  pub operators : List (List ℕ)
  pub managers : List (List ℕ)

abbrev pub site_text : SiteInWords → SiteText
site_text words = record {
  ports = map string_bytes words.ports.now;
  peers = map string_bytes words.peers.now;
  routers = map string_bytes words.routers.now;
  operators = map string_bytes words.operators.now;
  managers = map string_bytes words.managers.now;
}

-- those of an option
abbrev pub words_in : SiteText → SiteOption → List (List ℕ)
words_in text option.Port = text.ports
words_in text option.Peer = text.peers
words_in text option.Router = text.routers
words_in text option.Operator = text.operators
words_in text option.Manager = text.managers

-- what they say: the ports in order, other broadcast managers, networks behind routers, stations that may write, and the broadcast
-- managers that subnets have already
pub record Site : Type 0 where
  pub ports : List SitePart
  pub peers : List SitePart
  pub routers : List SitePart
  pub operators : List SitePart
  pub managers : List SitePart

abbrev pub site_of : Held → Site
site_of held = record {
  ports = held.ports.items;
  peers = held.peers.items;
  routers = held.routers.items;
  operators = held.operators.items;
  managers = held.managers.items;
}

abbrev pub parts_in : Site → SiteOption → List SitePart
parts_in s option.Port = s.ports
parts_in s option.Peer = s.peers
parts_in s option.Router = s.routers
parts_in s option.Operator = s.operators
parts_in s option.Manager = s.managers

-- each word says its part
pub record Says (text : SiteText) (s : Site) : Type 0 where
  pub ports : map (word_of option.Port) s.ports ≡ text.ports
  pub peers : map (word_of option.Peer) s.peers ≡ text.peers
  pub routers : map (word_of option.Router) s.routers ≡ text.routers
  pub operators : map (word_of option.Operator) s.operators ≡ text.operators
  pub managers : map (word_of option.Manager) s.managers ≡ text.managers
