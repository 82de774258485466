-- Every ask that a gateway raises lies in a shape of its configuration, so a rule that no ask of
-- the shapes reaches never decides, nor does one of which a lint finds so. And what the log shows of
-- a denied ask is enough to know which rule denied it.
use Rattle.std.specs.Prelude.{IsFalse, ◌≡◌, ◌⊎◌, ℕ, ◌+◌, ◌≤◌, Bool, true, false, List, [], ◌∷◌, ◌++◌, length, Option, None, Some, codes, ⊤}
use Rattle.std.specs.Fmt.{decimal}
use Rattle.std.specs.List.{AllByRecursion}
use Rattle.gw_addr.specs.Address.{IsAddress}
use Rattle.gw_addr.specs.Reading.{AreOctets}
use Rattle.gw_addr.specs.declared.bip.BipAddr.{BipAddr}
use Rattle.gw_audit.specs.Entry.{IsLineOf, IsShowable, ShowsAsk}
use Rattle.gw_audit.specs.declared.denial.Denial.{Denial}
use Rattle.gw_audit.specs.declared.entry.ShownAsk.{ShownAsk}
use Rattle.gw_rules.specs.Ask.{Ask}
use Rattle.gw_rules.specs.RuleList.{HasNumber, first}
use Rattle.gw_frames.specs.bvll.Bvll.{register}
use Rattle.gw_configuration.specs.Configuration.{Configuration, is_managed}
use Rattle.gw_configuration.specs.Duplicates.{has_duplicates}
use Rattle.gw_configuration.specs.Subnet.{IsSubnet}
use Rattle.gw_configuration.specs.declared.object.Object.{Object}
use Rattle.gw_configuration.specs.declared.port.Port.{Port}
use Rattle.gw_relay.specs.Asks.{link_asks}
use Rattle.gw_relay.specs.Initial.{port_of}
use Rattle.gw_script.specs.Event.{Event, Datagram, Tick}
use Rattle.gw_rules.specs.declared.format.Format.{Format}
use Rattle.gw_rules.specs.declared.rule.Rule.{Rule}
use Rattle.gw_core.specs.Asks.{asks}
use Rattle.gw_core.specs.Denials.{default_name}
use Rattle.gw_core.specs.Effects.{effects_at}
use Rattle.gw_core.specs.History.{state_after}
use Rattle.gw_core.specs.State.{State}
use Rattle.gw_core.specs.declared.event.Counts.{Counts}
use Rattle.gw_policy_review.specs.lint.Finding.{Finds}
use Rattle.gw_policy_review.specs.declared.lint.finding.Finding.{Finding}
use Rattle.gw_policy_review.specs.declared.lint.finding.Finding.TheVariants as finding
use Rattle.gw_ask_sets.specs.shapes.Search.{IsNeverFirst}
use Rattle.gw_ask_sets.specs.shapes.Shape.{LiesInOne}
use Rattle.gw_ask_sets.specs.shapes.Shapes.{shapes}
use Rattle.gw_verdicts.specs.States.{IsStateUnder}
use Rattle.gw_verdicts.specs.Why.{answer_to, said_text}
use Rattle.gw_policy_review.specs.warnings.Warnings.{register_ask}

-- a datagram of octets from an address, or a tick, as each event of the code is
abbrev pub IsCarried : Event → Type 0
IsCarried (Datagram port from octets) = IsAddress from × AreOctets octets
IsCarried Tick = ⊤

-- a port on a network (clause 6), and an object of an instance (clause 20.2.14)
abbrev pub IsOnNetwork : Port → Type 0
IsOnNetwork port = (1 ≤ port.network) × (port.network ≤ 65534)

abbrev pub IsInstance : Object → Type 0
IsInstance object = object.instance ≤ 4194302

-- the subnets of a port are such
abbrev pub HasSubnets : Port → Type 0
HasSubnets port = AllByRecursion IsSubnet port.stations

-- the ports and the device are on networks, each on its own, the stations of a port are subnets, and the device and the
-- objects have instances, as those of each configuration of the code are
pub record IsNumbered (c : Configuration) : Type 0 where
  pub networks : AllByRecursion IsOnNetwork c.ports
  pub own : (1 ≤ c.device.network) × (c.device.network ≤ 65534)
  pub once : IsFalse (has_duplicates c)
  pub stations : AllByRecursion HasSubnets c.ports
  pub device : c.device.instance ≤ 4194302
  pub objects : AllByRecursion IsInstance c.objects

-- this holds of each ask of every event of a gateway that goes by the configuration, whatever came before: also a restart,
-- or a reload under another configuration
abbrev pub OfEachAsk : Configuration → (Ask → Type 0) → Type 0
OfEachAsk c Holds =
    IsNumbered c → (w : State) → IsStateUnder c w → (e : Event) → IsCarried e → AllByRecursion Holds (asks w e)

-- this holds of each after every history of a gateway that began new
abbrev pub OfEachFreshAsk : Configuration → (Ask → Type 0) → Type 0
OfEachFreshAsk c Holds =
    IsNumbered c → (k : Counts) (h : List Event) (e : Event) → IsCarried e → AllByRecursion Holds (asks (state_after c k h) e)

-- Each ask lies in a shape.
abbrev pub AsksLieInShapes : Type 0
AsksLieInShapes = (c : Configuration) → OfEachAsk c (λ ask. LiesInOne (shapes c) ask)

-- So does each after every history; and so it is of each law below, since the state after a history is one of the configuration.
abbrev pub FreshAsksLieInShapes : Type 0
FreshAsksLieInShapes = (c : Configuration) → OfEachFreshAsk c (λ ask. LiesInOne (shapes c) ask)

-- no ask of any event has the rule of this number as its first
abbrev pub NeverDecides : Configuration → ℕ → Type 0
NeverDecides c number = OfEachAsk c (λ ask. first c.rules ask ≡ Some number → ⊥)

-- So a rule that is never the first of an ask of the shapes decides nothing that the gateway does.
abbrev pub NeverFirstNeverDecides : Type 0
NeverFirstNeverDecides =
    (c : Configuration) (number : ℕ) → IsNeverFirst (shapes c) c.rules number → NeverDecides c number

-- ---- what a lint says of a rule

-- the findings that a rule decides nothing
abbrev pub says_never : Finding → Bool
says_never finding.MatchesNothing = true
says_never (finding.TakenBy by) = true
says_never finding.TakenTogether = true
says_never (finding.Decides ask) = false
says_never finding.Unknown = false

-- A rule of which that is true over the shapes of a configuration decides no ask of any event, whatever came before.
abbrev pub FoundNeverDecides : Type 0
FoundNeverDecides = (c : Configuration) (number : ℕ) (rule : Rule) (found : Finding) → HasNumber c.rules number rule →
    says_never found ≡ true → Finds (shapes c) c.rules number rule found → NeverDecides c number

-- ---- a peer that registers

-- The ask of which a warning says that the policy allows it is the one that the peer raises by registering at its port,
-- for whatever time: a port that has peers is the broadcast manager of its subnet, as each port of a configuration is that
-- has no other one beside it.
abbrev pub PeersRaiseTheAsk : Type 0
PeersRaiseTheAsk = (format : Format) (place : ℕ) (port : Port) (peer : BipAddr) (time_to_live : ℕ) →
    is_managed port ≡ true → 1 ≤ length port.peers →
    link_asks format (port_of (place + 1) port) peer (register time_to_live) ≡ register_ask format place port peer ∷ []

-- ---- the rule of a line

-- an event whose sender is an address, as each value of the type is
abbrev pub IsSent : Event → Type 0
IsSent (Datagram port from octets) = IsAddress from
IsSent Tick = ⊤

-- the answer that the rule of this number and name denies, with what is said of it
abbrev pub denied_by : (said : Option ℕ → List ℕ) → ℕ → List ℕ → List ℕ
denied_by said number name =
    codes "deny rule " ++ decimal number ++ codes " " ++ name ++ said (Some number) ++ 10 ∷ []

-- The answer names the rule of the denial: the first one that matches its ask, which has the name
-- that the line shows. If none matches it says so, and the line shows `default`.
abbrev pub NamesTheRule : List Rule → (said : Option ℕ → List ℕ) → Denial → ShownAsk → Type 0
NamesTheRule rules said d shown =
    ((first rules d.ask ≡ None) × (d.rule ≡ default_name) × (answer_to rules said shown ≡ codes "deny default" ++ 10 ∷ []))
    ⊎ ((number : ℕ) × (first rules d.ask ≡ Some number) × (answer_to rules said shown ≡ denied_by said number d.rule))

-- For each line that a gateway wrote while it went by a configuration, the answer under the same configuration names that
-- line's rule.
abbrev pub WhyNamesTheRule : Type 0
WhyNamesTheRule = (c : Configuration) (lines : List ℕ) (w : State) → IsStateUnder c w → (e : Event) → IsSent e →
    AllByRecursion (λ d. (line : List ℕ) (shown : ShownAsk) → IsShowable d → IsLineOf line d → ShowsAsk line shown
    → NamesTheRule c.rules (said_text c lines) d shown) (effects_at w e).denials
