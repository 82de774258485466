-- What a guard sees of what an event asks.
use Rattle.std.specs.Prelude.{◌≡◌, ℕ, Bool, true, List, [], Option, filter, map}
use Rattle.gw_rules.specs.declared.verdict.Verdict.{Verdict}
use Rattle.gw_core.specs.declared.asked.Asked.{Asked}

-- by which rule each ask was decided, in order, and the asks that are kept whole
pub record Seen : Type 0 where
  pub deciders : List (Option ℕ)
  pub kept : List Asked

-- of nothing
abbrev pub nothing_seen : Seen
nothing_seen = record { deciders = []; kept = [] }

-- of these asks, if these verdicts are kept whole
abbrev pub seen_of : (Verdict → Bool) → List Asked → Seen
seen_of keeps asked = record {
  deciders = map (λ a. a.verdict.by) asked;
  kept = filter (λ a. keeps a.verdict) asked;
}

-- What is seen of these asks has each that is wanted whole, and perhaps others, in their order.
pub record IsSeenOf (keeps : Verdict → Bool) (asked : List Asked) (seen : Seen) : Type 0 where
  pub all : Verdict → Bool
  pub wanted : (v : Verdict) → keeps v ≡ true → all v ≡ true
  pub is : seen ≡ seen_of all asked
