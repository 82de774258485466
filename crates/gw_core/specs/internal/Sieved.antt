-- What is kept of the verdicts on what was asked.
use Rattle.std.specs.Prelude.{◌≡◌, ◌&&◌, Bool, List, [], ◌∷◌, ◌++◌, filter, if◌then◌else◌, map, not, ℕ, Option}
use Rattle.gw_rules.specs.Asker.{is_refused}
use Rattle.gw_rules.specs.declared.rule.Rule.{Rule}
use Rattle.gw_rules.specs.declared.verdict.Verdict.{Verdict}
use Rattle.gw_core.specs.Asked.{refused, refused_of}
use Rattle.gw_core.specs.declared.sieve.Sieved.{Sieved}

-- what contracts see of a sieve
pub record SieveState (G : Type 0) : Type 0 where
  pub policy : List Rule
  pub guard : G
  pub verdicts : List Verdict

-- the rules by which asks were decided
abbrev pub deciders_of : List Verdict → List (Option ℕ)
deciders_of verdicts = map (λ v. v.by) verdicts

-- of these verdicts the refusals are kept, the deciding rules, and whole those that are wanted whole
pub record IsSieved (keeps : Verdict → Bool) (verdicts : List Verdict) (sieved : Sieved) : Type 0 where
  pub refusals : sieved.refusals ≡ refused_of verdicts
  pub deciders : sieved.deciders ≡ deciders_of verdicts
  pub kept : sieved.kept ≡ filter keeps verdicts

-- a verdict more, which is kept whole or not
abbrev pub sieved_on : Bool → Verdict → Sieved → Sieved
sieved_on is_kept v s = record {
  refusals = s.refusals ++ (if is_refused v then refused v ∷ [] else []);
  deciders = s.deciders ++ v.by ∷ [];
  kept = s.kept ++ (if is_kept then v ∷ [] else []);
}
