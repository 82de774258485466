-- What is recorded of asks may be.
use Rattle.std.specs.Prelude.{◌≡◌, ◌&&◌, ℕ, Bool, true, false, List, Option, Some, None, refl, if◌then◌else◌}
use Rattle.gw_core.specs.declared.asked.Asked.{Asked}
use Rattle.gw_rules.specs.RuleList.{allows, first, is_logged}
use Rattle.gw_watchers.specs.Records.{audited_by, audits, denied_by, decided_otherwise, is_marked, tried_by, tries, unlike}
use Rattle.gw_watchers.specs.declared.trial.Trial.{Trial}

if_some : (b : Bool) (x by : Option ℕ) → ◌≡◌ {A = Option (Option ℕ)} (if b then Some x else None) (Some by) → b ≡ true
if_some true x by is = refl
if_some false x by is = absurd cc

pub tries_what_is_tried : (trial : Trial) (a : Asked) (by : Option ℕ) → tried_by trial a ≡ Some by → tries trial a.verdict ≡ true
tries_what_is_tried trial a by = at trial.has_all_denied
  where
    at : (all : Bool) → ◌≡◌ {A = Option (Option ℕ)} (if all then denied_by trial.policy a else decided_otherwise trial.policy a) (Some by)
        → (if all then is_logged trial.policy a.verdict.ask else unlike a.verdict.is_allowed (allows trial.policy a.verdict.ask)) ≡ true
    at true is = if_some (is_logged trial.policy a.verdict.ask) (first trial.policy a.verdict.ask) by is
    at false is = if_some (unlike a.verdict.is_allowed (allows trial.policy a.verdict.ask)) (first trial.policy a.verdict.ask) by is

pub audits_what_is_audited : (marks : List Bool) (a : Asked) (by : Option ℕ) → audited_by marks a ≡ Some by → audits marks a.verdict ≡ true
audits_what_is_audited marks a by is = if_some (a.verdict.is_allowed && is_marked marks a.verdict.by) a.verdict.by by is
