-- Which asks are recorded beside the log, and what is recorded of them.
use Rattle.std.specs.Prelude.{ℕ, ◌-◌, ◌==◌, ◌&&◌, Bool, false, not, if◌then◌else◌, List, [], ◌∷◌, ◌++◌, codes, Option, Some, None}
use Rattle.std.specs.Prelude.{slice_get}
use Rattle.std.specs.List.{flat_map}
use Rattle.std.specs.Option.{option_map_or}
use Rattle.gw_audit.specs.Line.{line_text}
use Rattle.gw_audit.specs.declared.denial.Denial.{Denial}
use Rattle.gw_core.specs.Denials.{rule_name}
use Rattle.gw_core.specs.declared.asked.Asked.{Asked}
use Rattle.gw_rules.specs.RuleList.{allows, first, is_logged}
use Rattle.gw_rules.specs.declared.rule.Rule.{Rule}
use Rattle.gw_rules.specs.declared.verdict.Verdict.{Verdict}
use Rattle.gw_decisions.specs.tally.Tally.{one_more}
use Rattle.gw_watchers.specs.declared.trial.Trial.{Trial}

-- ---- which

-- two answers aren't the same
abbrev pub unlike : Bool → Bool → Bool
unlike a b = if a then not b else b

-- a policy on trial chooses the asks that it denies, but by quiet rules, each with its first rule, or none
abbrev pub denied_by : List Rule → Asked → Option (Option ℕ)
denied_by rules a = if is_logged rules a.verdict.ask then Some (first rules a.verdict.ask) else None

-- and those that it decides otherwise than was decided, each with its first rule, or none
abbrev pub decided_otherwise : List Rule → Asked → Option (Option ℕ)
decided_otherwise rules a =
    if unlike a.verdict.is_allowed (allows rules a.verdict.ask) then Some (first rules a.verdict.ask) else None

-- the ones or the others, as is wanted
abbrev pub tried_by : Trial → Asked → Option (Option ℕ)
tried_by trial a = if trial.has_all_denied then denied_by trial.policy a else decided_otherwise trial.policy a

-- the rule of this number is marked
abbrev pub is_marked_at : List Bool → ℕ → Bool
is_marked_at marks number =
    if number == 0 then false else option_map_or (λ mark. mark) (slice_get marks (number - 1)) false

-- a rule decides that is marked
abbrev pub is_marked : List Bool → Option ℕ → Bool
is_marked marks by = option_map_or (is_marked_at marks) by false

-- an audit chooses the asks that were allowed by a marked rule
abbrev pub audited_by : List Bool → Asked → Option (Option ℕ)
audited_by marks a = if a.verdict.is_allowed && is_marked marks a.verdict.by then Some a.verdict.by else None

-- ---- which may be

-- a policy on trial may choose the ask of this verdict
abbrev pub tries : Trial → Verdict → Bool
tries trial v = if trial.has_all_denied then is_logged trial.policy v.ask else unlike v.is_allowed (allows trial.policy v.ask)

-- an audit may choose the ask of this verdict
abbrev pub audits : List Bool → Verdict → Bool
audits marks v = v.is_allowed && is_marked marks v.by

-- ---- what

-- what is recorded of an ask: how its line begins, and what the log has of it
pub record Line : Type 0 where
  pub front : List ℕ
  pub denial : Denial

-- an ask as the log has a denied one, under the rule of this number, behind a front
abbrev pub record_of : List ℕ → List Rule → ℕ → ℕ → Asked → Option ℕ → Line
record_of front rules number tick a by = record {
  front = front;
  denial = record {
    number = number;
    tick = tick;
    port = a.port;
    source = a.source;
    ask = a.verdict.ask;
    rule = rule_name rules by;
  };
}

-- an ask that is chosen is recorded in front of the records after it, numbered one more than the last
abbrev pub recorded : Option (Option ℕ) → List ℕ → List Rule → ℕ → ℕ → Asked → (ℕ → List Line) → List Line
recorded None front rules last tick a later = later last
recorded (Some by) front rules last tick a later = record_of front rules (one_more last) tick a by ∷ later (one_more last)

-- the asks that are chosen, in order, each behind its front
abbrev pub records : (Asked → Option (Option ℕ)) → (Asked → List ℕ) → List Rule → ℕ → ℕ → List Asked → List Line
records chosen front rules last tick [] = []
records chosen front rules last tick (a ∷ asked) =
    recorded (chosen a) (front a) rules last tick a (λ number. records chosen front rules number tick asked)

-- the number of the last record
abbrev pub last_number : ℕ → List Line → ℕ
last_number last [] = last
last_number last (line ∷ lines) = last_number line.denial.number lines

-- a line for each record: its front, and what the log has
abbrev pub lines_of : List Line → List ℕ
lines_of records = flat_map (λ line. line.front ++ line_text line.denial) records

-- ---- fronts

-- `allow panel -> deny ` or `deny panel -> allow `: what was decided, by which of the rules in force, and what those on trial
-- decide, which is otherwise
abbrev pub verdicts_text : Bool → (name : List ℕ) → List ℕ
verdicts_text is_allowed name =
    (if is_allowed then codes "allow " else codes "deny ")
    ++ (name ++ (if is_allowed then codes " -> deny " else codes " -> allow "))

abbrev pub other_front : List Rule → Asked → List ℕ
other_front rules a = verdicts_text a.verdict.is_allowed (rule_name rules a.verdict.by)

-- of a trial: nothing, if it has all that is denied
abbrev pub trial_front : Trial → List Rule → Asked → List ℕ
trial_front trial rules a = if trial.has_all_denied then [] else other_front rules a

-- of an audit
abbrev pub audit_front : Asked → List ℕ
audit_front a = codes "allow "
