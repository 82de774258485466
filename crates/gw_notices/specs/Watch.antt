-- What is reported of what watches a gateway.
use Rattle.std.specs.Prelude.{ℕ, ◌+◌, ◌==◌, if◌then◌else◌, List, [], ◌++◌, length, codes, decimal, Option, Some, None}
use Rattle.gw_rules.specs.declared.rule.Rule.{Rule}
use Rattle.gw_decisions.specs.tally.Tally.{tally_text}
use Rattle.gw_notices.specs.declared.watch_report.LogCount.{LogCount}
use Rattle.gw_notices.specs.declared.watch_report.WatchCounts.{WatchCounts}

-- the number of the last record of a log beside the log, and how many were lost
abbrev pub beside_text : List ℕ → ℕ → ℕ → List ℕ
beside_text front number lost = front ++ decimal number ++ codes " lost=" ++ decimal lost ++ codes "\n"

abbrev pub trial_text : Option LogCount → List ℕ
trial_text None = []
trial_text (Some b) = beside_text (codes "stats trial=") b.number b.lost

abbrev pub audit_text : Option LogCount → List ℕ
audit_text None = []
audit_text (Some b) = beside_text (codes "stats audit=") b.number b.lost

-- how many events weren't watched
abbrev pub unseen_text : ℕ → List ℕ
unseen_text unseen = codes "stats unseen=" ++ decimal unseen ++ codes "\n"

-- how many asks each rule decided, and how many none did
abbrev pub counts_text : List Rule → Option (List ℕ) → List ℕ
counts_text rules None = []
counts_text rules (Some counts) = if length counts == length rules + 1 then tally_text rules counts else []

abbrev pub logs_text : WatchCounts → List ℕ
logs_text w = trial_text w.trial ++ audit_text w.audit

abbrev pub watch_text : WatchCounts → List ℕ
watch_text w = logs_text w ++ unseen_text w.unseen
