-- What is shown as denied is what the log has.
use Rattle.std.proofs.Common.{◌≡◌, ◌∙◌, ◌+◌, ℕ, Bool, true, false, List, [], ◌∷◌, Option, Some, None, map, refl, ap}
use Rattle.gw_core.specs.Asked.{asked_at, asked_from, asked_of, refused_of}
use Rattle.gw_core.specs.Asks.{asks}
use Rattle.gw_core.specs.Denials.{denials_at, denials_from, denials_of}
use Rattle.gw_core.specs.Effects.{effects_at}
use Rattle.gw_core.specs.Receive.{Origin, origin, receive}
use Rattle.gw_core.specs.declared.asked.Asked.{Asked}
use Rattle.gw_core.proofs.AskedLemmas.{refused_are}
use Rattle.gw_log_words.specs.Words.{words}
use Rattle.gw_rules.specs.Asker.{verdicts_of}
use Rattle.gw_rules.specs.declared.refusal.Refusal.{Refusal}
use Rattle.gw_rules.specs.declared.rule.Rule.{Rule}
use Rattle.gw_rules.specs.declared.verdict.Verdict.{Verdict}
use Rattle.gw_verdicts.specs.questions.Answers.{logged}
use Rattle.gw_verdicts.specs.questions.Laws.{DeniedIsLogged, denied}

abbrev said : List Rule → Asked → List ℕ
said rules one = words false (logged rules one)

abbrev Same : List Rule → Origin → ℕ → ℕ → List Verdict → Type 0
Same rules from t n l = map (said rules) (denied (map (asked_from from) l)) ≡ map (words false) (denials_from rules n t from (refused_of l))

one_origin : (rules : List Rule) (from : Origin) (n t : ℕ) (l : List Verdict)
    → Same rules from t n l
one_origin rules from n t [] = refl
one_origin rules from n t (v ∷ l) = by v.is_allowed v.is_quiet refl refl (one_origin rules from n t l) (one_origin rules from (n + 1) t l)
  where
    by : (b quiet : Bool) → v.is_allowed ≡ b → v.is_quiet ≡ quiet → Same rules from t n l → Same rules from t (n + 1) l
        → Same rules from t n (v ∷ l)
    by true quiet is so here later = rw is here
    by false true is so here later = rw (is, so) here
    by false false is so here later = rw (is, so) (ap (λ (s : List (List ℕ)). said rules (asked_from from v) ∷ s) later)

of_origin : (rules : List Rule) (from : Option Origin) (n t : ℕ) (l : List Verdict)
    → map (said rules) (denied (asked_of from l)) ≡ map (words false) (denials_of rules n t from (refused_of l))
of_origin rules None n t l = refl
of_origin rules (Some from) n t l = one_origin rules from n t l

pub denied_is_logged : DeniedIsLogged
unfolding asked_at effects_at denials_at asks
denied_is_logged w e =
    of_origin w.rules (origin (receive w e)) (w.denials + 1) w.ticks (verdicts_of w.rules (asks w e))
    ∙ ap (λ (l : List Refusal). map (words false) (denials_of w.rules (w.denials + 1) w.ticks (origin (receive w e)) l))
    (refused_are w.rules (asks w e))
