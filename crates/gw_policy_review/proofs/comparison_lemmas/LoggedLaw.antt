-- Where nothing differs, the logs have the same denials.
use Rattle.std.proofs.Common.{◌≡◌, ◌∙◌, ap, not, refl, sym, Bool, true, false, List}
use Rattle.std.specs.Prelude.{◌&&◌}
use Rattle.std.proofs.lemmas.Bool.{and_parts}
use Rattle.gw_rules.specs.RuleList.{has_no_quiet, is_logged}
use Rattle.gw_rules.specs.declared.rule.Rule.{Rule}
use Rattle.gw_rules.proofs.Logged.{all_logged}
use Rattle.gw_policy_review.specs.comparison.Laws.{AlikeIsLogged}
use Rattle.gw_policy_review.specs.declared.comparison.comparison.Compared.TheVariants as compared
use Rattle.gw_policy_review.proofs.comparison_lemmas.PartsLaw.{alike_is_like}
use Rattle.gw_policy_review.proofs.comparison_lemmas.TextLaw.{alike_is_alike}

pub alike_is_logged : AlikeIsLogged
alike_is_logged old new most text written ask is = by (has_no_quiet old.rules && has_no_quiet new.rules) refl
  where
    by : (b : Bool) → (has_no_quiet old.rules && has_no_quiet new.rules) ≡ b → is_logged old.rules ask ≡ is_logged new.rules ask
    by true none =
        let both = and_parts (has_no_quiet old.rules) (has_no_quiet new.rules) none in
        all_logged old.rules ask both.0 ∙ (ap not (alike_is_alike old new most compared.Alike text written refl ask is)
        ∙ sym (all_logged new.rules ask both.1))
    by false some = ap (λ (rules : List Rule). is_logged rules ask) ((alike_is_like old new most text written).quiets some)
