use Rattle.std.proofs.Common.{◌≡◌, ◌∙◌, ℕ, None, ap}
use Rattle.gw_configuration.specs.Kinds.{type_number}
use Rattle.gw_rules.specs.Hides.{hides_from_network, may_match_some, must_match_all, reading}
use Rattle.gw_rules.proofs.Hiding.{hides_iff}
use Rattle.gw_policy_review.proofs.permissions_lemmas.Truth.{same_truth}
use Rattle.gw_policy_review.proofs.permissions.objects.is_hidden.Goals as goal

pub returns : goal.returns
returns c =
    let rules = c.args.rules.now in
    let network = c.from.result in
    let kind = c.type_number-kind.result in
    let instance = c.from-2.result in
    let read = reading network None kind instance in
    let said : c.hides_from_network.result ≡ hides_from_network rules network kind instance =
    same_truth _ _ c.hides_from_network.ensures.hides (hides_iff (may_match_some read) (must_match_all read) rules) in
    said ∙ ap (λ (n : ℕ). hides_from_network rules n kind instance) c.from.ensures
    ∙ ap (λ (k : ℕ). hides_from_network rules c.args.network k instance) c.type_number-kind.ensures
    ∙ ap (λ (i : ℕ). hides_from_network rules c.args.network (type_number c.args.object.now.value) i) (c.from-2.ensures ∙ c.get.ensures.value)
