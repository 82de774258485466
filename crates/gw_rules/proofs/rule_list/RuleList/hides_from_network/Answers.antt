use Rattle.std.proofs.Common.{◌≡◌, ◌∙◌, ap, sym, None}
use Rattle.gw_rules.specs.Ask.{Ask}
use Rattle.gw_rules.specs.Hides.{hides, hides_from_network, may_match_some, must_match_all, reading}
use Rattle.gw_rules.proofs.Hiding.{hidden_from_network, hides_iff}
use Rattle.gw_rules.proofs.rule_list.RuleList.hides_from_network.Goals as goal

pub returns-clause-hides : goal.returns-clause-hides
returns-clause-hides c =
    let said : c.hides_all_by.result ≡ hides_from_network c.args.self.now c.args.net c.args.kind c.args.instance =
    c.hides_all_by.ensures ∙ ap (λ (ask : Ask). hides (may_match_some ask) (must_match_all ask) c.args.self.now) c.reading-ask.ensures in
    let read = reading c.args.net None c.args.kind c.args.instance in
    let words = hides_iff (may_match_some read) (must_match_all read) c.args.self.now in
    (λ t. words.0 (sym said ∙ t), λ h. said ∙ words.1 h)

pub returns-clause-hidden : goal.returns-clause-hidden
returns-clause-hidden c t =
    let said : c.hides_all_by.result ≡ hides_from_network c.args.self.now c.args.net c.args.kind c.args.instance =
    c.hides_all_by.ensures ∙ ap (λ (ask : Ask). hides (may_match_some ask) (must_match_all ask) c.args.self.now) c.reading-ask.ensures in
    hidden_from_network c.args.self.now c.args.net c.args.kind c.args.instance (sym said ∙ t)
