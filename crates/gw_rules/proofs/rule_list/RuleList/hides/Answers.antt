use Rattle.std.proofs.Common.{◌≡◌, ◌∙◌, ap, sym}
use Rattle.gw_rules.specs.Ask.{Ask}
use Rattle.gw_rules.specs.Hides.{hides, hides_from, may_match, must_match, reading}
use Rattle.gw_rules.proofs.Hiding.{hidden, hides_iff}
use Rattle.gw_rules.proofs.rule_list.RuleList.hides.Goals as goal

pub returns-clause-hides : goal.returns-clause-hides
returns-clause-hides c =
    let said : c.hides_by.result ≡ hides_from c.args.self.now c.args.net c.args.key c.args.kind c.args.instance =
    c.hides_by.ensures ∙ ap (λ (ask : Ask). hides (may_match ask) (must_match ask) c.args.self.now) c.reading-ask.ensures in
    let read = reading c.args.net c.args.key c.args.kind c.args.instance in
    let words = hides_iff (may_match read) (must_match read) c.args.self.now in
    (λ t. words.0 (sym said ∙ t), λ h. said ∙ words.1 h)

pub returns-clause-hidden : goal.returns-clause-hidden
returns-clause-hidden c t =
    let said : c.hides_by.result ≡ hides_from c.args.self.now c.args.net c.args.key c.args.kind c.args.instance =
    c.hides_by.ensures ∙ ap (λ (ask : Ask). hides (may_match ask) (must_match ask) c.args.self.now) c.reading-ask.ensures in
    hidden c.args.self.now c.args.net c.args.key c.args.kind c.args.instance (sym said ∙ t)
