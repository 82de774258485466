use Rattle.std.proofs.Common.{◌≡◌, ◌∙◌, ◌++◌, ◌<◌, ℕ, ap, arith, codes, length}
use Rattle.std.proofs.lemmas.Result.{on_ok_weaker}
use Rattle.gw_notices.proofs.metrics_lemmas.Samples.{decided}
use Rattle.gw_notices.specs.metrics.Text.{Count, default_sample, full_line, labelled}
use Rattle.gw_notices.specs.declared.metrics.family.Family.TheVariants as family
use Rattle.gw_notices.specs.declared.metrics.family.SampleLabel.TheVariants as label
use Rattle.gw_notices.proofs.metrics.text.put_decided.Goals as goal

pub returns : goal.returns
returns c =
    let counts = c.args.counts.now in
    let head = c.put_head.new.out.items in
    let first = c.put_counted.new.out.items in
    let inside : 0 < length counts = omega (arith, c.requires) in
    let then : first ≡ head ++ full_line (Count family.Decisions (default_sample counts)) =
    c.in_ok-put_counted.ensures
    ∙ ap (λ (n : ℕ). head ++ full_line (Count family.Decisions (labelled label.Rule (codes "default") n))) (c.count.ensures inside) in
    on_ok_weaker c.put_rules.result
    (decided c.args.rules.now counts c.args.out.now.items head first c.put_rules.new.out.items c.in_ok-put_head.ensures then)
    c.put_rules.ensures
