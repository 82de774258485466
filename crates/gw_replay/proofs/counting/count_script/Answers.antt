use Rattle.std.proofs.Common.{ap, sym, ◌∙◌, ◌≡◌, ◌+◌, List, ℕ, length}
use Rattle.std.specs.Global.{Vec}
use Rattle.gw_core.specs.State.{State}
use Rattle.gw_rules.specs.declared.rule.Rule.{Rule}
use Rattle.gw_decisions.specs.tally.Tally.{tally_text}
use Rattle.gw_replay.proofs.CountingLemmas.{if_some, reported}
use Rattle.gw_replay.proofs.counting.count_script.Goals as goal

pub lines-requires : goal.lines-requires
lines-requires g c =
    let rules = c.count_each.ensures.rules ∙ ap (λ (w : State). w.rules) c.in-Ok.ensures.state in
    c.count_each.ensures.places ∙ c.in-Ok.ensures.none.places ∙ ap (λ (r : List Rule). length r + 1) (sym rules)

pub returns : goal.returns
returns g c = λ script known.
    let first = c.in-Ok.counting in
    let last = c.count_each.new.self in
    let rules = c.count_each.ensures.rules ∙ ap (λ (w : State). w.rules) c.in-Ok.ensures.state in
    if_some c.lines.result
    (λ (text : Vec ℕ) is. reported c.args.config script first.tally last.tally text.items c.announces-announces.result c.ports-ports.result first.gateway
    c.in-Ok.ensures.state c.announces-announces.ensures c.ports-ports.ensures.count c.in-Ok.ensures.none (c.in-Ok-count_each.ensures.counted script known)
    (is ∙ ap (λ (r : List Rule). tally_text r last.tally) rules)) c.lines.ensures
