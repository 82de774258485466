use Rattle.std.proofs.Common.{List, length, rules, ◌≡◌, ◌∙◌, ◌<◌, ◌≤◌, ◌+◌, ap, get_or, subst}
use Rattle.std.proofs.lemmas.List.{drop_all}
use Rattle.gw_configuration.specs.declared.port.Port.{Port}
use Rattle.gw_policy_review.specs.permissions.Permissions.{AppendsPort, IsPort}
use Rattle.gw_policy_review.proofs.permissions_lemmas.InTurn.{turned_all, turned_more, turned_none}
use Rattle.gw_policy_review.proofs.permissions.ports.put_ports.Goals as goal

pub loop-place-init : goal.loop-place-init
loop-place-init c =
    turned_none (IsPort c.args.placed.now.config.now c.args.placed.now.lines.now) c.args.placed.now.config.now.ports c.args.left
    c.args.out.now.items

pub loop-place-preserved : goal.loop-place-preserved
loop-place-preserved c =
    let config = c.args.placed.now.config.now in
    let lines = c.args.placed.now.lines.now in
    let place = c.loop-place.place in
    let now = c.loop-place.rest in
    let after = c.in_ok-rest.rest in
    let within : place < length config.ports = search rules in
    let item = c.index-ports-place.result in
    let here : item ≡ get_or config.ports place item =
    c.index-ports-place.is ∙ ap (λ (ps : List Port). get_or ps place item) c.ports-ports.ensures.ports in
    let grown = subst (λ (one : Port). AppendsPort config lines (place + 1) one now after c.loop-place.out.items c.put_port.new.out.items)
    here c.in_ok-rest.ensures in
    turned_more (IsPort config lines) config.ports place item c.args.left now after c.args.out.now.items c.loop-place.out.items
    c.put_port.new.out.items within c.loop-place.invariant grown

pub returns : goal.returns
returns c =
    let ports = c.args.placed.now.config.now.ports in
    let ends : length ports ≤ c.loop-place.place = search rules in
    turned_all (IsPort c.args.placed.now.config.now c.args.placed.now.lines.now) ports c.loop-place.place c.args.left c.loop-place.rest
    c.args.out.now.items c.loop-place.out.items (drop_all c.loop-place.place ports ends) c.loop-place.invariant
