use Rattle.std.proofs.Common.{List, ℕ, length, rules, ◌≡◌, ◌∙◌, ◌<◌, ◌≤◌, ap, get_or, subst}
use Rattle.std.proofs.lemmas.List.{drop_all}
use Rattle.gw_configuration.specs.declared.port.Port.{Port}
use Rattle.gw_policy_review.specs.permissions.Permissions.{AreReadings}
use Rattle.gw_policy_review.specs.permissions.Texts.{Appends}
use Rattle.gw_policy_review.proofs.permissions_lemmas.InTurn.{turned_all, turned_more, turned_none}
use Rattle.gw_policy_review.proofs.permissions.objects.put_object.Goals as goal

pub loop-place-init : goal.loop-place-init
loop-place-init c =
    turned_none (λ place (port : Port). AreReadings c.args.config.now c.args.at.now.number c.args.at.now.object.now port.network) c.args.config.now.ports
    c.args.left c.args.out.now.items

pub loop-place-preserved : goal.loop-place-preserved
loop-place-preserved c =
    let config = c.args.config.now in
    let place = c.loop-place.place in
    let now = c.loop-place.rest in
    let after = c.in_ok-rest.rest in
    let within : place < length config.ports = search rules in
    let item = c.index-ports-place.result in
    let network : c.get.result ≡ (get_or config.ports place item).network =
    c.get.ensures.value ∙ ap (λ (ps : List Port). (get_or ps place item).network) c.ports-ports.ensures.ports in
    let grown = subst (λ (n : ℕ). Appends (AreReadings config c.args.at.now.number c.args.at.now.object.now n now after) c.loop-place.out.items c.put.new.out.items)
    network c.in_ok-rest.ensures in
    turned_more (λ place (port : Port). AreReadings config c.args.at.now.number c.args.at.now.object.now port.network) config.ports place item
    c.args.left now after c.args.out.now.items c.loop-place.out.items c.put.new.out.items within c.loop-place.invariant grown

pub returns : goal.returns
returns c =
    let ports = c.args.config.now.ports in
    let ends : length ports ≤ c.loop-place.place = search rules in
    turned_all (λ place (port : Port). AreReadings c.args.config.now c.args.at.now.number c.args.at.now.object.now port.network) ports c.loop-place.place
    c.args.left c.loop-place.rest c.args.out.now.items c.loop-place.out.items (drop_all c.loop-place.place ports ends) c.loop-place.invariant
