use Rattle.std.proofs.Common.{List, length, rules, ◌≡◌, ◌∙◌, ◌<◌, ◌≤◌, ◌+◌, ap, get_or, subst}
use Rattle.std.proofs.lemmas.List.{drop_all}
use Rattle.gw_configuration.specs.declared.object.Object.{Object}
use Rattle.gw_policy_review.specs.permissions.Permissions.{AreObjectLines}
use Rattle.gw_policy_review.specs.permissions.Texts.{Appends}
use Rattle.gw_policy_review.proofs.permissions_lemmas.InTurn.{turned_all, turned_more, turned_none}
use Rattle.gw_policy_review.proofs.permissions.objects.put_objects.Goals as goal

pub loop-place-init : goal.loop-place-init
loop-place-init c = turned_none (AreObjectLines c.args.config.now) c.args.config.now.objects c.args.left c.args.out.now.items

pub loop-place-preserved : goal.loop-place-preserved
loop-place-preserved c =
    let config = c.args.config.now in
    let place = c.loop-place.place in
    let now = c.loop-place.rest in
    let after = c.in_ok-rest.rest in
    let within : place < length config.objects = search rules in
    let item = c.index-objects-place.result in
    let here : item ≡ get_or config.objects place item =
    c.index-objects-place.is ∙ ap (λ (os : List Object). get_or os place item) c.objects-objects.ensures.objects in
    let grown = subst (λ (one : Object). Appends (AreObjectLines config (place + 1) one now after) c.loop-place.out.items c.put_object.new.out.items)
    here c.in_ok-rest.ensures in
    turned_more (AreObjectLines config) config.objects place item c.args.left now after c.args.out.now.items c.loop-place.out.items
    c.put_object.new.out.items within c.loop-place.invariant grown

pub returns : goal.returns
returns c =
    let objects = c.args.config.now.objects in
    let ends : length objects ≤ c.loop-place.place = search rules in
    turned_all (AreObjectLines c.args.config.now) objects c.loop-place.place c.args.left c.loop-place.rest c.args.out.now.items
    c.loop-place.out.items (drop_all c.loop-place.place objects ends) c.loop-place.invariant
