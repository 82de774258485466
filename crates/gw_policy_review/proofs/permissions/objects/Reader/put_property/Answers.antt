use Rattle.std.proofs.Common.{◌≡◌, ◌∙◌, ap, subst}
use Rattle.gw_ask_sets.specs.shapes.Shapes.{only}
use Rattle.gw_policy_review.specs.declared.permissions.questions.Point.{Point}
use Rattle.gw_policy_review.specs.permissions.Permissions.{IsRead, point_of}
use Rattle.gw_policy_review.proofs.permissions_lemmas.Reading.{one_property}
use Rattle.gw_policy_review.proofs.permissions.objects.Reader.put_property.Goals as goal

pub returns : goal.returns
returns c =
    let reader = c.args.self.now in
    let found = c.in_ok-found.found in
    let same : c.point_of.result ≡ point_of reader.at.object.now (only c.args.property.number) = c.point_of.ensures ∙ ap (point_of reader.at.object.now) c.only.ensures in
    one_property reader.config.now reader.at.number reader.at.object.now reader.network c.args.property.number c.args.property.name.now c.args.left found.left found.outcome
    c.args.out.now.items c.put_property_line.new.out.items
    (subst (λ (p : Point). IsRead reader.config.now reader.network p c.args.left found.left found.outcome) same c.in_ok-found.ensures)
    c.in_ok-put_property_line.ensures
