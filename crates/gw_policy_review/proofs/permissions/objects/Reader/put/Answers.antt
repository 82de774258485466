use Rattle.std.proofs.Common.{◌≡◌, ◌∙◌, ap, subst, sym}
use Rattle.gw_rules.specs.declared.field.FieldName.TheVariants as fields
use Rattle.gw_ask_sets.specs.shapes.Shapes.{some}
use Rattle.gw_policy_review.specs.declared.permissions.questions.Point.{Point}
use Rattle.gw_policy_review.specs.permissions.Permissions.{IsRead, point_of}
use Rattle.gw_policy_review.proofs.permissions_lemmas.Reading.{hidden, seen}
use Rattle.gw_policy_review.proofs.permissions.objects.Reader.put.Goals as goal

pub returns-then-is_never : goal.returns-then-is_never
returns-then-is_never c =
    let reader = c.args.self.now in
    let found = c.in_ok-found.found in
    let same : c.point_of.result ≡ point_of reader.at.object.now (some fields.Property) =
    c.point_of.ensures ∙ ap (point_of reader.at.object.now) c.any_property.ensures in
    hidden c.put_hiding.result reader.config.now reader.at.number reader.at.object.now reader.network c.args.left found.left found.outcome
    c.args.out.now.items c.put_hiding.new.out.items
    (subst (λ (p : Point). IsRead reader.config.now reader.network p c.args.left found.left found.outcome) same c.in_ok-found.ensures)
    (sym c.if-is_never.ensures) c.put_hiding.ensures

pub returns-else-is_never : goal.returns-else-is_never
returns-else-is_never c =
    let reader = c.args.self.now in
    let found = c.in_ok-found.found in
    let same : c.point_of.result ≡ point_of reader.at.object.now (some fields.Property) =
    c.point_of.ensures ∙ ap (point_of reader.at.object.now) c.any_property.ensures in
    seen c.put_revealing.result reader.config.now reader.at.number reader.at.object.now reader.network c.args.left found.left found.outcome
    c.args.out.now.items c.put_revealing.new.out.items
    (subst (λ (p : Point). IsRead reader.config.now reader.network p c.args.left found.left found.outcome) same c.in_ok-found.ensures)
    (sym c.if-is_never.ensures) c.put_revealing.ensures
