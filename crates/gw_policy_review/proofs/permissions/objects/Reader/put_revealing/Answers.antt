use Rattle.std.proofs.Common.{◌≡◌, ◌∙◌, ap, subst, sym}
use Rattle.gw_ask_sets.specs.shapes.Shapes.{only}
use Rattle.gw_policy_review.specs.declared.permissions.questions.Point.{Point}
use Rattle.gw_policy_review.specs.permissions.Permissions.{IsRead, point_of}
use Rattle.gw_policy_review.proofs.permissions_lemmas.Reading.{nothing_revealed, revealed}
use Rattle.gw_policy_review.proofs.permissions.objects.Reader.put_revealing.Goals as goal

pub returns-then-is_never : goal.returns-then-is_never
returns-then-is_never c =
    let reader = c.args.self.now in
    let found = c.in_ok-found.found in
    let same : c.point_of.result ≡ point_of reader.at.object.now (only 85) = c.point_of.ensures ∙ ap (point_of reader.at.object.now) c.only.ensures in
    revealed c.put_properties.result reader.config.now reader.at.number reader.at.object.now reader.network c.args.left found.left found.outcome
    c.args.out.now.items c.put_properties.new.out.items
    (subst (λ (p : Point). IsRead reader.config.now reader.network p c.args.left found.left found.outcome) same c.in_ok-found.ensures)
    (sym c.if-is_never.ensures) c.put_properties.ensures

pub returns-else-is_never : goal.returns-else-is_never
returns-else-is_never c =
    let reader = c.args.self.now in
    let found = c.in_ok-found.found in
    let same : c.point_of.result ≡ point_of reader.at.object.now (only 85) = c.point_of.ensures ∙ ap (point_of reader.at.object.now) c.only.ensures in
    nothing_revealed reader.config.now reader.at.number reader.at.object.now reader.network c.args.left found.left found.outcome c.args.out.now.items
    (subst (λ (p : Point). IsRead reader.config.now reader.network p c.args.left found.left found.outcome) same c.in_ok-found.ensures)
    (sym c.if-is_never.ensures)
