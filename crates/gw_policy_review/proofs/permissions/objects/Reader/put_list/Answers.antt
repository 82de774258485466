use Rattle.std.proofs.Common.{◌≡◌, ◌∙◌, ap, subst}
use Rattle.gw_policy_review.specs.declared.permissions.questions.Point.{Point}
use Rattle.gw_policy_review.specs.permissions.Permissions.{IsRead, object_list}
use Rattle.gw_policy_review.proofs.permissions_lemmas.Reading.{listed}
use Rattle.gw_policy_review.proofs.permissions.objects.Reader.put_list.Goals as goal

pub returns : goal.returns
returns c =
    let reader = c.args.self.now in
    let config = reader.config.now in
    let found = c.in_ok-found.found in
    let same : c.object_list.result ≡ object_list config.device = c.object_list.ensures ∙ ap object_list c.device.ensures.device in
    listed config reader.at.number reader.at.object.now reader.network c.args.left found.left found.outcome c.args.out.now.items
    c.put_list_line.new.out.items
    (subst (λ (p : Point). IsRead config reader.network p c.args.left found.left found.outcome) same c.in_ok-found.ensures)
    c.in_ok-put_list_line.ensures
