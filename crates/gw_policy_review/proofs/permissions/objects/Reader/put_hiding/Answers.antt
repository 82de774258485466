use Rattle.gw_policy_review.proofs.permissions_lemmas.Reading.{hiding}
use Rattle.gw_policy_review.proofs.permissions.objects.Reader.put_hiding.Goals as goal

pub returns : goal.returns
returns c =
    let reader = c.args.self.now in
    hiding c.put_list.result reader.config.now reader.at.number reader.at.object.now reader.network c.args.left c.args.out.now.items
    c.put_hidden.new.out.items c.extend_from_slice.new.self.items c.put_list.new.out.items c.in_ok-put_hidden.ensures
    c.in_ok-extend_from_slice.ensures.items c.put_list.ensures
