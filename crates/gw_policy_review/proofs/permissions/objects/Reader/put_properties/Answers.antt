use Rattle.gw_policy_review.proofs.permissions_lemmas.Reading.{two_properties}
use Rattle.gw_policy_review.proofs.permissions.objects.Reader.put_properties.Goals as goal

pub returns : goal.returns
returns c =
    let reader = c.args.self.now in
    two_properties c.put_property-2.result reader.config.now reader.at.number reader.at.object.now reader.network c.args.left c.in_ok-between.between
    c.args.out.now.items c.put_property.new.out.items c.put_property-2.new.out.items c.in_ok-between.ensures c.put_property-2.ensures
