use Rattle.gw_policy_review.specs.permissions.Permissions.{identifier_words, name_words}
use Rattle.gw_policy_review.proofs.permissions_lemmas.Appending.{two}
use Rattle.gw_policy_review.proofs.permissions.objects.NumberedObject.put.Goals as goal

pub returns : goal.returns
returns c =
    two c.put_name.result c.args.out.now.items c.put_identifier.new.out.items c.put_name.new.out.items
    (identifier_words c.args.self.now.number c.args.self.now.object.now) (name_words c.args.self.now.object.now) c.in_ok-put_identifier.ensures c.put_name.ensures
