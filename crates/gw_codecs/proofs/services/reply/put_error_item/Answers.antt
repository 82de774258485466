use Rattle.gw_addr.proofs.Appended.{then_put}
use Rattle.gw_codecs.proofs.services.reply.put_error_item.Goals as goal

pub returns : goal.returns
returns c =
    then_put c.in_ok-put_item_name.ensures c.put_enclosed_error.ensures
