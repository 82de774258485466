use Rattle.gw_device.proofs.Unread.{unread}
use Rattle.gw_device.proofs.laws.unread_object.Goals as goal

pub returns : goal.returns
returns c = unread
