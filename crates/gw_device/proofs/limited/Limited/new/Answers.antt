use Rattle.std.proofs.Common.{ℕ, List, Some, ap, refl}
use Rattle.gw_device.specs.Response.{header_room}
use Rattle.gw_device.proofs.limited.Limited.new.Goals as goal

pub returns : goal.returns
returns c = λ apdu behind. c.count.ensures header_room apdu (ap (λ (octets : List ℕ). Some octets) behind) refl
