use Rattle.std.proofs.Common.{◌++◌, length, ap}
use Rattle.std.proofs.lemmas.List.{drop-replicate}
use Rattle.gw_addr.proofs.station.with_zeros.Goals as goal

pub returns : goal.returns
returns c = rw (c.copy_from_slice.ensures.after, c.split_at_mut-front.ensures.back) (ap (λ zeros. c.args.octets.now ++ zeros) (drop-replicate (length c.args.octets.now) 255 0))
