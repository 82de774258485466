use Rattle.gw_wire.proofs.SpacedLemmas.{ticks_are_spaced}
use Rattle.gw_wire.proofs.laws.spacing.Goals as goal

pub returns : goal.returns
returns g c = ticks_are_spaced g.S.Sock.look_count g.S.Sock.is_empty g.S.Sock.Answered g.P.Waiter.Quiet
