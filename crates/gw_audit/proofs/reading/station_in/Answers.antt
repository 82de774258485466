use Rattle.std.proofs.Common.{sym}
use Rattle.gw_audit.proofs.MacLemmas.{too_many}
use Rattle.gw_audit.proofs.reading.station_in.Goals as goal

pub returns-then-len-gt-MAX_STATION : goal.returns-then-len-gt-MAX_STATION
returns-then-len-gt-MAX_STATION c = sym (too_many c.args.text.now c.if-len-gt-MAX_STATION.true)
