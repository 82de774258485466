use Rattle.std.proofs.Common.{sym}
use Rattle.gw_verdicts.proofs.questions_lemmas.Octets.{too_many}
use Rattle.gw_verdicts.proofs.questions.place.mac_in.Goals as goal

pub returns-then-len-gt-MAX_STATION : goal.returns-then-len-gt-MAX_STATION
returns-then-len-gt-MAX_STATION c = sym (too_many c.args.digits.now c.if-len-gt-MAX_STATION.true)
