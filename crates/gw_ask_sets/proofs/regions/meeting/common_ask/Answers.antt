use Rattle.std.proofs.Common.{rules, of_calls}
use Rattle.gw_ask_sets.proofs.regions.meeting.common_ask.Goals as goal

pub returns : goal.returns
returns c field = let called = c.in-Ok.ensures field in search (of_calls, rules)
