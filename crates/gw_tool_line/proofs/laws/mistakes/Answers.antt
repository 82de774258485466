use Rattle.gw_tool_line.proofs.CallLemmas.{calls_are_refused}
use Rattle.gw_tool_line.proofs.laws.mistakes.Goals as goal

pub returns : goal.returns
returns c = calls_are_refused
