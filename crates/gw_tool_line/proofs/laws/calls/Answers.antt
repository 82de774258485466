use Rattle.gw_tool_line.proofs.CallLemmas.{calls_are_taken}
use Rattle.gw_tool_line.proofs.laws.calls.Goals as goal

pub returns : goal.returns
returns c = calls_are_taken
