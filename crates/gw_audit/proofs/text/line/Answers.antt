use Rattle.std.proofs.Common.{rules}
use Rattle.gw_audit.proofs.Pieces.{line_pieces}
use Rattle.gw_audit.proofs.text.line.Goals as goal

pub returns : goal.returns
returns c = rw (line_pieces c.args.denial.now) (search rules)
