use Rattle.std.proofs.Common.{rules}
use Rattle.gw_audit.proofs.Pieces.{ask_pieces}
use Rattle.gw_audit.proofs.text.put_ask.Goals as goal

pub returns : goal.returns
returns c = rw (ask_pieces c.args.source.now c.args.ask.now) (search rules)
