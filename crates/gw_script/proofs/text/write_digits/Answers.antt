use Rattle.std.proofs.Common.{arith}
use Rattle.gw_script.proofs.DigitLemmas.{written_whole}
use Rattle.gw_script.proofs.text.write_digits.Goals as goal

pub returns-then-octets-lt-BLOCK : goal.returns-then-octets-lt-BLOCK
returns-then-octets-lt-BLOCK c = written_whole c.args.octets.now c.write_each.new.digits (omega arith) c.write_each.ensures

pub returns-else-octets-lt-BLOCK : goal.returns-else-octets-lt-BLOCK
returns-else-octets-lt-BLOCK c = written_whole c.args.octets.now c.write_blocks.new.digits (omega arith) c.write_blocks.ensures
