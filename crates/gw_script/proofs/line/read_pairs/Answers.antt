use Rattle.std.proofs.Common.{length, arith}
use Rattle.gw_script.specs.internal.Pairs.{IsReadTo}
use Rattle.gw_script.proofs.PairLemmas.{is_read, is_refused}
use Rattle.gw_script.proofs.line.read_pairs.Goals.{Joined-octets-lt-BLOCK, then-octets-lt-BLOCK, else-octets-lt-BLOCK}
use Rattle.gw_script.proofs.line.read_pairs.Goals as goal

all_read : (c : Joined-octets-lt-BLOCK) → IsReadTo c.args.text.now c.if-octets-lt-BLOCK.octets (length c.if-octets-lt-BLOCK.octets) c.if-octets-lt-BLOCK.largest
all_read c =
    elim c.if-octets-lt-BLOCK.branch [
      | then-octets-lt-BLOCK w ↦ rw (w.octets-is, w.largest-is) w.read_few-largest.ensures
      | else-octets-lt-BLOCK w ↦ rw (w.octets-is, w.largest-is) w.read_blocks-largest.ensures
    ]

pub returns-clause-read : goal.returns-clause-read
returns-clause-read c = is_read c.args.text.now c.if-octets-lt-BLOCK.octets c.if-octets-lt-BLOCK.largest (omega arith) (all_read c)

pub returns-clause-only : goal.returns-clause-only
returns-clause-only c = is_refused c.args.text.now c.if-octets-lt-BLOCK.octets c.if-octets-lt-BLOCK.largest (all_read c)
