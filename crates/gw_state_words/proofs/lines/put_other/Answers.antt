use Rattle.std.proofs.Common.{codes}
use Rattle.gw_state_words.specs.Words.{peers_words}
use Rattle.gw_state_words.proofs.Appending.{two}
use Rattle.gw_state_words.proofs.lines.put_other.Goals as goal

pub returns : goal.returns
returns c =
    two c.put_peers.result c.args.out.now.items c.put_reason_of_table.new.out.items c.put_peers.new.out.items
    (codes "other peers are configured: ") (peers_words c.args.sizes) c.in_ok-put_reason_of_table.ensures c.put_peers.ensures
