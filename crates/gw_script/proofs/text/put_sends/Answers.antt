use Rattle.gw_script.proofs.TailLemmas.{line_ends}
use Rattle.gw_script.proofs.text.put_sends.Goals as goal

pub put_sends_again-requires : goal.put_sends_again-requires
put_sends_again-requires c = line_ends c.args.out.now.items c.put_send.new.out.items c.args.port c.in-Some.first.now c.args.octets.now c.in_ok-put_send.ensures.ok
