use Rattle.gw_policy_review.proofs.permissions_lemmas.Full.{full}
use Rattle.gw_policy_review.proofs.permissions.permissions.put_full.Goals as goal

pub returns : goal.returns
returns c =
    full c.args.placed.now.config.now c.args.placed.now.lines.now c.in_ok-after_ports.after_ports c.in_ok-after_claims.after_claims
    c.in_ok-after_allowances.after_allowances c.in_ok-_rest._rest c.args.out.now.items c.put_ports.new.out.items c.put_networks.new.out.items
    c.put_claims.new.out.items c.put_allowances.new.out.items c.put_later.new.out.items c.in_ok-after_ports.ensures
    c.in_ok-put_networks.ensures c.in_ok-after_claims.ensures c.in_ok-after_allowances.ensures c.in_ok-_rest.ensures
