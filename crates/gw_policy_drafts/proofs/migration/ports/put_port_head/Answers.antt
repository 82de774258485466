use Rattle.gw_policy_drafts.specs.migration.Ports.{port_head}
use Rattle.gw_policy_drafts.proofs.Putting.{four_tried}
use Rattle.gw_policy_drafts.proofs.migration.ports.put_port_head.Goals as goal

pub returns : goal.returns
unfolding port_head
returns c =
    four_tried c.put_address-2.result c.args.out.now.items c.extend_from_slice.new.self.items c.put_number.new.out.items c.put_address.new.out.items
    c.put_address-2.new.out.items _ _ _ _ c.in_ok-extend_from_slice.ensures.items
    (rw (c.from.ensures, c.get.ensures.value) at c.in_ok-put_number.ensures) c.in_ok-put_address.ensures c.put_address-2.ensures
