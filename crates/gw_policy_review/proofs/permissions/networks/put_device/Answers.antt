use Rattle.std.proofs.Common.{◌≡◌, ◌++◌, codes, decimal, subst, ℕ}
use Rattle.gw_policy_review.proofs.permissions_lemmas.Appending.{two}
use Rattle.gw_policy_review.proofs.permissions.networks.put_device.Goals as goal

pub returns : goal.returns
returns c =
    let out = c.args.out.now.items in
    let next = c.put_network.new.out.items in
    two c.put_slice.result out next c.put_slice.new.out.items (codes "network " ++ decimal c.args.device.now.network)
    (codes ": no router speaks for it, since the device has it\n")
    (subst (λ (n : ℕ). next ≡ out ++ (codes "network " ++ decimal n)) c.get.ensures.value c.in_ok-put_network.ensures)
    c.put_slice.ensures.ok
