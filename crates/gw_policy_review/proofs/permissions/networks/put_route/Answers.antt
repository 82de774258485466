use Rattle.std.proofs.Common.{◌≡◌, ◌++◌, codes, decimal, subst, ℕ}
use Rattle.gw_policy_review.specs.permissions.Permissions.{router_words}
use Rattle.gw_policy_review.proofs.permissions_lemmas.Appending.{two}
use Rattle.gw_policy_review.proofs.permissions.networks.put_route.Goals as goal

pub returns : goal.returns
returns c =
    let out = c.args.out.now.items in
    let next = c.put_network.new.out.items in
    two c.put_router.result out next c.put_router.new.out.items (codes "network " ++ decimal c.args.route.now.network)
    (router_words c.args.route.now)
    (subst (λ (n : ℕ). next ≡ out ++ (codes "network " ++ decimal n)) c.get.ensures.value c.in_ok-put_network.ensures)
    c.put_router.ensures
