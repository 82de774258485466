use Rattle.std.proofs.Common.{[], ◌∷◌, ◌++◌, ℕ, List, codes}
use Rattle.std.proofs.lemmas.Result.{on_ok_weaker}
use Rattle.gw_notices.proofs.metrics_lemmas.Samples.{one_more}
use Rattle.gw_notices.specs.metrics.Text.{Count, Help, KindOf, Line, labelled}
use Rattle.gw_notices.specs.declared.metrics.family.Family.TheVariants as family
use Rattle.gw_notices.specs.declared.metrics.family.SampleLabel.TheVariants as label
use Rattle.gw_notices.proofs.metrics.text.put_drops.Goals as goal

pub returns : goal.returns
returns c =
    let at : List ℕ → ℕ → Line = λ reason n. Count family.Drops (labelled label.Reason reason n) in
    let before = c.args.out.now.items in
    let drops = c.args.drops in
    let none : List Line = Help family.Drops ∷ KindOf family.Drops ∷ [] in
    let enter = at (codes "enter") drops.enter in
    let with_enter = one_more before c.put_head.new.out.items c.put_counted.new.out.items
    none enter c.in_ok-put_head.ensures c.in_ok-put_counted.ensures in
    let to_enter = none ++ enter ∷ [] in
    let claim = at (codes "claim") drops.claim in
    let with_claim = one_more before c.put_counted.new.out.items c.put_counted-2.new.out.items
    to_enter claim with_enter c.in_ok-put_counted-2.ensures in
    let to_claim = to_enter ++ claim ∷ [] in
    let malformed = at (codes "malformed") drops.malformed in
    let with_malformed = one_more before c.put_counted-2.new.out.items c.put_counted-3.new.out.items
    to_claim malformed with_claim c.in_ok-put_counted-3.ensures in
    let to_malformed = to_claim ++ malformed ∷ [] in
    let own_network = at (codes "own_network") drops.own_network in
    let with_own_network = one_more before c.put_counted-3.new.out.items c.put_counted-4.new.out.items
    to_malformed own_network with_malformed c.in_ok-put_counted-4.ensures in
    let to_own_network = to_malformed ++ own_network ∷ [] in
    let no_peer = at (codes "no_peer") drops.no_peer in
    let with_no_peer = one_more before c.put_counted-4.new.out.items c.put_counted-5.new.out.items
    to_own_network no_peer with_own_network c.in_ok-put_counted-5.ensures in
    let to_no_peer = to_own_network ++ no_peer ∷ [] in
    on_ok_weaker c.put_counted-6.result
    (one_more before c.put_counted-5.new.out.items c.put_counted-6.new.out.items
    to_no_peer (at (codes "memory") drops.memory) with_no_peer) c.put_counted-6.ensures
