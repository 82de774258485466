use Rattle.std.proofs.Common.{◌++◌, List, ℕ, take, sym, ap, ◌∙◌}
use Rattle.gw_script.proofs.SearchLemmas.{tail_whole}
use Rattle.gw_script.proofs.AppendLemmas.{appends_along, parts_along}
use Rattle.gw_script.proofs.sink.write_whole.Goals as goal

pub loop-rest-preserved : goal.loop-rest-preserved
loop-rest-preserved g c =
    let before = c.loop-rest.invariant.front in
    let rest = c.loop-rest.rest.now in
    let front = before.0 ++ take c.in_ok-count.count rest in record {
      front = (front, parts_along _ before.0 rest c.in_ok-count.count before.1 ∙ ap (λ (t : List ℕ). front ++ t) (sym (tail_whole c.in_ok-count.count rest)), appends_along _ _ _ _ _ before.2 c.in_ok-count.ensures.octets);
      lasts = λ sure. c.write_octets.ensures.lasts (c.loop-rest.invariant.lasts sure);
    }
