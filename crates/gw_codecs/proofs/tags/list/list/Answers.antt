use Rattle.std.proofs.Common.{sym, arith}
use Rattle.gw_codecs.proofs.tags_lemmas.ListLaws.{closing_within}
use Rattle.gw_codecs.proofs.tags.list.list.Goals as goal

pub slice_bounds-result-count : goal.slice_bounds-result-count
slice_bounds-result-count c = closing_within _ _ _ c.args.octets.now _ _ (λ i. omega (arith, c.type_inv.octets i)) (sym c.in_ok-closing.ensures)
