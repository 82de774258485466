-- What is written of ports, one after the other.
use Rattle.std.proofs.Common.{◌≡◌, ◌∙◌, ℕ, ◌+◌, ◌<◌, List, [], ◌∷◌, ◌++◌, length, take, get_or, sym, ap, add-zero, arith}
use Rattle.std.proofs.lemmas.List.{length-take-le, take_more}
use Rattle.gw_notices.specs.declared.metrics.counts.PortCounts.{PortCounts}
use Rattle.gw_relay.specs.declared.port.PortState.{PortState}
use Rattle.gw_service.specs.Metrics.{counts_from, port_counts}
use Rattle.gw_turns.specs.declared.report.Report.{Report}

counts_along : (r : Report) (place : ℕ) (states more : List PortState)
    → counts_from r place (states ++ more) ≡ counts_from r place states ++ counts_from r (place + length states) more
unfolding counts_from
counts_along r place [] more = ap (λ (n : ℕ). counts_from r n more) (sym (add-zero place))
counts_along r place (state ∷ states) more =
    let same : place + 1 + length states ≡ place + length (state ∷ states) = omega arith in
    ap (λ (l : List PortCounts). port_counts r place state ∷ l)
    (counts_along r (place + 1) states more ∙ ap (λ (n : ℕ). counts_from r (place + 1) states ++ counts_from r n more) same)

-- those of a port more
pub counts_more : (r : Report) (states : List PortState) (place : ℕ) (d : PortState) (before after : List PortCounts) → place < length states
    → before ≡ counts_from r 0 (take place states) → after ≡ before ++ port_counts r place (get_or states place d) ∷ []
    → after ≡ counts_from r 0 (take (place + 1) states)
unfolding counts_from
counts_more r states place d before after inside so_far then =
    let state = get_or states place d in
    let at : place ≡ 0 + length (take place states) = omega (arith, length-take-le place states (omega (arith, inside))) in
    then ∙ ap (λ (l : List PortCounts). l ++ port_counts r place state ∷ []) so_far
    ∙ ap (λ (n : ℕ). counts_from r 0 (take place states) ++ port_counts r n state ∷ []) at
    ∙ sym (counts_along r 0 (take place states) (state ∷ []))
    ∙ ap (counts_from r 0) (sym (take_more states place d inside))
