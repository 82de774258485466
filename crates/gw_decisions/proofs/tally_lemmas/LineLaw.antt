-- The line of a rule that isn't quiet.
use Rattle.std.proofs.Common.{◌≡◌, ℕ, List, [], ◌++◌, ap, rules}
use Rattle.std.specs.Prelude.{codes, decimal}
use Rattle.gw_decisions.specs.tally.Tally.{PlainLineStays}

nothing_more : (xs : List ℕ) → xs ++ [] ≡ xs
nothing_more xs = search rules

pub plain_line_stays : PlainLineStays
plain_line_stays number count rule loud =
    rw loud (ap (λ (t : List ℕ). t ++ codes ": " ++ decimal count ++ codes "\n") (nothing_more (codes "rule " ++ decimal number ++ codes " " ++ rule.name)))
