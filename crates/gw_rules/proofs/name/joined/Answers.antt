use Rattle.std.proofs.Common.{◌≡◌, ◌+◌, ◌++◌, ℕ, List, ap, length, ◌∙◌, take}
use Rattle.std.proofs.Math.Seq.{take-append-add, take-append_seam}
use Rattle.gw_rules.proofs.name.joined.Goals as goal

two_in_front : (front end first second rest : List ℕ) → first ≡ front → second ≡ end → take (length front + length end) (first ++ (second ++ rest)) ≡ front ++ end
two_in_front front end first second rest one two =
    rw (one, two) (take-append-add front (end ++ rest) (length end) ∙ ap (λ behind. front ++ behind) (take-append_seam end rest))

pub returns : goal.returns
returns c = two_in_front _ _ _ _ _ c.copy_from_slice.ensures.after c.copy_from_slice-2.ensures.after
