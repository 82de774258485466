-- The lines of numbered samples.
use Rattle.std.proofs.Common.{◌≡◌, ◌∙◌, ◌+◌, ◌++◌, ℕ, List, [], ◌∷◌, Some, ap, map, refl, append-nil, append_assoc, sym}
use Rattle.std.proofs.lemmas.Grind.{flat_map-append}
use Rattle.gw_rules.specs.declared.rule.Rule.{Rule}
use Rattle.gw_script.specs.Order.{in_order}
use Rattle.gw_notices.specs.metrics.Text.{Count, Help, KindOf, Line, Sample, decision_samples, family_lines, full_line, lines_text, numbered, port_line, port_sample, port_samples, default_sample, rule_line, rule_sample}
use Rattle.gw_notices.specs.declared.metrics.counts.PortCounts.{PortCounts}
use Rattle.gw_notices.specs.declared.metrics.family.Family.{Family}
use Rattle.gw_notices.specs.declared.metrics.family.Family.TheVariants as family

-- each numbered sample has its line
pub numbered_lines : {A : Type 0} (f : Family) (sample : ℕ → A → Sample) (number : ℕ) (items : List A)
    → lines_text (map (Count f) (numbered sample number items)) ≡ in_order (λ n item. full_line (Count f (sample n item))) number items
unfolding in_order numbered
numbered_lines f sample number [] = refl
numbered_lines f sample number (item ∷ items) =
    ap (λ (t : List ℕ). full_line (Count f (sample number item)) ++ t) (numbered_lines f sample (number + 1) items)

-- the lines of a family follow what it is and its kind
head_first : (f : Family) (text : List ℕ)
    → lines_text (Help f ∷ KindOf f ∷ []) ++ text ≡ full_line (Help f) ++ (full_line (KindOf f) ++ text)
head_first f text = append_assoc (full_line (Help f)) (full_line (KindOf f) ++ []) text
    ∙ ap (λ (t : List ℕ). full_line (Help f) ++ t) (append_assoc (full_line (KindOf f)) [] text)

-- a line more
pub one_more : (before now new : List ℕ) (lines : List Line) (line : Line) → now ≡ before ++ lines_text lines → new ≡ now ++ full_line line
    → new ≡ before ++ lines_text (lines ++ line ∷ [])
one_more before now new lines line so_far then =
    then
    ∙ ap (λ (t : List ℕ). t ++ full_line line) so_far
    ∙ append_assoc before (lines_text lines) (full_line line)
    ∙ ap (λ (t : List ℕ). before ++ (lines_text lines ++ t)) (sym (append-nil (full_line line)))
    ∙ ap (λ (t : List ℕ). before ++ t) (sym (flat_map-append full_line lines (line ∷ [])))

-- what is appended of the samples of ports after what a family is
pub ported : (f : Family) (ports : List PortCounts) (before head new : List ℕ) → head ≡ before ++ lines_text (Help f ∷ KindOf f ∷ [])
    → new ≡ head ++ in_order (port_line f) 1 ports → new ≡ before ++ lines_text (family_lines f (port_samples f ports))
ported f ports before head new begun last =
    let top = lines_text (Help f ∷ KindOf f ∷ []) in
    let all = in_order (port_line f) 1 ports in
    last
    ∙ ap (λ (t : List ℕ). t ++ all) begun
    ∙ append_assoc before top all
    ∙ ap (λ (t : List ℕ). before ++ t) (head_first f all)
    ∙ ap (λ (t : List ℕ). before ++ (full_line (Help f) ++ (full_line (KindOf f) ++ t))) (sym (numbered_lines f (port_sample f) 1 ports))

-- and of those of the rules, after the one for no rule
pub decided : (list : List Rule) (counts before head first new : List ℕ)
    → head ≡ before ++ lines_text (Help family.Decisions ∷ KindOf family.Decisions ∷ [])
    → first ≡ head ++ full_line (Count family.Decisions (default_sample counts))
    → new ≡ first ++ in_order (rule_line counts) 1 list
    → new ≡ before ++ lines_text (family_lines family.Decisions (Some (decision_samples list counts)))
decided list counts before head first new begun then last =
    let top = lines_text (Help family.Decisions ∷ KindOf family.Decisions ∷ []) in
    let none = full_line (Count family.Decisions (default_sample counts)) in
    let all = in_order (rule_line counts) 1 list in
    last
    ∙ ap (λ (t : List ℕ). t ++ all) (then ∙ ap (λ (t : List ℕ). t ++ none) begun)
    ∙ append_assoc (before ++ top) none all
    ∙ append_assoc before top (none ++ all)
    ∙ ap (λ (t : List ℕ). before ++ t) (head_first family.Decisions (none ++ all))
    ∙ ap (λ (t : List ℕ). before ++ (full_line (Help family.Decisions) ++ (full_line (KindOf family.Decisions) ++ (none ++ t))))
    (sym (numbered_lines family.Decisions (rule_sample counts) 1 list))
