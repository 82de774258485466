use Rattle.std.proofs.Common.{◌≡◌, ◌∙◌, ◌+◌, ◌++◌, ◌∷◌, ℕ, List, Some, ap, drop, length, refl, sym, take}
use Rattle.std.specs.Prelude.{◌==◌, position}
use Rattle.std.proofs.lemmas.List.{take_at}
use Rattle.gw_state_text.proofs.WordLemmas.{drop_past, parts_at, place_first, some_is, tail_whole}
use Rattle.gw_state_text.proofs.ReadLemmas.{not_parted, parted_found}
use Rattle.gw_state_text.proofs.words.parted_at.Goals as goal

pub returns-in-Some-clause-found : goal.returns-in-Some-clause-found
returns-in-Some-clause-found c =
    let text = c.args.text.now in
    let place = c.in-Some.place in
    parts_at c.args.c text place (sym c.in-Some.ensures.place)
    ∙ ap (λ (t : List ℕ). take place text ++ c.args.c ∷ t) (sym (tail_whole (place + 1) text))

pub returns-in-Some-clause-only : goal.returns-in-Some-clause-only
returns-in-Some-clause-only c = λ word rest lacks e.
    let text = c.args.text.now in
    let place = c.in-Some.place in
    let there : position (λ x. x == c.args.c) text ≡ Some (length word) =
    ap (position (λ x. x == c.args.c)) e ∙ place_first c.args.c word rest lacks in
    let is : place ≡ length word = some_is place (length word) (c.in-Some.ensures.place ∙ there) in (
      ap (λ (n : ℕ). take n text) is ∙ ap (take (length word)) e ∙ take_at word (c.args.c ∷ rest) (length word) refl,
      tail_whole (place + 1) text ∙ ap (λ (n : ℕ). drop (n + 1) text) is ∙ ap (drop (length word + 1)) e ∙ drop_past c.args.c word rest,
    )

pub returns-in-None-clause-only : goal.returns-in-None-clause-only
returns-in-None-clause-only c = λ word rest lacks e.
    let there : position (λ x. x == c.args.c) c.args.text.now ≡ Some (length word) =
    ap (position (λ x. x == c.args.c)) e ∙ place_first c.args.c word rest lacks in
    absurd (let both = c.in-None.ensures.place ∙ there in cc)

pub returns-in-Some-clause-exact : goal.returns-in-Some-clause-exact
returns-in-Some-clause-exact c =
    parted_found c.args.c c.args.text.now c.in-Some.place _ c.in-Some.ensures.place (tail_whole (c.in-Some.place + 1) c.args.text.now)

pub returns-in-None-clause-exact : goal.returns-in-None-clause-exact
returns-in-None-clause-exact c = not_parted c.args.c c.args.text.now c.in-None.ensures.place
