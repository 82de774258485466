-- Each step of the walk over a list.
use Rattle.std.proofs.Common.{◌≡◌, ℕ, zero, suc, ◌-◌, ◌<◌, List, Option, Some, None, refl, sym, ap, ◌∙◌, eqb, cond, arith}
use Rattle.gw_codecs.specs.tags.Walk.{value, opened, closed, element_at, closing_at}

pub past_value : (fuel depth number : ℕ) (octets rest : List ℕ) → element_at octets ≡ Some (value rest) → closing_at (suc fuel) depth number octets ≡ closing_at fuel depth number rest
unfolding closing_at
past_value fuel depth number octets rest e = rw (e, closing_at) refl

pub past_nothing : (fuel depth number : ℕ) (octets : List ℕ) → element_at octets ≡ None → closing_at (suc fuel) depth number octets ≡ None
unfolding closing_at
past_nothing fuel depth number octets e = rw (e, closing_at) refl

pub past_closing : (fuel depth number other : ℕ) (octets rest : List ℕ) → element_at octets ≡ Some (closed other rest) → closing_at (suc fuel) depth number octets ≡ cond (eqb other number) (Some (octets, rest)) None
unfolding closing_at
past_closing fuel depth number other octets rest e = rw (e, closing_at) refl

pub too_deep : (fuel number inner : ℕ) (octets rest : List ℕ) → element_at octets ≡ Some (opened inner rest) → closing_at (suc fuel) zero number octets ≡ None
unfolding closing_at
too_deep fuel number inner octets rest e = rw (e, closing_at) refl

pub past_list : (fuel less number inner : ℕ) (octets rest : List ℕ) (x : List ℕ × List ℕ) → element_at octets ≡ Some (opened inner rest) → closing_at fuel less inner rest ≡ Some x → closing_at (suc fuel) (suc less) number octets ≡ closing_at fuel (suc less) number x.1
unfolding closing_at
past_list fuel less number inner octets rest x e f = rw (e, closing_at, f) refl

pub in_bad_list : (fuel less number inner : ℕ) (octets rest : List ℕ) → element_at octets ≡ Some (opened inner rest) → closing_at fuel less inner rest ≡ None → closing_at (suc fuel) (suc less) number octets ≡ None
unfolding closing_at
in_bad_list fuel less number inner octets rest e f = rw (e, closing_at, f) refl

pub no_fuel : (depth number : ℕ) (octets : List ℕ) → closing_at zero depth number octets ≡ None
unfolding closing_at
no_fuel depth number octets = refl

-- ---- in a loop that has taken some steps

one_more : (fuel done : ℕ) → done < fuel → suc (fuel - done - 1) ≡ fuel - done
one_more fuel done lt = omega arith

pub loop_nothing : (fuel done depth number : ℕ) (rest : List ℕ) (whole : Option (List ℕ × List ℕ)) → done < fuel → closing_at (fuel - done) depth number rest ≡ whole → element_at rest ≡ None → None ≡ whole
loop_nothing fuel done depth number rest whole lt inv e = sym (past_nothing (fuel - done - 1) depth number rest e) ∙ ap (λ (k : ℕ). closing_at k depth number rest) (one_more fuel done lt) ∙ inv

pub loop_value : (fuel done depth number : ℕ) (rest behind : List ℕ) (whole : Option (List ℕ × List ℕ)) → done < fuel → closing_at (fuel - done) depth number rest ≡ whole → element_at rest ≡ Some (value behind) → closing_at (fuel - done - 1) depth number behind ≡ whole
loop_value fuel done depth number rest behind whole lt inv e = sym (past_value (fuel - done - 1) depth number rest behind e) ∙ ap (λ (k : ℕ). closing_at k depth number rest) (one_more fuel done lt) ∙ inv

pub loop_deep : (fuel done number inner : ℕ) (rest behind : List ℕ) (whole : Option (List ℕ × List ℕ)) → done < fuel → closing_at (fuel - done) zero number rest ≡ whole → element_at rest ≡ Some (opened inner behind) → None ≡ whole
loop_deep fuel done number inner rest behind whole lt inv e = sym (too_deep (fuel - done - 1) number inner rest behind e) ∙ ap (λ (k : ℕ). closing_at k zero number rest) (one_more fuel done lt) ∙ inv

pub loop_list : (fuel done depth number inner : ℕ) (rest behind : List ℕ) (x : List ℕ × List ℕ) (whole : Option (List ℕ × List ℕ)) → done < fuel → 0 < depth → closing_at (fuel - done) depth number rest ≡ whole → element_at rest ≡ Some (opened inner behind) → closing_at (fuel - done - 1) (depth - 1) inner behind ≡ Some x → closing_at (fuel - done - 1) depth number x.1 ≡ whole
loop_list fuel done zero number inner rest behind x whole lt some inv e f = absurd (omega arith)
loop_list fuel done (suc less) number inner rest behind x whole lt some inv e f =
    let own : suc less - 1 ≡ less = omega arith in
    let g : closing_at (fuel - done - 1) less inner behind ≡ Some x = ap (λ (d : ℕ). closing_at (fuel - done - 1) d inner behind) (sym own) ∙ f in
    sym (past_list (fuel - done - 1) less number inner rest behind x e g) ∙ ap (λ (k : ℕ). closing_at k (suc less) number rest) (one_more fuel done lt) ∙ inv

pub loop_bad_list : (fuel done depth number inner : ℕ) (rest behind : List ℕ) (whole : Option (List ℕ × List ℕ)) → done < fuel → 0 < depth → closing_at (fuel - done) depth number rest ≡ whole → element_at rest ≡ Some (opened inner behind) → closing_at (fuel - done - 1) (depth - 1) inner behind ≡ None → None ≡ whole
loop_bad_list fuel done zero number inner rest behind whole lt some inv e f = absurd (omega arith)
loop_bad_list fuel done (suc less) number inner rest behind whole lt some inv e f =
    let own : suc less - 1 ≡ less = omega arith in
    let g : closing_at (fuel - done - 1) less inner behind ≡ None = ap (λ (d : ℕ). closing_at (fuel - done - 1) d inner behind) (sym own) ∙ f in
    sym (in_bad_list (fuel - done - 1) less number inner rest behind e g) ∙ ap (λ (k : ℕ). closing_at k (suc less) number rest) (one_more fuel done lt) ∙ inv

pub loop_closing : (fuel done depth number other : ℕ) (rest behind : List ℕ) (whole : Option (List ℕ × List ℕ)) → done < fuel → closing_at (fuel - done) depth number rest ≡ whole → element_at rest ≡ Some (closed other behind) → cond (eqb other number) (Some (rest, behind)) None ≡ whole
loop_closing fuel done depth number other rest behind whole lt inv e = sym (past_closing (fuel - done - 1) depth number other rest behind e) ∙ ap (λ (k : ℕ). closing_at k depth number rest) (one_more fuel done lt) ∙ inv
