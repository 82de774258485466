-- How the list of the ports' networks grows.
use Rattle.std.proofs.Common.{◌≡◌, ◌∙◌, sym, ap, ℕ, zero, suc, ◌+◌, ◌<◌, add-one, arith, List, [], ◌∷◌, ◌++◌, get_or, length, take}
use Rattle.gw_configuration.specs.declared.port.Port.{Port as ConfiguredPort}
use Rattle.gw_report.specs.Report.{own_from}
use Rattle.gw_report.specs.declared.access.Whence.{Whence}
use Rattle.gw_report.specs.declared.access.Whence.TheVariants.{Port}

one_more : (number : ℕ) (ports : List ConfiguredPort) (k : ℕ) (d : ConfiguredPort) → k < length ports
    → own_from number (take (suc k) ports) ≡ own_from number (take k ports) ++ Port (number + k) (get_or ports k d).network ∷ []
one_more number [] k d inside = absurd (omega (arith, inside))
one_more number (p ∷ ports) zero d inside =
    let at : number ≡ number + 0 = omega arith in
    ap (λ (n : ℕ). Port n p.network ∷ []) at
one_more number (p ∷ ports) (suc k) d inside =
    let at : number + 1 + k ≡ number + suc k = omega arith in
    ap (λ (xs : List Whence). Port number p.network ∷ xs)
    (one_more (number + 1) ports k d (omega (arith, inside))
    ∙ ap (λ (n : ℕ). own_from (number + 1) (take k ports) ++ Port n (get_or ports k d).network ∷ []) at)

pub own_step : (ports : List ConfiguredPort) (k : ℕ) (item : ConfiguredPort) (before after : List Whence) → k < length ports
    → get_or ports k item ≡ item → before ≡ own_from 1 (take k ports) → after ≡ before ++ Port (k + 1) item.network ∷ []
    → after ≡ own_from 1 (take (k + 1) ports)
own_step ports k item before after inside here so_far made =
    let at : k + 1 ≡ 1 + k = omega arith in
    made ∙ ap (λ (xs : List Whence). xs ++ Port (k + 1) item.network ∷ []) so_far
    ∙ ap (λ (n : ℕ). own_from 1 (take k ports) ++ Port n item.network ∷ []) at
    ∙ ap (λ (p : ConfiguredPort). own_from 1 (take k ports) ++ Port (1 + k) p.network ∷ []) (sym here)
    ∙ sym (one_more 1 ports k item inside) ∙ ap (λ (n : ℕ). own_from 1 (take n ports)) (sym (add-one k))
