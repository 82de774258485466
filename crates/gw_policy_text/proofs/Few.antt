-- As many ranges are read as there are items.
use Rattle.std.proofs.Common.{◌≡◌, ◌∙◌, ◌≤◌, ◌∷◌, [], ℕ, suc, List, true, length, map, refl, ap, arith, sym, nat_le, Result, Ok, Err}
use Rattle.std.specs.Prelude.{IfOk}
use Rattle.std.proofs.lemmas.Bool.{le-leb}
use Rattle.std.proofs.lemmas.List.{length-map}
use Rattle.toml.specs.Data.{Data}
use Rattle.toml.specs.View.{view}
use Rattle.toml.specs.declared.value.Value.{Value}
use Rattle.gw_addr.proofs.Reading.{bind_ok, ok_is}
use Rattle.gw_addr.specs.Reading.{◌>>=◌}
use Rattle.gw_rules.specs.declared.range.Range.{Range}
use Rattle.gw_configuration.specs.declared.fault.ConfigFault.{ConfigFault}
use Rattle.gw_configuration.specs.Located.{Read}
use Rattle.gw_configuration.specs.Reading.{Gives}
use Rattle.gw_policy_text.specs.keys.Items.{each}

each_counted : {A : Type 0} (read : Data → Read A) (vs : List Data) (xs : List A) → each read vs ≡ Ok xs → length xs ≡ length vs
each_counted read [] xs e = let same : [] ≡ xs = ok_is _ _ e in ap length (sym same)
each_counted {A} read (v ∷ vs) xs e =
    let first = bind_ok (read v) _ xs e in
    let others = bind_ok (each read vs) _ xs first.2 in
    let same : first.0 ∷ others.0 ≡ xs = ok_is _ _ others.2 in
    ap length (sym same) ∙ ap suc (each_counted read vs others.0 others.1)

pub few_read : (read : Data → Read Range) (values : List Value) (result : Result (List Range) ConfigFault) → length values ≤ 4
    → Gives (λ rs. rs) result (each read (map view values)) → IfOk result (λ rs. nat_le (length rs) 256 ≡ true)
few_read read values (Err fault) few is = tt
few_read read values (Ok rs) few is =
    let count : length rs ≡ length values = each_counted read (map view values) rs is ∙ length-map values view in
    le-leb (length rs) 256 (omega (arith, count, few))
