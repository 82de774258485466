use Rattle.std.proofs.Common.{ℕ, List, Option, Bor, nat_eq, ap, sym, ◌∙◌, option_map}
use Rattle.std.specs.Cmp.Lexicographic.{pointwise}
use Rattle.gw_codecs.specs.names.internal.Rows.{plain}
use Rattle.gw_codecs.proofs.names_lemmas.Finding.{found_mapped}
use Rattle.gw_codecs.proofs.names.names.number_in.Goals as goal

pub returns-in-Some : goal.returns-in-Some
returns-in-Some c =
    ap (λ (o : Option (ℕ × Bor (List ℕ))). option_map (λ row. row.0) (option_map plain o)) c.in-Some.ensures
    ∙ ap (option_map (λ row. row.0)) (sym (found_mapped plain (λ row. pointwise nat_eq row.1 c.args.name.now) c.args.table.now))

pub returns-in-None : goal.returns-in-None
returns-in-None c =
    ap (λ (o : Option (ℕ × Bor (List ℕ))). option_map (λ row. row.0) (option_map plain o)) c.in-None.ensures
    ∙ ap (option_map (λ row. row.0)) (sym (found_mapped plain (λ row. pointwise nat_eq row.1 c.args.name.now) c.args.table.now))
