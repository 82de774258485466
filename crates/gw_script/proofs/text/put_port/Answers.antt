use Rattle.std.proofs.Common.{◌∷◌, ◌++◌, List, [], ℕ, sym, subst}
use Rattle.std.proofs.lemmas.Fmt.{decimal_digit}
use Rattle.gw_addr.specs.Appending.{IsAppended}
use Rattle.gw_script.proofs.text.put_port.Goals as goal

pub returns-then-port-lt10 : goal.returns-then-port-lt10
returns-then-port-lt10 c =
    subst (λ (digits : List ℕ). IsAppended (115 ∷ 101 ∷ 110 ∷ 100 ∷ 32 ∷ (digits ++ 32 ∷ [])) c.args.out.now c.put_slice.new.out c.put_slice.result)
    (sym (decimal_digit c.args.port c.if-port-lt10.true)) c.put_slice.ensures
