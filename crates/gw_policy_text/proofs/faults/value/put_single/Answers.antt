use Rattle.std.proofs.Common.{◌≡◌, ◌++◌, ℕ, List, OnOk, codes, subst, sym}
use Rattle.gw_policy_text.proofs.faults_lemmas.Explanations.{appended, fraction_words}
use Rattle.gw_policy_text.proofs.faults.value.put_single.Goals as goal

pub returns-in-Float : goal.returns-in-Float
returns-in-Float c =
    let put = c.extend_from_slice-in-Float in
    subst (λ (words : List ℕ). OnOk put.result (put.new.self.items ≡ c.args.line.now.items ++ words))
    (sym (fraction_words c.args.value.now c.in-Float.field-0 c.in-Float.is))
    (appended put.result c.args.line.now.items put.new.self.items (codes "a number with a fraction") put.ensures.items)
