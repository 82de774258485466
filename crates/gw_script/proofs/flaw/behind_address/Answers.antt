use Rattle.std.proofs.Common.{◌∙◌, sym, subst, refl}
use Rattle.gw_addr.specs.Address.{text_of}
use Rattle.gw_addr.specs.Text.{Lacks}
use Rattle.gw_addr.proofs.Lacking.{has_not_lacks, same_split}
use Rattle.gw_script.proofs.SearchLemmas.{no_space, none_some}
use Rattle.gw_script.proofs.flaw.behind_address.Goals as goal

pub returns-in_err-address-clause-only : goal.returns-in_err-address-clause-only
returns-in_err-address-clause-only c = λ none from written is spelled.
    has_not_lacks 32 (text_of from) written (subst (Lacks 32) spelled (c.in_err-address.ensures.only refl))

pub returns-in_err-address_of-clause-only : goal.returns-in_err-address_of-clause-only
returns-in_err-address_of-clause-only c = λ none from written is spelled.
    let parts = same_split 32 c.in_ok-address.address.now (text_of from) c.in_ok-address.text.now written c.in_ok-address.ensures.first (no_space from is) (sym c.in_ok-address.ensures.found ∙ spelled) in
    none_some from c.address_of.result c.in_err-address_of.was (c.address_of.ensures.only from is parts.0)
