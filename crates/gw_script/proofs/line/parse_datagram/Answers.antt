use Rattle.std.proofs.Common.{◌≡◌, ◌++◌, ◌∷◌, ◌-◌, List, ℕ, length, take, drop, refl, sym, ap, ◌∙◌, subst}
use Rattle.gw_addr.specs.Address.{text_of}
use Rattle.gw_script.specs.Script.{WritesOctets}
use Rattle.gw_addr.specs.Text.{Lacks}
use Rattle.gw_addr.proofs.Lacking.{has_not_lacks, same_split}
use Rattle.gw_script.proofs.SearchLemmas.{no_space, tail_whole, none_some}
use Rattle.gw_script.proofs.line.parse_datagram.Goals as goal

pub returns-in_err-address-clause-only : goal.returns-in_err-address-clause-only
returns-in_err-address-clause-only c = λ none port from octets writes.
    let line = c.args.line.now in
    let rest : take (length line - 2) (drop 2 line) ≡ text_of from ++ 32 ∷ writes.written = tail_whole 2 line ∙ ap (drop 2) writes.spelled in
    has_not_lacks 32 (text_of from) writes.written (subst (Lacks 32) rest (c.in_err-address.ensures.only refl))

pub returns-in_err-from-clause-only : goal.returns-in_err-from-clause-only
returns-in_err-from-clause-only c = λ none port from octets writes.
    let line = c.args.line.now in
    let rest : take (length line - 2) (drop 2 line) ≡ text_of from ++ 32 ∷ writes.written = tail_whole 2 line ∙ ap (drop 2) writes.spelled in
    let parts = same_split 32 c.in_ok-address.address.now (text_of from) c.in_ok-address.text.now writes.written c.in_ok-address.ensures.first (no_space from writes.address) (sym c.in_ok-address.ensures.found ∙ rest) in
    let read = c.address_of.ensures.only from writes.address parts.0 in
    none_some from c.address_of.result c.in_err-from.was read

pub returns-in_err-octets-clause-only : goal.returns-in_err-octets-clause-only
returns-in_err-octets-clause-only c = λ none port from octets writes.
    let line = c.args.line.now in
    let rest : take (length line - 2) (drop 2 line) ≡ text_of from ++ 32 ∷ writes.written = tail_whole 2 line ∙ ap (drop 2) writes.spelled in
    let parts = same_split 32 c.in_ok-address.address.now (text_of from) c.in_ok-address.text.now writes.written c.in_ok-address.ensures.first (no_space from writes.address) (sym c.in_ok-address.ensures.found ∙ rest) in
    c.in_err-octets.ensures.only refl octets (subst (λ (t : List ℕ). WritesOctets t octets) (sym parts.1) writes.writes)
