use Rattle.std.proofs.Common.{◌≡◌, ◌++◌, ℕ, List, rules, subst, sym, take}
use Rattle.std.specs.Io.KnownBytes.{Keeps, prepend_known}
use Rattle.gw_script.proofs.UnreadLemmas.{keeps_read}
use Rattle.gw_shell.proofs.deciding.read_chunk.Goals as goal

pub returns-in-Ok-extend_from_slice-clause-text : goal.returns-in-Ok-extend_from_slice-clause-text
returns-in-Ok-extend_from_slice-clause-text g c =
    let left = g.R.OctetSource.left in
    let old = c.args.script.now.items in
    let chunk = take c.in-Ok.count c.read_octets.new.buffer in
    let grown : c.extend_from_slice.new.self.items ≡ old ++ chunk = search rules in
    subst (λ (text : List ℕ). Keeps (prepend_known old (left c.args.input.now)) (prepend_known text (left c.read_octets.new.self))) (sym grown)
    (keeps_read (left c.args.input.now) (left c.read_octets.new.self) old chunk c.in-Ok.ensures.octets.0)
