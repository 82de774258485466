use Rattle.std.proofs.Common.{ℕ, ◌∙◌, ap, length, drop, arith}
use Rattle.std.proofs.lemmas.List.{length-take, length-drop}
use Rattle.gw_script.specs.Reader.{Reading}
use Rattle.gw_script.proofs.UnreadLemmas.{consumed}
use Rattle.gw_script.proofs.reader.LineReader.consume.Goals as goal

pub returns-clause-unread : goal.returns-clause-unread
returns-clause-unread c =
    let r = c.self.inside in
    let same = ap (λ (x : Reading). length x.unread) c.self.view_is in
    consumed r.octets r.start r.end c.args.count (omega (arith, same, c.requires, length-take {A = ℕ}, length-drop {A = ℕ}))
    ∙ ap (λ (x : Reading). drop c.args.count x.unread) c.self.view_is
