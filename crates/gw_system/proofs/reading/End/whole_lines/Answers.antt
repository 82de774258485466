use Rattle.std.proofs.Common.{◌∙◌, sym}
use Rattle.gw_system.proofs.EndLemmas.{from_cut}
use Rattle.gw_system.proofs.reading.End.whole_lines.Goals as goal

pub returns-in-Some : goal.returns-in-Some
returns-in-Some c =
    from_cut c.args.self.now.is_whole c.args.self.now.octets.items c.in-Some._cut.now c.in-Some.lines.now c.if-self.false
    (sym c.deref-2.ensures.value ∙ c.in-Some.ensures.0) c.in-Some.ensures.1
