use Rattle.std.proofs.Common.{length, ap, arith}
use Rattle.gw_addr.specs.Text.{Lacks}
use Rattle.gw_script.specs.internal.Finding.{IsFirstAt}
use Rattle.gw_script.proofs.LineLemmas.{tick_line, first_line, first_line_long, begins_long}
use Rattle.gw_script.proofs.reader.LineReader.whole_line.Goals as goal

pub returns-then-begins_with_tick-clause-found : goal.returns-then-begins_with_tick-clause-found
returns-then-begins_with_tick-clause-found c = λ rest.
    let begins = rw c.as_slice-unread.ensures at c.if-begins_with_tick.ensures in
    tick_line c.args.self.now.unread rest begins

pub returns-in-Some-clause-found : goal.returns-in-Some-clause-found
returns-in-Some-clause-found c =
    let found : IsFirstAt 10 c.args.self.now.unread c.in-Some.len = rw c.as_slice-unread.ensures at c.in-Some.ensures in
    first_line c.args.self.now.unread c.in-Some.len found

pub returns-in-Some-2-clause-found : goal.returns-in-Some-2-clause-found
returns-in-Some-2-clause-found c =
    let found : IsFirstAt 10 c.args.self.now.unread c.in-Some.len = rw c.as_slice-unread.ensures at c.in-Some.ensures in
    first_line_long c.args.self.now.unread c.in-Some.len found (omega (arith, c.if-len-le-MAX_LINE.false))

pub returns-in-None-clause-found : goal.returns-in-None-clause-found
returns-in-None-clause-found c = λ rest.
    let none : Lacks 10 c.args.self.now.unread = rw c.as_slice-unread.ensures at c.in-None.ensures in
    begins_long c.args.self.now.unread rest none (omega (arith, ap length c.as_slice-unread.ensures, c.if-unread-gt-MAX_LINE.true))
