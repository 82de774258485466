use Rattle.std.proofs.Common.{◌∙◌, ap, refl, subst, ℕ, List, Option, option_map}
use Rattle.std.specs.Io.Buffered.{writer_contents}
use Rattle.gw_verdicts.specs.asks.Asks.{ask_lines}
use Rattle.gw_tools.specs.Unread.{unread_after}
use Rattle.gw_tools.specs.Program.{LeavesAnswered}
use Rattle.gw_tools.proofs.asking.answer_shown.Goals as goal

pub returns-clause-shown : goal.returns-clause-shown
returns-clause-shown g c =
    let contents = writer_contents g.W.Write.contents in
    let outcome = c.answer-outcome.result in
    let left = c.new-asks.ensures.left ∙ ap (option_map ask_lines) c.new.ensures.left in (
      unread_after c.unread.result outcome,
      subst (λ (input : Option (List ℕ)). LeavesAnswered c.args.counts input (contents c.args.streams.now.output) (contents c.answer-outcome.new.output)
          c.args.placed outcome) left c.answer-outcome.ensures.output,
      (c.unread.result, refl),
      c.report_unread.ensures.said,
    )
