use Rattle.std.proofs.Common.{◌∙◌, ap, refl, subst, ℕ, List, Option, option_map}
use Rattle.std.specs.Io.Buffered.{writer_contents}
use Rattle.gw_verdicts.specs.asks.Asks.{ask_lines}
use Rattle.gw_tools.specs.Unread.{unread_after}
use Rattle.gw_tools.specs.Program.{LeavesSuggested}
use Rattle.std.specs.Global.{Vec}
use Rattle.gw_ending.specs.reading.Files.{result_map}
use Rattle.gw_tools.proofs.suggesting.suggest_shown.Goals as goal

pub returns-clause-suggested : goal.returns-clause-suggested
returns-clause-suggested g c =
    let contents = writer_contents g.W.Write.contents in
    let outcome = c.suggest_rules-outcome.result in
    let text = result_map (λ (octets : Vec ℕ). octets.items) c.read-text.result in
    let left = c.new-asks.ensures.left ∙ ap (option_map ask_lines) c.new.ensures.left in (
      unread_after c.unread.result outcome,
      (
        text,
        c.read-text.ensures,
        subst (λ (input : Option (List ℕ)). LeavesSuggested c.args.manner input (contents c.args.streams.now.output)
            (contents c.suggest_rules-outcome.new.output) text outcome) left c.suggest_rules-outcome.ensures.output,
      ),
      (c.unread.result, refl),
      c.report_unread.ensures.said,
    )
