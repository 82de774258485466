use Rattle.std.proofs.Common.{rules, ◌≡◌, ℕ, List, Bool, Some, Result, Ok, subst, sym}
use Rattle.std.specs.Io.Buffered.{writer_contents}
use Rattle.gw_ending.specs.declared.fault.Fault.{Fault}
use Rattle.gw_rules.specs.declared.rule.Rule.{Rule}
use Rattle.gw_tools.specs.Asking.{Counts}
use Rattle.gw_tools.specs.Program.{LeavesAnswered}
use Rattle.gw_tools.specs.Saying.{SaysMade}
use Rattle.gw_tools.specs.declared.placed.Placed.{Placed}
use Rattle.gw_tools.proofs.asking.answer.Goals as goal

pub returns-then-counts-clause-output : goal.returns-then-counts-clause-output
returns-then-counts-clause-output g c =
    let contents = writer_contents g.W.Write.contents in
    let input = g.R.OctetSource.left c.args.input.now in
    let held = contents c.args.output.now in
    let holds = contents c.print_said.new.output in
    let outcome = c.print_said.result in
    let placed = c.in_ok-placed.placed in
    let is : c.args.placed ≡ Ok placed = search rules in
    let says : (text : List ℕ) → input ≡ Some text → SaysMade (Counts placed.config.rules text) c.count.result =
    λ text known. subst (λ (list : List Rule). SaysMade (Counts list text) c.count.result) c.rules.ensures.rules (c.count.ensures text known) in
    subst (λ (read : Result Placed Fault). LeavesAnswered c.args.counts input held holds read outcome) (sym is)
    (subst (λ (counts : Bool). LeavesAnswered counts input held holds (Ok placed) outcome) (sym c.if-counts.true)
    (c.count.result, says, c.print_said.ensures.output))
