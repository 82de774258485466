use Rattle.std.proofs.Common.{ℕ, List, Option, Result, option_map, subst}
use Rattle.std.specs.Global.{Vec}
use Rattle.gw_system.specs.declared.reading.ReadFailure.{ReadFailure}
use Rattle.gw_watchers.proofs.files_lemmas.LineLemmas.{found_line}
use Rattle.gw_watchers.proofs.files.opening.open_after.Goals as goal

pub returns-in-Ok-open_at_line : goal.returns-in-Ok-open_at_line
returns-in-Ok-open_at_line g c = record {
  line = option_map (λ (l : Vec ℕ). l.items) c.in-Ok.line;
  last = subst (λ (r : Result (Option (List ℕ)) ReadFailure). (g.H.Host.offers c.args.host.now).LastDenials c.args.name.now r) (found_line c.in-Ok.line)
      c.in-Ok.ensures;
  number = c.number_after.ensures;
  opens = c.in-Ok-open_at_line.ensures;
}
