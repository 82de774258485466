use Rattle.gw_turns.proofs.BothLemmas.{first_goes, second_goes, under_first, under_second}
use Rattle.gw_turns.proofs.laws.two_guards.Goals as goal

pub returns-clause-first : goal.returns-clause-first
returns-clause-first g c = under_first g.G.Guard.Passes g.H.Guard.Passes

pub returns-clause-second : goal.returns-clause-second
returns-clause-second g c = second_goes g.G.Guard.Passes g.H.Guard.Passes

pub returns-clause-second_alone : goal.returns-clause-second_alone
returns-clause-second_alone g c = under_second g.G.Guard.Passes g.H.Guard.Passes

pub returns-clause-first_passed : goal.returns-clause-first_passed
returns-clause-first_passed g c = first_goes g.G.Guard.Passes g.H.Guard.Passes
