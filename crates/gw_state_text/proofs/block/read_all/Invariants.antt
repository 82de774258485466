use Rattle.gw_state_text.proofs.BlockLemmas.{Progress, Steps}
use Rattle.gw_state_text.proofs.block.read_all.Given as goal

-- the items so far are read
abbrev pub invariant-loop-count : goal.invariant-loop-count
invariant-loop-count g l =
    Progress (g.B.Block.line l.block) (g.B.Block.Fits l.block) l.fn.text l._count l.items.items l.rest
    × Steps (g.B.Block.reads l.block) (g.B.Block.opens l.block) (g.B.Block.count l.block) l.fn.text l._count l.items.items l.rest
