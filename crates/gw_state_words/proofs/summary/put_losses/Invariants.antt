use Rattle.std.proofs.Common.{◌≡◌, ◌++◌, take}
use Rattle.std.specs.List.{flat_map}
use Rattle.gw_state_words.specs.Words.{loss_words}
use Rattle.gw_state_words.proofs.summary.put_losses.Given as goal

abbrev pub invariant-loop-loss : goal.invariant-loop-loss
invariant-loop-loss l = l.out.items ≡ l.fn.out.items ++ flat_map (loss_words l.findings) (take l.loss-index l.losses)
