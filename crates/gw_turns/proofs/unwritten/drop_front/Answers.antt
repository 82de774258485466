use Rattle.std.proofs.Common.{ℕ, ap, drop, sym}
use Rattle.gw_turns.proofs.unwritten.drop_front.Goals as goal

pub returns-then-count-eq0 : goal.returns-then-count-eq0
returns-then-count-eq0 c = sym (ap (λ (n : ℕ). drop n c.args.text.now.items) c.if-count-eq0.true)
