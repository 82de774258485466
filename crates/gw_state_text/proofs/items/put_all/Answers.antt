use Rattle.std.proofs.Common.{ℕ, List, take, subst, rules}
use Rattle.std.specs.List.{flat_map}
use Rattle.gw_addr.specs.Reading.{Keeps}
use Rattle.gw_addr.proofs.Writing.{Keeps-front}
use Rattle.gw_state_text.proofs.items.put_all.Goals as goal

pub returns-in_err-put : goal.returns-in_err-put
returns-in_err-put g c =
    let written = flat_map (g.L.ItemLines.lines c.args.kind.now) (take c.loop-item.item-index c.args.items.now) in
    record {
      ok = search rules;
      front = Keeps-front c.args.out.now.items written c.put.new.out.items
          (subst (λ (x : List ℕ). Keeps x c.put.new.out.items) c.loop-item.invariant c.in_err-put.ensures.front);
    }
