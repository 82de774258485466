use Rattle.std.proofs.Common.{rules, ◌≡◌, ap, ℕ, ◌<◌, get_or, None}
use Rattle.gw_tables.proofs.priority_lemmas.History.{all_empty}
use Rattle.gw_tables.proofs.priority.array.PriorityArray.new.Goals as goal

pub returns-clause-slots : goal.returns-clause-slots
returns-clause-slots g c =
    let each : (place : ℕ) → place < 16 → get_or c.from_fn.result place None ≡ None = λ place lt.
    let call = (c.from_fn.ensures.items.at place None lt).2.met in search rules in
    ap (λ slots. record { slots = slots; default = c.args.default }) (all_empty c.from_fn.result c.from_fn.ensures.items.long each)

pub returns-clause-stands : goal.returns-clause-stands
returns-clause-stands g c = returns-clause-slots g c
