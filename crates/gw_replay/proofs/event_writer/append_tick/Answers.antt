use Rattle.std.proofs.Common.{◌++◌, ◌∙◌, List, ℕ, ap}
use Rattle.gw_replay.proofs.ShownLemmas.{tick_text}
use Rattle.gw_replay.proofs.event_writer.append_tick.Goals as goal

pub returns-in-Ok-append_end-clause-text : goal.returns-in-Ok-append_end-clause-text
returns-in-Ok-append_end-clause-text c =
    c.in-Ok-append_end.ensures.ok ∙ ap (λ (t : List ℕ). c.args.text.now.items ++ t) (tick_text c.args.gateway.now)
