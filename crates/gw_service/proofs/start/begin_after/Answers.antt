use Rattle.std.proofs.Common.{◌≡◌, ◌∙◌, ap, ap₂, option_map, subst, ℕ}
use Rattle.gw_core.specs.State.{State}
use Rattle.gw_core.specs.declared.event.Counts.{Counts}
use Rattle.gw_service.specs.Counts.{GoesOnFrom}
use Rattle.gw_service.specs.Start.{begun, counts_of}
use Rattle.gw_service.proofs.start.begin_after.Goals as goal

pub returns : goal.returns
returns c =
    let saved = c.numbered-saved.result in
    let counts = c.go_on_from-counts.result in
    let is : c.in_ok-gateway.gateway ≡ begun c.args.config saved = c.in_ok-gateway.ensures in
    let of : Counts = c.counts.result in
    let same : of ≡ counts_of (begun c.args.config saved) =
    ap₂ (λ (ticks denials : ℕ). record { ticks = ticks; denials = denials }) (c.counts.ensures.ticks ∙ ap (λ (w : State). w.ticks) is)
    (c.counts.ensures.denials ∙ ap (λ (w : State). w.denials) is) in
    record {
      numbered = saved;
      is = c.numbered-saved.ensures;
      counts = counts;
      from = subst (λ (k : Counts). GoesOnFrom k (option_map (λ line. line.items) c.args.line.now) counts) same c.go_on_from-counts.ensures.from;
      state = c.count_on.ensures ∙ ap (λ (w : State). record w { ticks = counts.ticks; denials = counts.denials }) is;
    }
