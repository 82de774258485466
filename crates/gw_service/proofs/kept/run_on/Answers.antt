use Rattle.std.proofs.Common.{ℕ, List, Result, ◌∙◌, ap, rules, subst, sym}
use Rattle.std.specs.Io.KnownBytes.{Appends}
use Rattle.gw_core.specs.declared.guard.BothGuards.{BothGuards}
use Rattle.gw_script.proofs.Passing.{passes_on}
use Rattle.gw_system.specs.Requests.{recorded_by}
use Rattle.gw_watchers.specs.Watching.{Watching}
use Rattle.gw_notices.specs.declared.troubles.Troubles.{Troubles}
use Rattle.gw_service.specs.Holding.{more_holding, stage_of}
use Rattle.gw_service.specs.Kept.{LeavesKept, RunsFromHolding, given, outcome_by, rest, service_by, unkept_of, watched_holding_manner_of}
use Rattle.gw_service.specs.Metering.{metered}
use Rattle.gw_service.specs.Serving.{ends}
use Rattle.gw_service.specs.Stats.{end_stats, reporting}
use Rattle.gw_service.specs.Watch.{more_of, troubles_of}
use Rattle.gw_service.specs.declared.fault.ServiceFault.{ServiceFault}
use Rattle.gw_service.specs.declared.fault.ServiceFault.TheVariants as fault
use Rattle.gw_service.specs.declared.holding.Holding.{Holding}
use Rattle.gw_service.specs.declared.keeping.Kept.{Kept}
use Rattle.gw_service.specs.declared.running.Running.{Running}
use Rattle.gw_service.proofs.KeptLemmas.{held_watched, ran_watched, same_counts, unbegun}
use Rattle.gw_service.proofs.kept.run_on.Goals as goal

pub returns-in_err-running-clause-ran : goal.returns-in_err-running-clause-ran
returns-in_err-running-clause-ran g c =
    let from = given g.S.Store.held g.Q.Requests.recorded g.T.OctetSink.held c.args.ready.before in
    let how = service_by c.args.ready.options.now in
    let at = ends (g.L.OctetSink.held c.args.log.now) (g.X.Wire.calls c.args.sockets.now) in
    let never = g.E.OctetSink.NeverFails c.args.errors.now in
    let held = g.E.OctetSink.held c.args.errors.now in
    passes_on (λ (r : Result (Unit {0}) ServiceFault). (text : List ℕ) × LeavesKept from c.args.ready.config how at at text r
    × (never → Appends held held text)) fault.Memory c.from_residual.result c.from_residual.ensures
    (unbegun from c.args.ready.config how at never held)

pub returns-else-options-clause-ran : goal.returns-else-options-clause-ran
returns-else-options-clause-ran g c =
    let run = c.in_ok-running.running in
    let is = c.in_ok-running.ensures in
    let held = g.E.OctetSink.held in
    let said = recorded_by g.Q.Requests.recorded in
    let at = c.run-answer-else-options in
    ran_watched (given g.S.Store.held g.Q.Requests.recorded g.T.OctetSink.held c.args.ready.before) c.args.ready.config
    (service_by c.args.ready.options.now) c.counts.result c.is_kept-keeps.result c.is_some-reloads.result run.state.left run.gateway run.keeper
    run.state.served run.state.tally (said run.requests) run.counts run.announcing (metered run.metrics)
    (ends (g.L.OctetSink.held c.args.log.now) (g.X.Wire.calls c.args.sockets.now))
    (ends (g.L.OctetSink.held at.new.log) (g.X.Wire.calls at.new.wire)) at.result
    (rest at.new.self.keeper (said at.new.self.requests)) c.outcome_of-else-options.result
    (g.E.OctetSink.NeverFails c.args.errors.now) (held c.args.errors.now) (held at.new.errors) is.left
    (same_counts c.counts.result run.gateway c.counts.ensures.ticks c.counts.ensures.denials) is.begins is.keeps is.watches is.served is.tally
    (ap said is.requests) is.counts is.announcing (ap metered is.metrics) c.is_kept-keeps.ensures c.is_some-reloads.ensures c.if-options.false
    (c.outcome_of-else-options.ensures ∙ ap (λ (t : Troubles). outcome_by at.result t.state) c.troubles-else-options.ensures)
    (at.ensures.runs c.args.ready.config is.origin)

pub returns-then-options-clause-ran : goal.returns-then-options-clause-ran
returns-then-options-clause-ran g c =
    let run = c.in_ok-running.running in
    let is = c.in_ok-running.ensures in
    let held = g.E.OctetSink.held in
    let said = recorded_by g.Q.Requests.recorded in
    let options = c.args.ready.options.now in
    let how = reporting options.stats options.stats_rules c.counts.result c.is_kept-keeps.result c.is_some-reloads.result options.verbose in
    let at = c.run-answer in
    let never = g.E.OctetSink.NeverFails c.args.errors.now in
    let after = ends (g.L.OctetSink.held at.new.log) (g.X.Wire.calls at.new.wire) in
    let left = rest at.new.self.running.keeper (said at.new.self.running.requests) in
    let is_held = c.holding-held.ensures.running in
    let ran = subst (λ (r : Running _ _ _). (text : List ℕ) × RunsFromHolding (watched_holding_manner_of g.S.Store.held g.T.OctetSink.held how)
    (end_stats (λ (h : Holding (BothGuards (Watching _ _) (Kept _))). unkept_of h.keeper) (more_holding more_of) how) c.counts.result r.state.left
    (stage_of said c.args.ready.config (record r { said = troubles_of r.keeper.keeper }) (g.L.OctetSink.held c.args.log.now)
    (g.X.Wire.calls c.args.sockets.now)) at.result after left text × (never → Appends (held c.args.errors.now) (held at.new.errors) text)) is_held
    (at.ensures.runs c.args.ready.config (ap (λ (r : Running _ _ _). r.origin) is_held ∙ is.origin)) in
    held_watched (given g.S.Store.held g.Q.Requests.recorded g.T.OctetSink.held c.args.ready.before) c.args.ready.config
    (service_by options) c.counts.result c.is_kept-keeps.result c.is_some-reloads.result run.state.left run.gateway run.keeper
    run.state.served run.state.tally (said run.requests) run.counts run.announcing (metered run.metrics)
    (ends (g.L.OctetSink.held c.args.log.now) (g.X.Wire.calls c.args.sockets.now))
    after at.result left c.outcome_of.result never (held c.args.errors.now) (held at.new.errors) is.left
    (same_counts c.counts.result run.gateway c.counts.ensures.ticks c.counts.ensures.denials) is.begins is.keeps is.watches is.served is.tally
    (ap said is.requests) is.counts is.announcing (ap metered is.metrics) c.is_kept-keeps.ensures c.is_some-reloads.ensures c.if-options.true
    (c.outcome_of.ensures ∙ ap (λ (t : Troubles). outcome_by at.result t.state) c.troubles.ensures)
    ran

pub invariant_of-schedule : goal.invariant_of-schedule
invariant_of-schedule g c = search rules

pub invariant_of-schedule-else-options : goal.invariant_of-schedule-else-options
invariant_of-schedule-else-options g c = search rules
