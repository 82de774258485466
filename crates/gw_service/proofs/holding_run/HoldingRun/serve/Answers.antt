use Rattle.std.proofs.Common.{◌∙◌, ◌++◌, ◌==◌, ap, length, refl, subst, sym}
use Rattle.gw_notices.proofs.AppendLemmas.{appends_two}
use Rattle.gw_service.specs.Kept.{is_stopped}
use Rattle.gw_system.specs.Requests.{IsAsking}
use Rattle.gw_service.proofs.HoldingRunLemmas.{stopped_before}
use Rattle.gw_service.proofs.holding_run.HoldingRun.serve.Goals as goal

pub returns-clause-runs : goal.returns-clause-runs
returns-clause-runs g c = λ config is_config.
    let served = c.serve_steps-how.ensures.serves config is_config in
    let calls = g.W.Wire.calls c.serve_steps-how.new.wire in
    let written = c.write.ensures.writes served.0 calls in
    let held = g.E.OctetSink.held in (
      served.0,
      served.1 ++ written.0,
      c.write.ensures.origin ∙ served.2,
      record {
        how = c.serve_steps-how.result;
        served_text = served.1;
        middle = _;
        serves = served.3;
        last_text = written.0;
        finishes = written.1;
        answers = c.answer.ensures;
        says = refl;
      },
      λ never. appends_two (held c.args.errors.now) (held c.serve_steps-how.new.errors) (held c.write.new.errors) served.1 written.0
          (served.4 never) (written.2 (c.serve_steps-how.ensures.lasts never)),
    )

pub returns-clause-asking : goal.returns-clause-asking
returns-clause-asking g c = λ stopped.
    let waiting = c.write.new.self.waiting in
    let how = c.serve_steps-how.result in
    subst (λ (q : _). IsAsking (g.Q.Requests.recorded q)) (sym c.write.ensures.requests)
    (c.serve_steps-how.ensures.asking (stopped_before (length waiting == 0) how (sym (ap is_stopped c.answer.ensures) ∙ stopped)))
