use Rattle.std.proofs.Common.{◌≡◌, ◌∙◌, ◌==◌, List, [], ℕ, Bool, true, false, ap, if◌then◌else◌, inr, length, sym, true≢false}
use Rattle.gw_notices.proofs.AppendLemmas.{appends_nothing}
use Rattle.gw_service.specs.Holding.{counting, over, stage_of, written_line}
use Rattle.gw_service.proofs.holding_run.HoldingRun.write.Goals as goal

pub returns-then-is_empty-2-clause-writes : goal.returns-then-is_empty-2-clause-writes
returns-then-is_empty-2-clause-writes g c = λ config calls.
    let old = c.args.self.now in
    let parts = c.write_to.ensures.parts in
    let log = g.L.OctetSink.held c.write_to.new.log in
    let was = stage_of g.Q.Requests.recorded config old.running (g.L.OctetSink.held c.args.log.now) calls in
    let none : (length c.write_to.new.self == 0) ≡ true = sym c.is_empty-2.ensures ∙ c.if-is_empty-2.true in (
      written_line,
      inr (
        parts.0,
        record {
          some = λ e. true≢false (sym (ap (λ (l : List ℕ). length l == 0) e) ∙ sym c.is_empty.ensures ∙ c.if-is_empty.false);
          parts = parts.1;
          log = log;
          appended = parts.2;
          stage = ap (λ (n : ℕ). counting (over was log) n old.running.keeper.withheld) c.len-self.ensures.count;
          says = sym (ap (λ (b : Bool). if b then written_line else []) none);
        },
      ),
      λ never. c.write_note.ensures.said never,
    )

pub returns-else-is_empty-2-clause-writes : goal.returns-else-is_empty-2-clause-writes
returns-else-is_empty-2-clause-writes g c = λ config calls.
    let old = c.args.self.now in
    let parts = c.write_to.ensures.parts in
    let log = g.L.OctetSink.held c.write_to.new.log in
    let was = stage_of g.Q.Requests.recorded config old.running (g.L.OctetSink.held c.args.log.now) calls in
    let some : (length c.write_to.new.self == 0) ≡ false = sym c.is_empty-2.ensures ∙ c.if-is_empty-2.false in (
      [],
      inr (
        parts.0,
        record {
          some = λ e. true≢false (sym (ap (λ (l : List ℕ). length l == 0) e) ∙ sym c.is_empty.ensures ∙ c.if-is_empty.false);
          parts = parts.1;
          log = log;
          appended = parts.2;
          stage = ap (λ (n : ℕ). counting (over was log) n old.running.keeper.withheld) c.len-self.ensures.count;
          says = sym (ap (λ (b : Bool). if b then written_line else []) some);
        },
      ),
      λ never. appends_nothing (g.E.OctetSink.held c.args.errors.now),
    )
