use Rattle.std.proofs.Common.{◌≡◌, ◌++◌, ◌∙◌, ℕ, List, Bool, true, ap, subst, sym, arith}
use Rattle.gw_rules.specs.declared.rule.Rule.{Rule}
use Rattle.gw_core.specs.declared.asked.Asked.{Asked}
use Rattle.gw_watchers.specs.Beside.{IsPut, ended, start}
use Rattle.gw_watchers.specs.Records.{lines_of, records}
use Rattle.gw_watchers.proofs.RecordLemmas.{ended_records, no_records}
use Rattle.gw_watchers.proofs.beside.Beside.record_asks.Goals as goal

pub returns-then-put-eq0 : goal.returns-then-put-eq0
returns-then-put-eq0 g c =
    let b = c.args.self.now in
    let asked = c.args.asked.now.kept in
    let records_by = λ (rules : List Rule) (ticks : ℕ) (asked : List Asked). records (g.C.RecordChoice.chosen b.choice) (g.C.RecordChoice.front b.choice rules) (g.C.RecordChoice.naming b.choice rules) b.number ticks asked in
    let put = subst (λ (rules : List Rule). IsPut (records_by rules c.args.gateway.now.ticks asked) (start b.number)
    c.begin_text-is_begun.new.text.items c.put_all-put.new.text.items c.put_all-put.result) c.rules.ensures
    (subst (λ (ticks : ℕ). IsPut (records_by c.rules.result.now ticks asked) (start b.number)
    c.begin_text-is_begun.new.text.items c.put_all-put.new.text.items c.put_all-put.result) c.counts.ensures.ticks
    (subst (λ (l : List Asked). IsPut (records_by c.rules.result.now c.counts.result.ticks l) (start b.number)
    c.begin_text-is_begun.new.text.items c.put_all-put.new.text.items c.put_all-put.result) (sym c.kept.ensures) c.put_all-put.ensures)) in
    no_records g.S.OctetSink.held (records_by c.args.gateway.now.rules c.args.gateway.now.ticks asked) c.put_all-put.result.count b (omega (arith, put.count))
    (omega (arith, c.if-put-eq0.true))

pub returns : goal.returns
returns g c =
    let b = c.args.self.now in
    let asked = c.args.asked.now.kept in
    let records_by = λ (rules : List Rule) (ticks : ℕ) (asked : List Asked). records (g.C.RecordChoice.chosen b.choice) (g.C.RecordChoice.front b.choice rules) (g.C.RecordChoice.naming b.choice rules) b.number ticks asked in
    let due = records_by c.args.gateway.now.rules c.args.gateway.now.ticks asked in
    let put = subst (λ (rules : List Rule). IsPut (records_by rules c.args.gateway.now.ticks asked) (start b.number)
    c.begin_text-is_begun.new.text.items c.put_all-put.new.text.items c.put_all-put.result) c.rules.ensures
    (subst (λ (ticks : ℕ). IsPut (records_by c.rules.result.now ticks asked) (start b.number)
    c.begin_text-is_begun.new.text.items c.put_all-put.new.text.items c.put_all-put.result) c.counts.ensures.ticks
    (subst (λ (l : List Asked). IsPut (records_by c.rules.result.now c.counts.result.ticks l) (start b.number)
    c.begin_text-is_begun.new.text.items c.put_all-put.new.text.items c.put_all-put.result) (sym c.kept.ensures) c.put_all-put.ensures)) in
    ended_records g.S.OctetSink.held due c.put_all-put.result.last c.put_all-put.result.count b c.end_lines.new.self put.last (omega (arith, put.count))
    (omega (arith, c.if-put-eq0.false))
    (c.end_lines.ensures (ended b.is_cut ++ lines_of due) (λ begun whole.
    c.deref.ensures.value ∙ (put.whole whole).1
    ∙ ap (λ (t : List ℕ). t ++ lines_of due)
    (c.begin_text-is_begun.ensures begun ∙ ap (λ (t : List ℕ). t ++ ended b.is_cut) c.clear.ensures.items)))
