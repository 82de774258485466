use Rattle.std.proofs.Common.{◌≡◌, ◌∙◌, ◌&&◌, [], Ok, Result, ap, arith, sym, true}
use Rattle.std.proofs.lemmas.Bool.{eqb-true}
use Rattle.std.proofs.lemmas.List.{nil_from_length}
use Rattle.gw_state_text.proofs.StateLemmas.{after_end, at_counts, at_end, at_first, counted, in_objects, in_ports, in_routes, read_objects, read_ports, read_routes, state_found, stops_so}
use Rattle.std.proofs.lemmas.Bool.{and_from}
use Rattle.gw_state.specs.Saved.{Saved, are_countable, are_few}
use Rattle.gw_state_text.specs.declared.fault.Stop.{Stop}
use Rattle.gw_state_text.proofs.BlockLemmas.{stop_is}
use Rattle.gw_state_text.proofs.StepLemmas.{Counted, counts_missed, counts_range, end_missed, few_parts, more_after, objects_fail, ports_fail, routes_fail, saved_is, state_read_so, version_missed, whole_of}
use Rattle.gw_state_text.proofs.reading.state_at.Goals as goal

pub returns-in_default-clause-stop : goal.returns-in_default-clause-stop
returns-in_default-clause-stop c =
    stops_so _ _ _ c.at.ensures.left (at_first c.args.text.now)

pub returns-in_default-counts_at-clause-stop : goal.returns-in_default-counts_at-clause-stop
returns-in_default-counts_at-clause-stop c =
    stops_so _ _ _ c.at-in_default-counts_at.ensures.left (at_counts c.args.text.now c.in-Some.lines.now c.in-Some.ensures.found)

pub returns-in-Err-clause-stop : goal.returns-in-Err-clause-stop
returns-in-Err-clause-stop c =
    in_ports c.args.text.now c.in-Some-counts_at.lines_of_ports.now c.in-Some-counts_at.counts c.in-Err.stop.left (counted c.args.text.now c.in-Some.lines.now c.in-Some-counts_at.lines_of_ports.now c.in-Some-counts_at.counts c.in-Some.ensures.found c.in-Some-counts_at.ensures.found) c.in-Err.ensures.stop

pub returns-in-Err-read_all-clause-stop : goal.returns-in-Err-read_all-clause-stop
returns-in-Err-read_all-clause-stop c =
    in_routes c.args.text.now c.in-Ok.read.1.now c.in-Some-counts_at.counts c.in-Ok.read.0.items c.in-Err-read_all.stop.left (read_ports c.args.text.now c.in-Some-counts_at.lines_of_ports.now c.in-Ok.read.1.now c.in-Some-counts_at.counts c.in-Ok.read.0.items (counted c.args.text.now c.in-Some.lines.now c.in-Some-counts_at.lines_of_ports.now c.in-Some-counts_at.counts c.in-Some.ensures.found c.in-Some-counts_at.ensures.found) c.in-Ok.ensures.found) c.in-Err-read_all.ensures.stop

pub returns-in-Err-read_all-2-clause-stop : goal.returns-in-Err-read_all-2-clause-stop
returns-in-Err-read_all-2-clause-stop c =
    in_objects c.args.text.now c.in-Ok-read_all.read.1.now c.in-Some-counts_at.counts c.in-Ok.read.0.items c.in-Ok-read_all.read.0.items c.in-Err-read_all-2.stop.left (read_routes c.args.text.now c.in-Ok.read.1.now c.in-Ok-read_all.read.1.now c.in-Some-counts_at.counts c.in-Ok.read.0.items c.in-Ok-read_all.read.0.items (read_ports c.args.text.now c.in-Some-counts_at.lines_of_ports.now c.in-Ok.read.1.now c.in-Some-counts_at.counts c.in-Ok.read.0.items (counted c.args.text.now c.in-Some.lines.now c.in-Some-counts_at.lines_of_ports.now c.in-Some-counts_at.counts c.in-Some.ensures.found c.in-Some-counts_at.ensures.found) c.in-Ok.ensures.found) c.in-Ok-read_all.ensures.found) c.in-Err-read_all-2.ensures.stop

pub returns-in_default-after_word-clause-stop : goal.returns-in_default-after_word-clause-stop
returns-in_default-after_word-clause-stop c =
    stops_so _ _ _ c.at-in_default-after_word.ensures.left
    (at_end c.args.text.now c.in-Ok-read_all-2.read.1.now c.in-Some-counts_at.counts c.in-Ok.read.0.items c.in-Ok-read_all.read.0.items c.in-Ok-read_all-2.read.0.items (read_objects c.args.text.now c.in-Ok-read_all.read.1.now c.in-Ok-read_all-2.read.1.now c.in-Some-counts_at.counts c.in-Ok.read.0.items c.in-Ok-read_all.read.0.items c.in-Ok-read_all-2.read.0.items (read_routes c.args.text.now c.in-Ok.read.1.now c.in-Ok-read_all.read.1.now c.in-Some-counts_at.counts c.in-Ok.read.0.items c.in-Ok-read_all.read.0.items (read_ports c.args.text.now c.in-Some-counts_at.lines_of_ports.now c.in-Ok.read.1.now c.in-Some-counts_at.counts c.in-Ok.read.0.items (counted c.args.text.now c.in-Some.lines.now c.in-Some-counts_at.lines_of_ports.now c.in-Some-counts_at.counts c.in-Some.ensures.found c.in-Some-counts_at.ensures.found) c.in-Ok.ensures.found) c.in-Ok-read_all.ensures.found) c.in-Ok-read_all-2.ensures.found))

pub returns-then-not-is_empty-clause-stop : goal.returns-then-not-is_empty-clause-stop
returns-then-not-is_empty-clause-stop c =
    stops_so _ _ _ c.at-then-not-is_empty.ensures.left
    (after_end c.args.text.now c.in-Ok-read_all-2.read.1.now c.in-Some-after_word.after.now c.in-Some-counts_at.counts c.in-Ok.read.0.items c.in-Ok-read_all.read.0.items c.in-Ok-read_all-2.read.0.items (read_objects c.args.text.now c.in-Ok-read_all.read.1.now c.in-Ok-read_all-2.read.1.now c.in-Some-counts_at.counts c.in-Ok.read.0.items c.in-Ok-read_all.read.0.items c.in-Ok-read_all-2.read.0.items (read_routes c.args.text.now c.in-Ok.read.1.now c.in-Ok-read_all.read.1.now c.in-Some-counts_at.counts c.in-Ok.read.0.items c.in-Ok-read_all.read.0.items (read_ports c.args.text.now c.in-Some-counts_at.lines_of_ports.now c.in-Ok.read.1.now c.in-Some-counts_at.counts c.in-Ok.read.0.items (counted c.args.text.now c.in-Some.lines.now c.in-Some-counts_at.lines_of_ports.now c.in-Some-counts_at.counts c.in-Some.ensures.found c.in-Some-counts_at.ensures.found) c.in-Ok.ensures.found) c.in-Ok-read_all.ensures.found) c.in-Ok-read_all-2.ensures.found) c.in-Some-after_word.ensures.found)

pub returns-in-Ok-new-clause-found : goal.returns-in-Ok-new-clause-found
returns-in-Ok-new-clause-found c =
    let nothing_more : c.in-Some-after_word.after.now ≡ [] = nil_from_length c.in-Some-after_word.after.now (eqb-true _ 0 (sym c.if-not-is_empty.ensures)) in
    state_found c.args.text.now c.in-Ok-read_all-2.read.1.now c.in-Some-after_word.after.now c.in-Some-counts_at.counts c.in-Ok.read.0.items c.in-Ok-read_all.read.0.items c.in-Ok-read_all-2.read.0.items c.in-Ok-new.saved
    (read_objects c.args.text.now c.in-Ok-read_all.read.1.now c.in-Ok-read_all-2.read.1.now c.in-Some-counts_at.counts c.in-Ok.read.0.items c.in-Ok-read_all.read.0.items c.in-Ok-read_all-2.read.0.items (read_routes c.args.text.now c.in-Ok.read.1.now c.in-Ok-read_all.read.1.now c.in-Some-counts_at.counts c.in-Ok.read.0.items c.in-Ok-read_all.read.0.items (read_ports c.args.text.now c.in-Some-counts_at.lines_of_ports.now c.in-Ok.read.1.now c.in-Some-counts_at.counts c.in-Ok.read.0.items (counted c.args.text.now c.in-Some.lines.now c.in-Some-counts_at.lines_of_ports.now c.in-Some-counts_at.counts c.in-Some.ensures.found c.in-Some-counts_at.ensures.found) c.in-Ok.ensures.found) c.in-Ok-read_all.ensures.found) c.in-Ok-read_all-2.ensures.found)
    c.in-Some-after_word.ensures.found nothing_more c.in-Ok-new.ensures.ports c.in-Ok-new.ensures.routes c.in-Ok-new.ensures.objects
    c.in-Ok-new.ensures.counts

pub returns-in-Err-Counts-clause-stop : goal.returns-in-Err-Counts-clause-stop
returns-in-Err-Counts-clause-stop c =
    stops_so _ _ _ c.at-in-Err-Counts.ensures.left (at_counts c.args.text.now c.in-Some.lines.now c.in-Some.ensures.found)

pub returns-then-not-are_countable-clause-stop : goal.returns-then-not-are_countable-clause-stop
returns-then-not-are_countable-clause-stop c =
    stops_so _ _ _ c.at-then-not-are_countable.ensures.left (at_counts c.args.text.now c.in-Some.lines.now c.in-Some.ensures.found)

-- ---- the same by the reading function

abbrev okay : Saved → Result Saved Stop
okay s = Ok s

pub returns-in_default-clause-exact : goal.returns-in_default-clause-exact
returns-in_default-clause-exact c = λ other. stop_is _ _ _ (version_missed c.args.text.now c.in_default.ensures.exact) c.at.ensures.is

pub returns-in_default-counts_at-clause-exact : goal.returns-in_default-counts_at-clause-exact
returns-in_default-counts_at-clause-exact c = λ other.
    stop_is _ _ _ (counts_missed c.args.text.now c.in-Some.lines.now c.in-Some.ensures.exact c.in_default-counts_at.ensures.exact)
    c.at-in_default-counts_at.ensures.is

pub returns-then-not-are_countable-clause-exact : goal.returns-then-not-are_countable-clause-exact
returns-then-not-are_countable-clause-exact c = λ other.
    stop_is _ _ _ (counts_range c.args.text.now c.in-Some.lines.now c.in-Some-counts_at.lines_of_ports.now c.in-Some-counts_at.counts c.in-Some.ensures.exact c.in-Some-counts_at.ensures.exact
    (sym c.if-not-are_countable.ensures))
    c.at-then-not-are_countable.ensures.is

pub returns-in-Err-clause-exact : goal.returns-in-Err-clause-exact
returns-in-Err-clause-exact c = λ other. ports_fail c.args.text.now c.in-Some-counts_at.lines_of_ports.now c.in-Some-counts_at.counts c.in-Err.stop (record { lines = c.in-Some.lines.now; first = c.in-Some.ensures.exact; counts = c.in-Some-counts_at.ensures.exact; are = sym c.if-not-are_countable.ensures }) (c.in-Err.ensures.exact other)

pub returns-in-Err-read_all-clause-exact : goal.returns-in-Err-read_all-clause-exact
returns-in-Err-read_all-clause-exact c = λ other.
    routes_fail c.args.text.now c.in-Some-counts_at.lines_of_ports.now c.in-Ok.read.1.now c.in-Some-counts_at.counts c.in-Ok.read.0.items c.len.result c.in-Err-read_all.stop (record { lines = c.in-Some.lines.now; first = c.in-Some.ensures.exact; counts = c.in-Some-counts_at.ensures.exact; are = sym c.if-not-are_countable.ensures }) c.in-Ok.ensures.exact (omega (arith, c.len.ensures, c.in-Ok.read.0.ok.0)) (c.in-Err-read_all.ensures.exact other)

pub returns-in-Err-read_all-2-clause-exact : goal.returns-in-Err-read_all-2-clause-exact
returns-in-Err-read_all-2-clause-exact c = λ other.
    objects_fail c.args.text.now c.in-Some-counts_at.lines_of_ports.now c.in-Ok.read.1.now c.in-Ok-read_all.read.1.now c.in-Some-counts_at.counts c.in-Ok.read.0.items c.in-Ok-read_all.read.0.items c.len.result c.in-Err-read_all-2.stop (record { lines = c.in-Some.lines.now; first = c.in-Some.ensures.exact; counts = c.in-Some-counts_at.ensures.exact; are = sym c.if-not-are_countable.ensures }) c.in-Ok.ensures.exact (omega (arith, c.len.ensures, c.in-Ok.read.0.ok.0)) c.in-Ok-read_all.ensures.exact
    (c.in-Err-read_all-2.ensures.exact other)

pub returns-in_default-after_word-clause-exact : goal.returns-in_default-after_word-clause-exact
returns-in_default-after_word-clause-exact c = λ other.
    stop_is _ _ _ (end_missed c.args.text.now c.in-Ok-read_all-2.read.1.now _ (whole_of c.args.text.now c.in-Some-counts_at.lines_of_ports.now c.in-Ok.read.1.now c.in-Ok-read_all.read.1.now c.in-Ok-read_all-2.read.1.now c.in-Some-counts_at.counts c.in-Ok.read.0.items c.in-Ok-read_all.read.0.items c.in-Ok-read_all-2.read.0.items c.len.result (record { lines = c.in-Some.lines.now; first = c.in-Some.ensures.exact; counts = c.in-Some-counts_at.ensures.exact; are = sym c.if-not-are_countable.ensures }) c.in-Ok.ensures.exact (omega (arith, c.len.ensures, c.in-Ok.read.0.ok.0)) c.in-Ok-read_all.ensures.exact c.in-Ok-read_all-2.ensures.exact) c.in_default-after_word.ensures.exact) c.at-in_default-after_word.ensures.is

pub returns-then-not-is_empty-clause-exact : goal.returns-then-not-is_empty-clause-exact
returns-then-not-is_empty-clause-exact c = λ other.
    stop_is _ _ _ (more_after c.args.text.now c.in-Ok-read_all-2.read.1.now c.in-Some-after_word.after.now _ (whole_of c.args.text.now c.in-Some-counts_at.lines_of_ports.now c.in-Ok.read.1.now c.in-Ok-read_all.read.1.now c.in-Ok-read_all-2.read.1.now c.in-Some-counts_at.counts c.in-Ok.read.0.items c.in-Ok-read_all.read.0.items c.in-Ok-read_all-2.read.0.items c.len.result (record { lines = c.in-Some.lines.now; first = c.in-Some.ensures.exact; counts = c.in-Some-counts_at.ensures.exact; are = sym c.if-not-are_countable.ensures }) c.in-Ok.ensures.exact (omega (arith, c.len.ensures, c.in-Ok.read.0.ok.0)) c.in-Ok-read_all.ensures.exact c.in-Ok-read_all-2.ensures.exact) c.in-Some-after_word.ensures.exact (sym c.if-not-is_empty.ensures))
    c.at-then-not-is_empty.ensures.is

pub returns-in-Ok-new-clause-exact : goal.returns-in-Ok-new-clause-exact
returns-in-Ok-new-clause-exact c =
    let is = saved_is c.in-Ok-new.saved c.in-Some-counts_at.counts c.in-Ok.read.0.items c.in-Ok-read_all.read.0.items c.in-Ok-read_all-2.read.0.items c.in-Ok-new.ensures.ports c.in-Ok-new.ensures.routes c.in-Ok-new.ensures.objects
    c.in-Ok-new.ensures.counts in
    state_read_so c.args.text.now c.in-Ok-read_all-2.read.1.now c.in-Some-after_word.after.now _ (whole_of c.args.text.now c.in-Some-counts_at.lines_of_ports.now c.in-Ok.read.1.now c.in-Ok-read_all.read.1.now c.in-Ok-read_all-2.read.1.now c.in-Some-counts_at.counts c.in-Ok.read.0.items c.in-Ok-read_all.read.0.items c.in-Ok-read_all-2.read.0.items c.len.result (record { lines = c.in-Some.lines.now; first = c.in-Some.ensures.exact; counts = c.in-Some-counts_at.ensures.exact; are = sym c.if-not-are_countable.ensures }) c.in-Ok.ensures.exact (omega (arith, c.len.ensures, c.in-Ok.read.0.ok.0)) c.in-Ok-read_all.ensures.exact c.in-Ok-read_all-2.ensures.exact) c.in-Some-after_word.ensures.exact (sym c.if-not-is_empty.ensures)
    ∙ ap okay (sym is)

pub returns-in-Err-TooMany-clause-exact : goal.returns-in-Err-TooMany-clause-exact
returns-in-Err-TooMany-clause-exact c = λ other.
    absurd (let e = c.in-Err-TooMany.ensures.accepted.1 (and_from (are_few c.in-Ok.read.0.items c.in-Ok-read_all.read.0.items c.in-Ok-read_all-2.read.0.items) (are_countable c.in-Some-counts_at.counts)
    (few_parts c.in-Ok.read.0.items c.in-Ok-read_all.read.0.items c.in-Ok-read_all-2.read.0.items c.in-Ok.ensures.fits.few c.in-Ok-read_all.ensures.fits.few c.in-Ok-read_all-2.ensures.fits.few)
    (sym c.if-not-are_countable.ensures)) in cc)

pub returns-in-Err-Counts-clause-exact : goal.returns-in-Err-Counts-clause-exact
returns-in-Err-Counts-clause-exact c = λ other.
    absurd (let e = c.in-Err-Counts.ensures.accepted.1 (and_from (are_few c.in-Ok.read.0.items c.in-Ok-read_all.read.0.items c.in-Ok-read_all-2.read.0.items) (are_countable c.in-Some-counts_at.counts)
    (few_parts c.in-Ok.read.0.items c.in-Ok-read_all.read.0.items c.in-Ok-read_all-2.read.0.items c.in-Ok.ensures.fits.few c.in-Ok-read_all.ensures.fits.few c.in-Ok-read_all-2.ensures.fits.few)
    (sym c.if-not-are_countable.ensures)) in cc)
