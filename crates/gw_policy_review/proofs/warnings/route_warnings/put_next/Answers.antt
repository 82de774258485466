use Rattle.std.proofs.Common.{◌∙◌, Some, None, ap, length, sym}
use Rattle.std.proofs.lemmas.Option.{slice_get-get_or, slice_get_past}
use Rattle.std.proofs.lemmas.Bool.{ltb-false, ltb-true}
use Rattle.gw_policy_review.specs.warnings.Warnings.{way_lines}
use Rattle.gw_policy_review.proofs.warnings_lemmas.Lines.{looked_up, nothing_put}
use Rattle.gw_policy_review.proofs.warnings.route_warnings.put_next.Goals as goal

pub returns-in-None : goal.returns-in-None
returns-in-None c =
    let past = ltb-false c.args.place (length c.args.ports.now) (sym c.in-None.ensures.lookup.0) in
    looked_up (way_lines c.args.ports.now c.args.index c.args.next c.args.place) _ None (slice_get_past c.args.ports.now c.args.place past) nothing_put

pub returns-in-Some : goal.returns-in-Some
returns-in-Some c =
    let within = ltb-true c.args.place (length c.args.ports.now) (sym c.in-Some.ensures.lookup.0) in
    let port = c.in-Some.port.now in
    looked_up (way_lines c.args.ports.now c.args.index c.args.next c.args.place) _ (Some port)
    (slice_get-get_or c.args.ports.now c.args.place port within ∙ ap Some (sym c.in-Some.ensures.lookup.1)) c.put_way.ensures
