use Rattle.gw_policy_review.specs.lint.Notes.{network_note, object_note, overlap_notes}
use Rattle.gw_policy_review.proofs.lint_lemmas.Appending.{three}
use Rattle.gw_policy_review.proofs.lint.note.put_field_notes.Goals as goal

pub returns : goal.returns
returns c =
    let config = c.args.lint.now.config.now in
    let lines = c.args.lint.now.lines.now in
    let number = c.args.number in
    let rule = c.args.rule.now in
    three c.put_object_note.result c.args.out.now.items c.put_network_note.new.out.items c.put_overlap_notes.new.out.items
    c.put_object_note.new.out.items (network_note config lines number rule) (overlap_notes config lines number rule)
    (object_note c.args.unnamed.now config lines number) c.in_ok-put_network_note.ensures
    c.in_ok-put_overlap_notes.ensures c.put_object_note.ensures
