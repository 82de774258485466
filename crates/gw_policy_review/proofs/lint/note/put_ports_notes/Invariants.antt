use Rattle.gw_policy_review.specs.lint.Notes.{ArePortNotes}
use Rattle.gw_policy_review.proofs.permissions_lemmas.InTurn.{Turned}
use Rattle.gw_policy_review.proofs.lint.note.put_ports_notes.Given as goal

abbrev pub invariant-loop-place : goal.invariant-loop-place
invariant-loop-place l =
    Turned (ArePortNotes l.lint.config.now l.lint.lines.now) l.lint.config.now.ports l.place l.fn.left l.rest
    l.fn.out.items l.out.items
