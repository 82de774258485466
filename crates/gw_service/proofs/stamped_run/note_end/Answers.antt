use Rattle.gw_service.proofs.stamped_run.note_end.Goals as goal

pub returns : goal.returns
returns g c = record { outcome = c.note.result; note = c.note.ensures.note; keeps = c.note.ensures.keeps }
