use Rattle.std.proofs.Common.{sym, ◌∙◌}
use Rattle.gw_objects.proofs.Places.{new_entry}
use Rattle.gw_objects.proofs.index.note.Goals as goal

pub returns-in_ok-insert : goal.returns-in_ok-insert
returns-in_ok-insert g c =
    c.in_ok-insert.ensures.entries
    ∙ new_entry g.K.PartialEq.eq c.args.places.now c.args.key c.args.place (sym c.contains_key.ensures ∙ c.if-not-contains_key.true)
