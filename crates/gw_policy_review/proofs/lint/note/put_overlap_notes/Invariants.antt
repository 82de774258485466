use Rattle.std.proofs.Common.{◌≡◌, ◌++◌, take}
use Rattle.std.specs.List.{flat_map}
use Rattle.gw_policy_review.specs.lint.Notes.{overlap_note}
use Rattle.gw_policy_review.proofs.lint.note.put_overlap_notes.Given as goal

abbrev pub invariant-loop-field : goal.invariant-loop-field
invariant-loop-field l =
    l.out.items ≡ l.fn.out.items ++ flat_map (overlap_note l.lint.config.now l.lint.lines.now l.number l.rule) (take l.field-index l.fields)
