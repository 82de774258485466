use Rattle.std.proofs.Common.{◌≡◌, drop}
use Rattle.gw_program_vectors.specs.Folders.{shown_by}
use Rattle.gw_program_vectors.proofs.mem_folder.find.Given as goal

abbrev pub invariant-loop-entry : goal.invariant-loop-entry
invariant-loop-entry l = shown_by (drop l.entry-index l.entries) l.name ≡ shown_by l.entries l.name
