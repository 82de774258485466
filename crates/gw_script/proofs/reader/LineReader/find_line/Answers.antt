use Rattle.gw_script.proofs.AppendLemmas.{every_piece}
use Rattle.gw_script.proofs.reader.LineReader.find_line.Goals as goal

pub returns-in-Some-clause-found : goal.returns-in-Some-clause-found
returns-in-Some-clause-found g c = every_piece _ _ _ c.in-Some.ensures.found

pub returns-in-Some-whole_line-clause-found : goal.returns-in-Some-whole_line-clause-found
returns-in-Some-whole_line-clause-found g c = every_piece _ _ _ c.in-Some-whole_line.ensures.found
