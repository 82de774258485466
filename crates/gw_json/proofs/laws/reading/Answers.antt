use Rattle.gw_json.proofs.Checks.{checks_read, faults_read}
use Rattle.gw_json.proofs.PairShallow.{given_up_read, paired_read, pairs_read}
use Rattle.gw_json.proofs.Reading.{answers_read, denials_read, others_read}
use Rattle.gw_json.proofs.Shallow.{comparisons_read, differences_read, summaries_read}
use Rattle.gw_json.proofs.laws.reading.Goals as goal

pub returns-clause-denials : goal.returns-clause-denials
returns-clause-denials c = denials_read

pub returns-clause-others : goal.returns-clause-others
returns-clause-others c = others_read

pub returns-clause-answers : goal.returns-clause-answers
returns-clause-answers c = answers_read

pub returns-clause-comparisons : goal.returns-clause-comparisons
returns-clause-comparisons c = comparisons_read

pub returns-clause-summaries : goal.returns-clause-summaries
returns-clause-summaries c = summaries_read

pub returns-clause-differences : goal.returns-clause-differences
returns-clause-differences c = differences_read

pub returns-clause-checks : goal.returns-clause-checks
returns-clause-checks c = checks_read

pub returns-clause-faults : goal.returns-clause-faults
returns-clause-faults c = faults_read

pub returns-clause-pairs : goal.returns-clause-pairs
returns-clause-pairs c = pairs_read

pub returns-clause-paired : goal.returns-clause-paired
returns-clause-paired c = paired_read

pub returns-clause-given_up : goal.returns-clause-given_up
returns-clause-given_up c = given_up_read
