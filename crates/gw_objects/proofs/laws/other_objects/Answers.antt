use Rattle.gw_objects.proofs.Others.{others_read_alike, write_place, writes_keep_agreement, writes_leave_others}
use Rattle.gw_objects.proofs.laws.other_objects.Goals as goal

pub returns-clause-reads : goal.returns-clause-reads
returns-clause-reads c = others_read_alike

pub returns-clause-place : goal.returns-clause-place
returns-clause-place c = write_place

pub returns-clause-writes : goal.returns-clause-writes
returns-clause-writes c = writes_leave_others

pub returns-clause-agreement : goal.returns-clause-agreement
returns-clause-agreement c = writes_keep_agreement
