use Rattle.gw_rule_index.proofs.Rows.{marks_both}
use Rattle.gw_rule_index.proofs.row.Row.and.Goals as goal

pub returns-clause-marks : goal.returns-clause-marks
returns-clause-marks c rules one two =
    marks_both c.args.self.now.words c.args.other.now.words c.and_lanes-self.result one two rules c.and_lanes-self.ensures
