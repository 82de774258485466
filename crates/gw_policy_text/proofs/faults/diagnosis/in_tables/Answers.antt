use Rattle.toml.specs.View.{table_view}
use Rattle.gw_policy_text.specs.Document.{configuration_of}
use Rattle.gw_policy_text.proofs.faults.diagnosis.in_tables.Goals as goal

pub returns : goal.returns
returns c = c.of_fault.ensures (configuration_of (table_view c.args.top.now)) c.in-Err.ensures.configuration
