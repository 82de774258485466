use Rattle.gw_device.proofs.Changes.{changes_are_allowed, changes_are_in_place, changes_rest_on_requests}
use Rattle.gw_device.proofs.Writes.{changes_can_be_made}
use Rattle.gw_device.proofs.laws.changes.Goals as goal

pub returns-clause-request : goal.returns-clause-request
returns-clause-request c = changes_rest_on_requests

pub returns-clause-place : goal.returns-clause-place
returns-clause-place c = changes_are_in_place

pub returns-clause-allowed : goal.returns-clause-allowed
returns-clause-allowed c = changes_are_allowed

pub returns-clause-acts : goal.returns-clause-acts
returns-clause-acts c = changes_can_be_made
