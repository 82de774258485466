use Rattle.gw_core_laws.proofs.RefusedLemmas.{denied_listings_are_silent, denied_management_is_refused, denied_members_are_refused, denied_properties_are_refused, others_are_answered, replies_are_their_parts}
use Rattle.gw_core_laws.proofs.laws.refusals.Goals as goal

pub returns-clause-parts : goal.returns-clause-parts
returns-clause-parts c = replies_are_their_parts

pub returns-clause-properties : goal.returns-clause-properties
returns-clause-properties c = denied_properties_are_refused

pub returns-clause-others : goal.returns-clause-others
returns-clause-others c = others_are_answered

pub returns-clause-members : goal.returns-clause-members
returns-clause-members c = denied_members_are_refused

pub returns-clause-listings : goal.returns-clause-listings
returns-clause-listings c = denied_listings_are_silent

pub returns-clause-tables : goal.returns-clause-tables
returns-clause-tables c = denied_management_is_refused
