use Rattle.gw_core_laws.proofs.ExampleRuns.{read_is_answered, hidden_read_is_denied, local_read_is_unheard, hidden_object_is_unnamed, unknown_object_is_named, each_cut_is_dropped, wrong_lengths_are_dropped, routed_read_is_answered, counts_end, denials_are_counted_on, write_is_seen, relinquish_is_seen, denied_write_is_unseen, all_are_placed, denied_set_is_refused, denied_table_is_refused, who_is_is_answered, registration_ends, broadcast_is_distributed, learned_route_is_taken, unknown_network_is_sought, global_who_is_goes_on, hidden_write_is_unseen, hiding_is_seen}
use Rattle.gw_core_laws.proofs.laws.worked_examples.Goals as goal

pub returns-clause-read_is_answered : goal.returns-clause-read_is_answered
returns-clause-read_is_answered c = read_is_answered

pub returns-clause-hidden_read_is_denied : goal.returns-clause-hidden_read_is_denied
returns-clause-hidden_read_is_denied c = hidden_read_is_denied

pub returns-clause-local_read_is_unheard : goal.returns-clause-local_read_is_unheard
returns-clause-local_read_is_unheard c = local_read_is_unheard

pub returns-clause-hidden_object_is_unnamed : goal.returns-clause-hidden_object_is_unnamed
returns-clause-hidden_object_is_unnamed c = hidden_object_is_unnamed

pub returns-clause-unknown_object_is_named : goal.returns-clause-unknown_object_is_named
returns-clause-unknown_object_is_named c = unknown_object_is_named

pub returns-clause-each_cut_is_dropped : goal.returns-clause-each_cut_is_dropped
returns-clause-each_cut_is_dropped c = each_cut_is_dropped

pub returns-clause-wrong_lengths_are_dropped :
    goal.returns-clause-wrong_lengths_are_dropped
returns-clause-wrong_lengths_are_dropped c = wrong_lengths_are_dropped

pub returns-clause-routed_read_is_answered : goal.returns-clause-routed_read_is_answered
returns-clause-routed_read_is_answered c = routed_read_is_answered

pub returns-clause-counts_end : goal.returns-clause-counts_end
returns-clause-counts_end c = counts_end

pub returns-clause-denials_are_counted_on : goal.returns-clause-denials_are_counted_on
returns-clause-denials_are_counted_on c = denials_are_counted_on

pub returns-clause-write_is_seen : goal.returns-clause-write_is_seen
returns-clause-write_is_seen c = write_is_seen

pub returns-clause-relinquish_is_seen : goal.returns-clause-relinquish_is_seen
returns-clause-relinquish_is_seen c = relinquish_is_seen

pub returns-clause-denied_write_is_unseen : goal.returns-clause-denied_write_is_unseen
returns-clause-denied_write_is_unseen c = denied_write_is_unseen

pub returns-clause-all_are_placed : goal.returns-clause-all_are_placed
returns-clause-all_are_placed c = all_are_placed

pub returns-clause-denied_set_is_refused : goal.returns-clause-denied_set_is_refused
returns-clause-denied_set_is_refused c = denied_set_is_refused

pub returns-clause-denied_table_is_refused : goal.returns-clause-denied_table_is_refused
returns-clause-denied_table_is_refused c = denied_table_is_refused

pub returns-clause-who_is_is_answered : goal.returns-clause-who_is_is_answered
returns-clause-who_is_is_answered c = who_is_is_answered

pub returns-clause-registration_ends : goal.returns-clause-registration_ends
returns-clause-registration_ends c = registration_ends

pub returns-clause-broadcast_is_distributed : goal.returns-clause-broadcast_is_distributed
returns-clause-broadcast_is_distributed c = broadcast_is_distributed

pub returns-clause-learned_route_is_taken : goal.returns-clause-learned_route_is_taken
returns-clause-learned_route_is_taken c = learned_route_is_taken

pub returns-clause-unknown_network_is_sought : goal.returns-clause-unknown_network_is_sought
returns-clause-unknown_network_is_sought c = unknown_network_is_sought

pub returns-clause-global_who_is_goes_on : goal.returns-clause-global_who_is_goes_on
returns-clause-global_who_is_goes_on c = global_who_is_goes_on

pub returns-clause-hidden_write_is_unseen : goal.returns-clause-hidden_write_is_unseen
returns-clause-hidden_write_is_unseen c = hidden_write_is_unseen

pub returns-clause-hiding_is_seen : goal.returns-clause-hiding_is_seen
returns-clause-hiding_is_seen c = hiding_is_seen
