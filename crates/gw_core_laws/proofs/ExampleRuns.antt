-- The worked examples, computed.
use Rattle.std.specs.Prelude.{⊤}
use Rattle.std.proofs.Common.{refl}
use Rattle.gw_rules.specs.Hides.{hides}
use Rattle.gw_rules.specs.Rule.{matches}
use Rattle.gw_rules.specs.RuleList.{first, allows}
use Rattle.gw_objects.specs.Table.{read_of}
use Rattle.gw_objects.specs.Write.{write_of}
use Rattle.gw_codecs.specs.services.MultiReading.{references_at}
use Rattle.gw_codecs.specs.tags.Walk.{closing_at}
use Rattle.gw_core.specs.Asks.{asks}
use Rattle.gw_core.specs.Denials.{denials_at}
use Rattle.gw_relay.specs.Manage.{onward_sends}
use Rattle.gw_relay.specs.Cast.{cast_asks, cast_sends, spread}
use Rattle.gw_relay.specs.Link.{link_answer, link_change}
use Rattle.gw_relay.specs.State.{moved_by}
use Rattle.gw_core.specs.Effects.{change_at, move_at, sends, effects_at, passes_end}
use Rattle.gw_core.specs.History.{acts_of, run_after, written}
use Rattle.gw_core.specs.Receive.{npdu_of, receive}
use Rattle.gw_core_laws.specs.Examples.{ReadIsAnswered, HiddenReadIsDenied, LocalReadIsUnheard, HiddenObjectIsUnnamed, UnknownObjectIsNamed, EachCutIsDropped, WrongLengthsAreDropped, RoutedReadIsAnswered, CountsEnd, DenialsAreCountedOn, WriteIsSeen, RelinquishIsSeen, DeniedWriteIsUnseen, AllArePlaced, DeniedSetIsRefused, DeniedTableIsRefused, WhoIsIsAnswered, RegistrationEnds, BroadcastIsDistributed, LearnedRouteIsTaken, UnknownNetworkIsSought, GlobalWhoIsGoesOn, HiddenWriteIsUnseen, HidingIsSeen}

-- all that a frame runs through
unfoldable frames : ⊤
unfolding npdu_of receive
frames = tt

-- all that a request runs through
unfoldable reads : ⊤
unfolding read_of write_of references_at closing_at
reads = tt

-- all that an event runs through
unfoldable steps : ⊤
unfolding matches first allows asks denials_at sends change_at move_at effects_at passes_end acts_of written moved_by run_after
steps = tt

-- all that is passed on runs through
unfoldable passes : ⊤
unfolding cast_asks cast_sends spread link_answer link_change onward_sends
passes = tt

pub read_is_answered : ReadIsAnswered
unfolding frames reads passes steps
read_is_answered = refl

pub hidden_read_is_denied : HiddenReadIsDenied
unfolding frames reads passes steps
hidden_read_is_denied = refl

pub local_read_is_unheard : LocalReadIsUnheard
unfolding frames reads passes steps
local_read_is_unheard = refl

pub hidden_object_is_unnamed : HiddenObjectIsUnnamed
unfolding frames reads passes steps
hidden_object_is_unnamed = refl

pub unknown_object_is_named : UnknownObjectIsNamed
unfolding frames reads passes steps
unknown_object_is_named = refl

pub each_cut_is_dropped : EachCutIsDropped
unfolding frames reads passes steps
each_cut_is_dropped = refl

pub wrong_lengths_are_dropped : WrongLengthsAreDropped
unfolding frames reads passes steps
wrong_lengths_are_dropped = (refl, refl)

pub routed_read_is_answered : RoutedReadIsAnswered
unfolding frames reads passes steps
routed_read_is_answered = refl

pub counts_end : CountsEnd
unfolding frames reads passes steps
counts_end = (refl, refl, refl)

pub denials_are_counted_on : DenialsAreCountedOn
unfolding frames reads passes steps
denials_are_counted_on = refl

pub write_is_seen : WriteIsSeen
unfolding frames reads passes steps
write_is_seen = refl

pub relinquish_is_seen : RelinquishIsSeen
unfolding frames reads passes steps
relinquish_is_seen = refl

pub denied_write_is_unseen : DeniedWriteIsUnseen
unfolding frames reads passes steps
denied_write_is_unseen = refl

pub all_are_placed : AllArePlaced
unfolding frames reads passes steps
all_are_placed = refl

pub denied_set_is_refused : DeniedSetIsRefused
unfolding frames reads passes steps
denied_set_is_refused = refl

pub denied_table_is_refused : DeniedTableIsRefused
unfolding frames reads passes steps
denied_table_is_refused = refl

pub who_is_is_answered : WhoIsIsAnswered
unfolding frames reads passes steps
who_is_is_answered = refl

pub registration_ends : RegistrationEnds
unfolding frames reads passes steps
registration_ends = (refl, refl, refl)

pub broadcast_is_distributed : BroadcastIsDistributed
unfolding frames reads passes steps
broadcast_is_distributed = refl

pub learned_route_is_taken : LearnedRouteIsTaken
unfolding frames reads passes steps
learned_route_is_taken = refl

pub unknown_network_is_sought : UnknownNetworkIsSought
unfolding frames reads passes steps
unknown_network_is_sought = refl

pub global_who_is_goes_on : GlobalWhoIsGoesOn
unfolding frames reads passes steps
global_who_is_goes_on = refl

pub hidden_write_is_unseen : HiddenWriteIsUnseen
unfolding frames reads passes steps
hidden_write_is_unseen = ((refl, tt), refl, refl)

pub hiding_is_seen : HidingIsSeen
unfolding hides
hiding_is_seen = (refl, refl, refl, refl, refl, refl, refl, refl)
