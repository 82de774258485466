-- Each write that an event is granted puts a value in the range of its object.
use Rattle.std.proofs.Common.{◌≡◌, ℕ, List, Option, Some, None}
use Rattle.gw_objects.specs.Objects.{Database}
use Rattle.gw_objects.specs.Write.{Write}
use Rattle.gw_rules.specs.declared.format.Format.{Format}
use Rattle.gw_rules.specs.declared.rule.Rule.{Rule}
use Rattle.gw_script.specs.Event.{Event}
use Rattle.gw_codecs.specs.services.Limits.{priority_of}
use Rattle.gw_device.specs.declared.context.Context.{Context}
use Rattle.gw_device.proofs.Writes.{changes_are_asked}
use Rattle.gw_core.specs.Effects.{apdu_change, change_at, change_for}
use Rattle.gw_core.specs.Receive.{Received, barred, dropped, managed, message, receive, unregistered}
use Rattle.gw_core.specs.Reply.{apdu_for, context_of}
use Rattle.gw_core.specs.State.{State, device_network}
use Rattle.gw_state_laws.proofs.continuity_lemmas.Ranges.{WriteFits, write_fits}

apdu_fits : (rules : List Rule) (d : Database) (context : Context) (apdu : Option (List ℕ)) (write : Write)
    → apdu_change rules d context apdu ≡ Some write → WriteFits d.configured.objects write
apdu_fits rules d context None write e = absurd cc
apdu_fits rules d context (Some octets) write e =
    let asked = changes_are_asked rules d context octets write e in
    let request = asked.request in
    write_fits d.configured request.object request.property request.index (priority_of request.priority) request.value write asked.is

change_fits : (rules : List Rule) (format : Format) (d : Database) (received : Received) (write : Write)
    → change_for rules format d received ≡ Some write → WriteFits d.configured.objects write
change_fits rules format d dropped write e = absurd cc
change_fits rules format d (managed on from frame) write e = absurd cc
change_fits rules format d (unregistered m) write e = absurd cc
change_fits rules format d (barred m) write e = absurd cc
change_fits rules format d (message m) write e =
    apdu_fits rules d (context_of format (device_network d) m) (apdu_for (device_network d) m.npdu) write e

-- a write that an event is granted fits its object
pub granted_fits : (w : State) (e : Event) (write : Write) → change_at w e ≡ Some write → WriteFits w.device.configured.objects write
unfolding change_at
granted_fits w e write is = change_fits w.rules w.relay.format w.device (receive w e) write is
