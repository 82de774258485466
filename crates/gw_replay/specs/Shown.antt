-- The text of a run: for each event its denials and its sends, a line each, and then `end`.
use Rattle.std.specs.Prelude.{ℕ, List, ◌++◌, codes}
use Rattle.std.specs.List.{flat_map}
use Rattle.gw_audit.specs.declared.denial.Denial.{Denial}
use Rattle.gw_audit.specs.Line.{line_text}
use Rattle.gw_script.specs.Text.{end_line, send_line}
use Rattle.gw_relay.specs.Announcement.{announcements}
use Rattle.gw_relay.specs.Sends.{Batch, Sending}
use Rattle.gw_script.specs.Event.{Event}
use Rattle.gw_core.specs.declared.effects.Effects.{Effects}
use Rattle.gw_core.specs.Effects.{effects_at}
use Rattle.gw_core.specs.State.{State}

-- the line of one denial: `deny ` and its line in the log
abbrev pub denial_line : Denial → List ℕ
denial_line d = codes "deny " ++ line_text d

-- a line for each denial
abbrev pub denials_text : List Denial → List ℕ
denials_text denials = flat_map denial_line denials

-- the line of one datagram that is sent
abbrev pub sending_line : Sending → List ℕ
sending_line s = send_line s.port s.to s.octets

-- a line for each address that a message goes to
abbrev pub batch_text : Batch → List ℕ
batch_text batch = flat_map (λ to. send_line batch.port to batch.octets) batch.targets

-- a line for each datagram that is sent
abbrev pub sends_text : List Sending → List ℕ
sends_text sends = flat_map sending_line sends

-- the lines of what one event does
abbrev pub effects_text : Effects → List ℕ
effects_text e = denials_text e.denials ++ sends_text e.sends ++ end_line

-- the lines of what an event does in this state
abbrev pub event_text : State → Event → List ℕ
event_text w e = effects_text (effects_at w e)

-- the lines of what each event of a run does
abbrev pub text_of_run : List Effects → List ℕ
text_of_run run = flat_map effects_text run

-- the lines of what a gateway in this state announces: a line for each datagram, and `end`
abbrev pub announced_text : State → List ℕ
announced_text w = sends_text (announcements w.relay) ++ end_line
