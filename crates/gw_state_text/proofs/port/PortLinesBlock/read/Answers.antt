use Rattle.gw_state_text.proofs.PortLemmas.{in_devices, in_entries, in_peers, port_read}
use Rattle.std.proofs.Common.{sym}
use Rattle.gw_state_text.proofs.BlockLemmas.{stop_is}
use Rattle.gw_state_text.proofs.OnceLemmas.{devices_once, entries_once}
use Rattle.gw_state_text.proofs.StepLemmas.{devices_fail, entries_fail, peers_fail, port_read_so, port_twice}
use Rattle.gw_state_text.proofs.port.PortLinesBlock.read.Goals as goal

pub returns-in-Err-clause-stop : goal.returns-in-Err-clause-stop
returns-in-Err-clause-stop c = in_peers c.args.text.now c.in-Some.read.2.now c.in-Some.read.0 c.in-Some.read.1 c.in-Err.stop.left c.in-Some.ensures.found c.in-Err.ensures.stop

pub returns-in-Err-read_all-clause-stop : goal.returns-in-Err-read_all-clause-stop
returns-in-Err-read_all-clause-stop c =
    in_entries c.args.text.now c.in-Some.read.2.now c.in-Ok.read.1.now c.in-Some.read.0 c.in-Some.read.1 c.in-Ok.read.0.items
    c.in-Err-read_all.stop.left c.in-Some.ensures.found c.in-Ok.ensures.found c.in-Err-read_all.ensures.stop

pub returns-in-Err-read_all-2-clause-stop : goal.returns-in-Err-read_all-2-clause-stop
returns-in-Err-read_all-2-clause-stop c =
    in_devices c.args.text.now c.in-Some.read.2.now c.in-Ok.read.1.now c.in-Ok-read_all.read.1.now c.in-Some.read.0 c.in-Some.read.1
    c.in-Ok.read.0.items c.in-Ok-read_all.read.0.items c.in-Err-read_all-2.stop.left c.in-Some.ensures.found c.in-Ok.ensures.found
    c.in-Ok-read_all.ensures.found c.in-Err-read_all-2.ensures.stop

pub returns-in-Ok-tables_of-clause-found : goal.returns-in-Ok-tables_of-clause-found
returns-in-Ok-tables_of-clause-found c =
    port_read c.args.text.now c.in-Some.read.2.now c.in-Ok.read.1.now c.in-Ok-read_all.read.1.now c.in-Ok-read_all-2.read.1.now c.in-Some.read.0 c.in-Some.read.1
    c.in-Ok.read.0.items c.in-Ok-read_all.read.0.items c.in-Ok-read_all-2.read.0.items c.in-Ok-tables_of.peers c.in-Ok-tables_of.entries c.in-Ok-tables_of.devices c.in-Some.ensures.found c.in-Ok.ensures.found
    c.in-Ok-read_all.ensures.found c.in-Ok-read_all-2.ensures.found c.in-Ok-tables_of.ensures.0 c.in-Ok-tables_of.ensures.1 c.in-Ok-tables_of.ensures.2

pub returns-then-has_port-clause-exact : goal.returns-then-has_port-clause-exact
returns-then-has_port-clause-exact c = λ other.
    stop_is _ _ _ (port_twice c.args.before.now c.args.text.now c.in-Some.read.0 c.in-Some.read.1 c.in-Some.read.2.now c.in-Some.ensures.exact
    (sym c.if-has_port.ensures)) c.at-then-has_port.ensures.is

pub returns-in-Err-clause-exact : goal.returns-in-Err-clause-exact
returns-in-Err-clause-exact c = λ other.
    peers_fail c.args.before.now c.args.text.now c.in-Some.read.0 c.in-Some.read.1 c.in-Some.read.2.now c.in-Err.stop c.in-Some.ensures.exact
    (sym c.if-has_port.ensures) (c.in-Err.ensures.exact other)

pub returns-in-Err-read_all-clause-exact : goal.returns-in-Err-read_all-clause-exact
returns-in-Err-read_all-clause-exact c = λ other.
    entries_fail c.args.before.now c.args.text.now c.in-Some.read.0 c.in-Some.read.1 c.in-Some.read.2.now c.in-Ok.read.1.now c.in-Ok.read.0.items
    c.in-Err-read_all.stop c.in-Some.ensures.exact (sym c.if-has_port.ensures) c.in-Ok.ensures.exact (c.in-Err-read_all.ensures.exact other)

pub returns-in-Err-read_all-2-clause-exact : goal.returns-in-Err-read_all-2-clause-exact
returns-in-Err-read_all-2-clause-exact c = λ other.
    devices_fail c.args.before.now c.args.text.now c.in-Some.read.0 c.in-Some.read.1 c.in-Some.read.2.now c.in-Ok.read.1.now
    c.in-Ok-read_all.read.1.now c.in-Ok.read.0.items c.in-Ok-read_all.read.0.items c.in-Err-read_all-2.stop c.in-Some.ensures.exact
    (sym c.if-has_port.ensures) c.in-Ok.ensures.exact c.in-Ok-read_all.ensures.exact (c.in-Err-read_all-2.ensures.exact other)

pub returns-in-Ok-tables_of-clause-exact : goal.returns-in-Ok-tables_of-clause-exact
returns-in-Ok-tables_of-clause-exact c =
    port_read_so c.args.before.now c.args.text.now c.in-Some.read.0 c.in-Some.read.1 c.in-Some.read.2.now c.in-Ok.read.1.now
    c.in-Ok-read_all.read.1.now c.in-Ok-read_all-2.read.1.now c.in-Ok.read.0.items c.in-Ok-read_all.read.0.items
    c.in-Ok-read_all-2.read.0.items c.in-Ok-tables_of.peers c.in-Ok-tables_of.entries c.in-Ok-tables_of.devices c.in-Some.ensures.exact
    (sym c.if-has_port.ensures) c.in-Ok.ensures.exact c.in-Ok-read_all.ensures.exact c.in-Ok-read_all-2.ensures.exact
    c.in-Ok-tables_of.ensures.0 c.in-Ok-tables_of.ensures.1 c.in-Ok-tables_of.ensures.2

pub tables_of-requires-clause-peers : goal.tables_of-requires-clause-peers
tables_of-requires-clause-peers c = c.in-Ok.ensures.fits.few

pub tables_of-requires-clause-entries : goal.tables_of-requires-clause-entries
tables_of-requires-clause-entries c = entries_once c.in-Ok-read_all.read.0.items c.in-Ok-read_all.ensures.fits

pub tables_of-requires-clause-devices : goal.tables_of-requires-clause-devices
tables_of-requires-clause-devices c = devices_once c.in-Ok-read_all-2.read.0.items c.in-Ok-read_all-2.ensures.fits
