use Rattle.std.proofs.Common.{ap}
use Rattle.std.specs.List.{flat_map}
use Rattle.gw_state_text.specs.Text.{device_line, entry_line, entry_word, peer_word}
use Rattle.gw_state_text.proofs.PutLemmas.{before, grown_as, named}
use Rattle.gw_state_text.proofs.port.PortLinesItemLines.put.Goals as goal

pub returns : goal.returns
returns c =
    before _ _ _ _ _ _ c.in_ok-put_port.ensures.ok
    (before _ _ _ _ _ _ (grown_as _ _ _ _ (ap (flat_map (entry_line peer_word)) c.as_slice.ensures.peers) c.in_ok-put_all.ensures.ok)
    (before _ _ _ _ _ _ (grown_as _ _ _ _ (ap (flat_map (entry_line entry_word)) c.entries.ensures.entries) c.in_ok-put_all-2.ensures.ok)
    (named (ap (flat_map device_line) c.as_slice-2.ensures.devices) c.put_all-3.ensures)))
