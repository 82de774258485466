use Rattle.std.proofs.Common.{ap}
use Rattle.std.specs.List.{flat_map}
use Rattle.gw_state_text.specs.Text.{counts_line, object_text, port_text, route_line}
use Rattle.gw_state_text.proofs.PutLemmas.{before, grown_as, last}
use Rattle.gw_state_text.proofs.writing.put_text.Goals as goal

pub returns : goal.returns
returns c =
    before _ _ _ _ _ _ c.in_ok-put_slice.ensures.ok
    (before _ _ _ _ _ _ (grown_as _ _ _ _ (ap counts_line c.counts.ensures.counts) c.in_ok-put_counts.ensures.ok)
    (before _ _ _ _ _ _ (grown_as _ _ _ _ (ap (flat_map port_text) c.ports.ensures.ports) c.in_ok-put_all.ensures.ok)
    (before _ _ _ _ _ _ (grown_as _ _ _ _ (ap (flat_map route_line) c.routes.ensures.routes) c.in_ok-put_all-2.ensures.ok)
    (before _ _ _ _ _ _ (grown_as _ _ _ _ (ap (flat_map object_text) c.objects.ensures.objects) c.in_ok-put_all-3.ensures.ok)
    (last c.put_slice-2.ensures)))))
