use Rattle.std.proofs.Common.{◌≡◌, ◌∙◌, ℕ, List, Ok, ap, sym}
use Rattle.gw_frames.specs.bvll.Bvll.{original_unicast}
use Rattle.gw_frames.specs.npdu.Npdu as npdus
use Rattle.gw_frames.specs.npdu.Reading.{npdu_at}
use Rattle.gw_verdicts.proofs.questions.datagram.datagram_of.Goals as goal

pub returns-clause-read : goal.returns-clause-read
returns-clause-read c =
    let message = npdus.view c.args.message.now in
    let written : c.deref.result.now ≡ npdus.encoding message = c.deref.ensures.value ∙ c.in_ok-octets.ensures.octets in
    record {
      carried = npdus.encoding message;
      framed = c.in_ok-datagram.ensures.read ∙ ap (λ (t : List ℕ). Ok (original_unicast t)) written;
      says = ap npdu_at (sym c.in_ok-octets.ensures.octets) ∙ c.in_ok-octets.ensures.read;
    }
