use Rattle.std.proofs.Common.{◌∙◌, ◌++◌, ℕ, List, ap}
use Rattle.gw_frames.specs.npdu.Npdu as npdus
use Rattle.gw_frames.specs.npdu.Reading.{npdu_at}
use Rattle.gw_verdicts.proofs.questions.datagram.carried.Goals as goal

pub returns-in-Ok-clause-read : goal.returns-in-Ok-clause-read
returns-in-Ok-clause-read c =
    let message = npdus.view c.args.message.now in
    ap npdu_at (c.in-Ok.ensures.ok ∙ ap (λ (t : List ℕ). t ++ npdus.encoding message) c.new-octets.ensures.items)
    ∙ c.read_again.ensures message c.encode.ensures.valid
