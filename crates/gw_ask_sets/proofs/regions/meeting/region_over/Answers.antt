use Rattle.gw_ask_sets.proofs.regions_lemmas.MeetingLaw.{reaches}
use Rattle.gw_ask_sets.proofs.regions.meeting.region_over.Goals as goal

pub returns : goal.returns
returns c ask there =
    reaches c.args.shapes.now c.in_ok-region.region c.last_number-last.result ask c.in_ok-region.ensures c.last_number-last.ensures there
