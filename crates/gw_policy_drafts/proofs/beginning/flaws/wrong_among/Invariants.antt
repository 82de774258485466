use Rattle.std.proofs.Common.{◌≡◌, [], take, drop}
use Rattle.gw_policy_drafts.specs.beginning.Flaws.{wrong_from}
use Rattle.gw_policy_drafts.specs.beginning.Site.{site_of}
use Rattle.gw_policy_drafts.proofs.beginning.flaws.wrong_among.Given as goal

abbrev pub invariant-loop-place : goal.invariant-loop-place
invariant-loop-place l = wrong_from (site_of l.site) l.option (take l.place l.parts) (drop l.place l.parts) ≡ wrong_from (site_of l.site) l.option [] l.parts
