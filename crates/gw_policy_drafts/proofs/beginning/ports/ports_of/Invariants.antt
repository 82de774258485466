use Rattle.std.proofs.Common.{◌≡◌, ◌+◌, ◌++◌, drop}
use Rattle.gw_policy_drafts.specs.beginning.Ports.{ports_from, ports_of}
use Rattle.gw_policy_drafts.specs.beginning.Site.{site_of}
use Rattle.gw_policy_drafts.proofs.beginning.ports.ports_of.Given as goal

abbrev pub invariant-loop-place : goal.invariant-loop-place
invariant-loop-place l = l.ports.items ++ ports_from (site_of l.site) (l.place + 1) (drop l.place l.site.ports.items) ≡ ports_of (site_of l.site)
