use Rattle.std.proofs.Common.{◌≡◌, length, true}
use Rattle.std.specs.List.{list_all}
use Rattle.gw_configuration.specs.Configuration.{is_by}
use Rattle.gw_policy_text.specs.Parts.{route_in}
use Rattle.gw_policy_text.proofs.EachAt.{IsReadAt}
use Rattle.gw_policy_text.proofs.route.routes.Given as goal

abbrev pub invariant-loop-place : goal.invariant-loop-place
invariant-loop-place l = record { read : IsReadAt (route_in l.ports) l.values l.place l.all; count : length l.all ≡ l.place; exist : list_all (is_by l.ports) l.all ≡ true }
