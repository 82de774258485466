use Rattle.std.proofs.Common.{◌≡◌, length, map, true}
use Rattle.std.specs.List.{list_all}
use Rattle.toml.specs.View.{view}
use Rattle.gw_configuration.specs.Configuration.{is_assertable}
use Rattle.gw_policy_text.specs.Policy.{assertion_in}
use Rattle.gw_policy_text.proofs.EachAt.{IsReadAt}
use Rattle.gw_policy_text.proofs.assertions.assertions.Given as goal

abbrev pub invariant-loop-place : goal.invariant-loop-place
invariant-loop-place l = record {
  read : IsReadAt (assertion_in (map view l.sets)) l.values l.place l.all;
  count : length l.all ≡ l.place;
  each : list_all is_assertable l.all ≡ true;
}
