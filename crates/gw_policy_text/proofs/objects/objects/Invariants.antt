use Rattle.std.proofs.Common.{◌≡◌, length, true}
use Rattle.std.specs.List.{list_all}
use Rattle.gw_configuration.specs.Configuration.{is_named}
use Rattle.gw_policy_text.specs.Parts.{object_in}
use Rattle.gw_policy_text.proofs.EachAt.{IsReadAt}
use Rattle.gw_policy_text.proofs.objects.objects.Given as goal

abbrev pub invariant-loop-place : goal.invariant-loop-place
invariant-loop-place l = record { read : IsReadAt object_in l.values l.place l.all; count : length l.all ≡ l.place; named : list_all (λ o. is_named o.name) l.all ≡ true }
