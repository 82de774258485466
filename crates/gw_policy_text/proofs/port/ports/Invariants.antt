use Rattle.std.proofs.Common.{◌≡◌, length, true}
use Rattle.std.specs.List.{list_all}
use Rattle.gw_configuration.specs.Configuration.{is_managed}
use Rattle.gw_policy_text.specs.Parts.{is_plain_in, port_in}
use Rattle.gw_policy_text.proofs.EachAt.{IsReadAt}
use Rattle.gw_policy_text.proofs.port.ports.Given as goal

abbrev pub invariant-loop-place : goal.invariant-loop-place
invariant-loop-place l = record { read : IsReadAt (port_in l.format) l.values l.place l.all; count : length l.all ≡ l.place; managed : list_all is_managed l.all ≡ true; plain : list_all (is_plain_in l.format) l.all ≡ true }
