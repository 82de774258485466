use Rattle.std.proofs.Common.{◌≡◌}
use Rattle.toml.specs.View.{table_view}
use Rattle.gw_policy_text.specs.keys.Field.{stranger}
use Rattle.gw_policy_text.proofs.keys_lemmas.Values.{stranger_of}
use Rattle.gw_policy_text.proofs.keys.field.stranger.Given as goal

abbrev pub invariant-loop-key : goal.invariant-loop-key
invariant-loop-key l = stranger_of l.fields l.key-iterator ≡ stranger l.fields (table_view l.table)
