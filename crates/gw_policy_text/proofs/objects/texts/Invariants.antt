use Rattle.std.proofs.Common.{◌≡◌, length}
use Rattle.gw_policy_text.specs.keys.Value.{text_in}
use Rattle.gw_policy_text.proofs.Each.{IsReadTo}
use Rattle.gw_policy_text.proofs.objects.texts.Given as goal

abbrev pub invariant-loop-value : goal.invariant-loop-value
invariant-loop-value l = record { read : IsReadTo (text_in 0) l.values l.value-index l.all; count : length l.all ≡ l.value-index }
