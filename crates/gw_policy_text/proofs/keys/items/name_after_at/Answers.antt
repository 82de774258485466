use Rattle.std.proofs.Common.{arith}
use Rattle.std.proofs.lemmas.Str.Pattern.{strip_prefix_char}
use Rattle.gw_policy_text.proofs.keys_lemmas.Named.{name_after_from}
use Rattle.gw_policy_text.proofs.keys.items.name_after_at.Goals as goal

pub returns : goal.returns
returns c =
    name_after_from c.args.text.now c.strip_prefix.result (strip_prefix_char 64 c.args.text.now c.strip_prefix.result c.strip_prefix.ensures.cases (omega arith))
