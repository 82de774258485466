use Rattle.std.proofs.Common.{ap, ◌∙◌}
use Rattle.gw_policy_text.proofs.keys_lemmas.Values.{keys_view, stranger_of}
use Rattle.gw_policy_text.proofs.keys.field.stranger.Goals as goal

pub loop-key-init : goal.loop-key-init
loop-key-init c =
    ap (stranger_of c.args.fields.now) (c.into_iter-key-iterator.ensures.into_iter_gives ∙ c.keys-key-items.ensures.rest) ∙ keys_view c.args.fields.now c.args.table.now.entries
