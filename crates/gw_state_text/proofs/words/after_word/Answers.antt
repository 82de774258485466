use Rattle.std.proofs.lemmas.Bool.Decides.{Decides-eqb}
use Rattle.std.proofs.lemmas.Slice.Eq.{strip_prefix_is}
use Rattle.gw_state_text.proofs.WordLemmas.{found_after, only_after}
use Rattle.gw_state_text.proofs.words.after_word.Goals as goal

pub returns-clause-found : goal.returns-clause-found
returns-clause-found c =
    let word = c.args.word.now in
    let text = c.args.text.now in
    found_after word text c.strip_prefix.result (strip_prefix_is Decides-eqb text word c.strip_prefix.result c.strip_prefix.ensures.cases)

pub returns-clause-only : goal.returns-clause-only
returns-clause-only c =
    let word = c.args.word.now in
    let text = c.args.text.now in
    only_after word text c.strip_prefix.result (strip_prefix_is Decides-eqb text word c.strip_prefix.result c.strip_prefix.ensures.cases)
