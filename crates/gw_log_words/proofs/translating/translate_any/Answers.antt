use Rattle.gw_log_words.proofs.LawLemmas.{ok_then, told_behind, told_whole}
use Rattle.gw_log_words.proofs.translating.translate_any.Goals as goal

pub returns-in-Some : goal.returns-in-Some
returns-in-Some c =
    ok_then c.translate_from.result c.translate_from.ensures
    (λ made. told_behind c.args.start c.args.line.now c.in-Some.at _ _ c.in-Some.ensures.fields c.in-Some.ensures.within made)

pub returns-in-None : goal.returns-in-None
returns-in-None c = ok_then c.pass_on.result c.pass_on.ensures (λ made. told_whole c.args.start c.args.line.now _ _ c.in-None.ensures.fields made)
