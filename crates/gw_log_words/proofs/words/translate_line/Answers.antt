use Rattle.gw_log_words.proofs.MomentLemmas.{tells_shown}
use Rattle.gw_log_words.proofs.words.translate_line.Goals as goal

pub returns-in_ok-put_front-in-Some : goal.returns-in_ok-put_front-in-Some
returns-in_ok-put_front-in-Some c =
    tells_shown c.put_words_line.result c.args.start c.args.is_allowed c.args.line.now c.in-Some.shown c.moment_of.result _ _ _ c.in-Some.ensures.found c.in-Some.ensures.is
    c.moment_of.ensures c.clear.ensures.items c.in_ok-put_front-in-Some.ensures c.put_words_line.ensures.ok
