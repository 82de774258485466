use Rattle.gw_log_words.proofs.NotedLemmas.{keeps_along}
use Rattle.gw_log_words.proofs.noted.Noted.note.Goals as goal

pub returns-clause-keeps : goal.returns-clause-keeps
returns-clause-keeps g c =
    keeps_along _ _ _ (keeps_along _ _ _ (keeps_along _ _ _ (keeps_along _ _ _ c.in_ok-begin_line.ensures.keeps c.in_ok-begin_note.ensures.keeps)
    c.in_ok-write_words.ensures.keeps) c.in_ok-write_words-2.ensures.keeps) c.end_note.ensures.keeps
