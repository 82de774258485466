use Rattle.gw_log_words.proofs.NotedLemmas.{words_keep}
use Rattle.gw_log_words.proofs.noted.Noted.write_words.Goals as goal

pub returns-clause-keeps : goal.returns-clause-keeps
returns-clause-keeps g c =
    words_keep (g.S.OctetSink.held c.args.self.now.sink) (g.S.OctetSink.held c.write_whole.new.sink) c.args.self.now.place c.args.words.now
    c.write_whole.result c.requires.within c.requires.lacks c.write_whole.ensures.ok c.write_whole.ensures.front
