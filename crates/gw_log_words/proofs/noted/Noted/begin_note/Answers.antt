use Rattle.std.proofs.Common.{◌∙◌, [], ◌∷◌, ap}
use Rattle.gw_log_words.specs.Noted.{place_at, without_notes}
use Rattle.gw_log_words.specs.declared.noted.Place.{Place}
use Rattle.gw_log_words.specs.declared.noted.Place.TheVariants.{Note}
use Rattle.gw_log_words.proofs.NotedLemmas.{octet_keeps, sign_gone, sign_leads}
use Rattle.gw_log_words.proofs.noted.Noted.begin_note.Goals as goal

pub returns-clause-keeps : goal.returns-clause-keeps
returns-clause-keeps g c =
    octet_keeps _ _ c.args.self.now.place c.write_octet.new.self.place Note 35 c.write_octet.result c.write_octet.ensures.ok
    c.write_octet.ensures.err c.write_octet.ensures.place c.write_octet.ensures.still
    (ap (λ (s : Place). place_at s (35 ∷ [])) c.requires ∙ sign_leads) (ap (λ (s : Place). without_notes s (35 ∷ [])) c.requires ∙ sign_gone)
