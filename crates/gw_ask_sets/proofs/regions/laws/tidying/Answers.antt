use Rattle.gw_ask_sets.proofs.regions_lemmas.OneTidyLaw.{tidy_is_one}
use Rattle.gw_ask_sets.proofs.regions_lemmas.TidyLaw.{tidied_matches_the_same, tidy_has_the_same, tidy_is_tidy}
use Rattle.gw_ask_sets.proofs.regions.laws.tidying.Goals as goal

pub returns : goal.returns
returns c = record { numbers = tidy_has_the_same; order = tidy_is_tidy; one = tidy_is_one; matching = tidied_matches_the_same }
