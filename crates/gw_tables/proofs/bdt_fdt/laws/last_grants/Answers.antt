use Rattle.gw_tables.proofs.bdt_fdt_lemmas.Words.{same_is_equal, last_grant_found}
use Rattle.gw_tables.proofs.bdt_fdt.laws.last_grants.Goals as goal

pub returns : goal.returns
returns c = record { same = same_is_equal; last = last_grant_found }
