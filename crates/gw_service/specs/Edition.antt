-- A configuration, with the checksum of its text.
use Rattle.std.specs.Prelude.{◌≡◌, ℕ, List, Ok}
use Rattle.gw_policy_text.specs.Document.{configuration}
use Rattle.gw_notices.specs.Checksum.{checksum_of}
use Rattle.gw_service.specs.declared.edition.Edition.{Edition}

-- both are those of this text
pub record IsEdition (text : List ℕ) (e : Edition) : Type 0 where
  pub config : configuration text ≡ Ok e.config
  pub checksum : e.checksum ≡ checksum_of text
