-- What is said of no asks.
use Rattle.std.specs.Prelude.{◌≡◌, [], Bool, Option, Some, None, refl}
use Rattle.gw_rules.specs.declared.verdict.Verdict.{Verdict}
use Rattle.gw_core.specs.Asked.{asked_of}
use Rattle.gw_core.specs.Seen.{seen_of}
use Rattle.gw_core.specs.Receive.{Origin}

-- nothing is seen of no ask, whoever it is of
pub nothing_from : (keeps : Verdict → Bool) (from : Option Origin)
    → seen_of keeps (asked_of from []) ≡ seen_of keeps (asked_of None [])
nothing_from keeps None = refl
nothing_from keeps (Some from) = refl

-- no ask is of nobody
pub none_from : (from : Option Origin) → asked_of from [] ≡ asked_of None []
none_from None = refl
none_from (Some from) = refl
