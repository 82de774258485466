use Rattle.std.proofs.Common.{sym, subst}
use Rattle.std.specs.Str.{IsUtf8}
use Rattle.gw_state_text.proofs.WordLemmas.{mask_utf8}
use Rattle.gw_state_text.proofs.words.mask_in.Goals as goal

pub returns-in_default-clause-only : goal.returns-in_default-clause-only
returns-in_default-clause-only c = λ m is e. absurd (c.in_default.ensures.cases.0 (subst IsUtf8 (sym e) (mask_utf8 m is)))
