-- strangers
use Rattle.gw_verdicts.proofs.StrangerLaw.{claims_are_asked, every_stranger_enters, no_stranger_enters, nobody_claims, strangers_are_asked}
use Rattle.gw_verdicts.proofs.laws.strangers.Goals as goal

pub returns : goal.returns
returns c = record {
  asked = strangers_are_asked;
  none = no_stranger_enters;
  every = every_stranger_enters;
  claimed = claims_are_asked;
  nobody = nobody_claims;
}
