use Rattle.gw_addr.proofs.Addresses.{same_octets, same_keys, keys_below, same_texts}
use Rattle.gw_addr.proofs.laws.one_to_one.Goals as goal

pub returns-clause-octets : goal.returns-clause-octets
returns-clause-octets c = same_octets

pub returns-clause-keys : goal.returns-clause-keys
returns-clause-keys c = same_keys

pub returns-clause-below : goal.returns-clause-below
returns-clause-below c = keys_below

pub returns-clause-texts : goal.returns-clause-texts
returns-clause-texts c = same_texts
