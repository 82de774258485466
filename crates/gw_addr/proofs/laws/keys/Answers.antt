use Rattle.gw_addr.proofs.Keys.{key_of_station, station_of_key}
use Rattle.gw_addr.proofs.Keys.{keys_of_six, keys_of_six_below, keys_of_others}
use Rattle.gw_addr.proofs.laws.keys.Goals as goal

pub returns-clause-station : goal.returns-clause-station
returns-clause-station c = λ octets key fits lt. (station_of_key octets key fits, key_of_station octets key lt)

pub returns-clause-six : goal.returns-clause-six
returns-clause-six c = keys_of_six

pub returns-clause-below : goal.returns-clause-below
returns-clause-below c = keys_of_six_below

pub returns-clause-others : goal.returns-clause-others
returns-clause-others c = keys_of_others
