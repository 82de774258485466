-- What is said of words that ask no question.
use Rattle.std.specs.Prelude.{ℕ, List, ◌++◌, codes}
use Rattle.gw_verdicts.specs.declared.questions.fault.PlaceFault.{PlaceFault}
use Rattle.gw_verdicts.specs.declared.questions.fault.PlaceFault.TheVariants as fault
use Rattle.gw_verdicts.specs.declared.questions.fault.Unasked.{Unasked}
use Rattle.gw_verdicts.specs.declared.questions.fault.Unasked.TheVariants as unasked

abbrev pub place_words : PlaceFault → List ℕ
place_words fault.Text = codes "no station is written so"
place_words fault.NoPort = codes "no port has it among its stations: write NETWORK:ADDRESS"
place_words fault.SeveralPorts = codes "several ports have it among their stations: write NETWORK:ADDRESS"
place_words fault.NoWay = codes "no port and no route leads to its network"
place_words fault.NoAddress = codes "a station of that network has an address"
place_words fault.Nobody = codes "nobody is named: write a station or device"
place_words fault.NoNetwork = codes "a Who-Is goes to a network: write its number"

abbrev pub unasked_text : Unasked → List ℕ
unasked_text (unasked.From f) = codes "--from: " ++ place_words f ++ codes "\n"
unasked_text (unasked.To f) = codes "--to: " ++ place_words f ++ codes "\n"
unasked_text unasked.Read = codes "--read takes TYPE,INSTANCE or TYPE,INSTANCE,PROPERTY\n"
unasked_text unasked.Write =
    codes "--write takes TYPE,INSTANCE or TYPE,INSTANCE,PROPERTY, and --priority a number from 1 to 16\n"
unasked_text unasked.Service = codes "--service takes a confirmed request, as SubscribeCOV\n"
unasked_text unasked.OfDevice = codes "--service asks another station: of the gateway's own device ask by --read or --write\n"
unasked_text unasked.OnePort = codes "--from and --to lie by one port: what they send each other doesn't pass the gateway\n"
unasked_text unasked.Routed = codes "--from: a foreign device has an address: none behind a router registers\n"
unasked_text unasked.Registrar = codes "--register takes no --to: the port of --from registers\n"
