use Rattle.gw_json.proofs.Entries.{entry_shown, no_fields}
use Rattle.gw_json.proofs.log.denial_in.Goals as goal

pub returns-in-Some : goal.returns-in-Some
returns-in-Some c =
    entry_shown c.fronted.result c.args.front.now c.args.fields.now c.in-Some.shown c.in-Some.ensures.found c.in-Some.ensures.is c.fronted.ensures

pub returns-in-None : goal.returns-in-None
returns-in-None c = no_fields c.args.fields.now c.requires c.in-None.ensures.only
