use Rattle.gw_json.proofs.Entries.{entry_made, other_made, own_fields}
use Rattle.gw_json.proofs.log.entry.Goals as goal

pub entry_from-requires-clause-fields : goal.entry_from-requires-clause-fields
entry_from-requires-clause-fields c = own_fields c.args.line.now c.in-Some.at c.in-Some.ensures.fields

pub returns-in-Some : goal.returns-in-Some
returns-in-Some c =
    entry_made c.entry_from.result c.args.line.now c.in-Some.at _ c.in-Some.ensures.fields c.in-Some.ensures.within c.entry_from.ensures

pub returns-in-None : goal.returns-in-None
returns-in-None c = other_made c.other.result c.args.line.now _ c.in-None.ensures.fields c.other.ensures
