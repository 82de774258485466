use Rattle.gw_policy_text.proofs.Documents.{is_document, no_text}
use Rattle.gw_policy_text.proofs.read.document.Goals as goal

pub returns-in_default-clause-document : goal.returns-in_default-clause-document
returns-in_default-clause-document c _ = no_text c.args.text.now c.in_default.ensures.cases.0

pub returns-in-Ok-table_from_str-clause-document : goal.returns-in-Ok-table_from_str-clause-document
returns-in-Ok-table_from_str-clause-document c =
    is_document c.args.text.now c.in-Ok.text.now _ c.in-Ok.ensures.cases.0 c.in-Ok.ensures.cases.1 c.in-Ok-table_from_str.ensures.ok
