use Rattle.std.proofs.Common.{rules, ◌≡◌, ◌≢◌, false, length, nat_lt, true, Ok, Err}
use Rattle.toml.specs.View.{table_view}
use Rattle.gw_configuration.specs.declared.fault.ConfigFault.TheVariants.{Memory, TooMany}
use Rattle.gw_policy_text.specs.Document.{document, located_configuration}
use Rattle.gw_policy_text.specs.faults.Explanation.{tables_or}
use Rattle.gw_policy_text.proofs.faults_lemmas.Explanations.{no_document, no_tables, of_document, of_tables, too_long, long_tables}
use Rattle.gw_policy_text.proofs.faults.diagnosis.explain.Goals as goal

pub returns-then-text-gt-MAX_OCTETS : goal.returns-then-text-gt-MAX_OCTETS
returns-then-text-gt-MAX_OCTETS c =
    let text = c.args.text.now in
    let long : nat_lt 1048576 (length text) ≡ true = search rules in
    no_tables text TooMany c.args.fault c.of_text.result (long_tables text long)
    (c.of_text.ensures (located_configuration text) (tables_or (Err TooMany)) (too_long text long))

pub returns-in-Ok : goal.returns-in-Ok
returns-in-Ok c =
    let text = c.args.text.now in
    let short : nat_lt 1048576 (length text) ≡ false = search rules in
    let is : document text ≡ Ok (table_view c.in-Ok.top) = search rules in
    of_tables text (table_view c.in-Ok.top) c.args.fault c.in_tables.result short is c.in_tables.ensures

pub returns-in-Err : goal.returns-in-Err
returns-in-Err c =
    let text = c.args.text.now in
    let short : nat_lt 1048576 (length text) ≡ false = search rules in
    let other : c.in-Err.fault_named ≢ Memory = search rules in
    let is : document text ≡ Err c.in-Err.fault_named = search rules in
    no_tables text c.in-Err.fault_named c.args.fault c.of_text-in-Err.result (of_document text (Err c.in-Err.fault_named) short is)
    (c.of_text-in-Err.ensures (located_configuration text) (tables_or (Err c.in-Err.fault_named)) (no_document text c.in-Err.fault_named short is))
