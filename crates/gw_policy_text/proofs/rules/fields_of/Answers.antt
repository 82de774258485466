use Rattle.std.proofs.Common.{◌≡◌, ◌≢◌, map, refl, Err}
use Rattle.toml.specs.View.{table_view, view}
use Rattle.gw_configuration.specs.declared.fault.ConfigFault.TheVariants.{Memory}
use Rattle.gw_policy_text.specs.Policy.{fields_of}
use Rattle.gw_policy_text.proofs.Stopping.{is_fault}
use Rattle.gw_policy_text.proofs.rules.fields_of.Goals as goal

pub returns-in_err-ranges_at-clause-fields : goal.returns-in_err-ranges_at-clause-fields
returns-in_err-ranges_at-clause-fields c =
    let fault = c.in_err-ranges_at.field-0.0 in
    let stopped : fault ≢ Memory → fields_of c.args.naming (map view c.args.sets.now) (table_view c.args.table.now) ≡ Err fault =
    λ other. rw (c.in_err-ranges_at.ensures.ranges other) refl in
    rw (is_fault c.from_residual.result fault c.from_residual.ensures) stopped

pub returns-in_err-ranges_at-2-clause-fields : goal.returns-in_err-ranges_at-2-clause-fields
returns-in_err-ranges_at-2-clause-fields c =
    let fault = c.in_err-ranges_at-2.field-0.0 in
    let stopped : fault ≢ Memory → fields_of c.args.naming (map view c.args.sets.now) (table_view c.args.table.now) ≡ Err fault =
    λ other. rw (c.in_ok-ranges_at.ensures.ranges, c.in_err-ranges_at-2.ensures.ranges other) refl in
    rw (is_fault c.from_residual-in_err-ranges_at-2.result fault c.from_residual-in_err-ranges_at-2.ensures) stopped

pub returns-in_err-ranges_at-3-clause-fields : goal.returns-in_err-ranges_at-3-clause-fields
returns-in_err-ranges_at-3-clause-fields c =
    let fault = c.in_err-ranges_at-3.field-0.0 in
    let stopped : fault ≢ Memory → fields_of c.args.naming (map view c.args.sets.now) (table_view c.args.table.now) ≡ Err fault =
    λ other. rw (c.in_ok-ranges_at.ensures.ranges, c.in_ok-ranges_at-2.ensures.ranges, c.in_err-ranges_at-3.ensures.ranges other) refl in
    rw (is_fault c.from_residual-in_err-ranges_at-3.result fault c.from_residual-in_err-ranges_at-3.ensures) stopped

pub returns-in_err-ranges_at-4-clause-fields : goal.returns-in_err-ranges_at-4-clause-fields
returns-in_err-ranges_at-4-clause-fields c =
    let fault = c.in_err-ranges_at-4.field-0.0 in
    let stopped : fault ≢ Memory → fields_of c.args.naming (map view c.args.sets.now) (table_view c.args.table.now) ≡ Err fault =
    λ other. rw (c.in_ok-ranges_at.ensures.ranges, c.in_ok-ranges_at-2.ensures.ranges, c.in_ok-ranges_at-3.ensures.ranges, c.in_err-ranges_at-4.ensures.ranges other) refl in
    rw (is_fault c.from_residual-in_err-ranges_at-4.result fault c.from_residual-in_err-ranges_at-4.ensures) stopped

pub returns-in_err-ranges_at-5-clause-fields : goal.returns-in_err-ranges_at-5-clause-fields
returns-in_err-ranges_at-5-clause-fields c =
    let fault = c.in_err-ranges_at-5.field-0.0 in
    let stopped : fault ≢ Memory → fields_of c.args.naming (map view c.args.sets.now) (table_view c.args.table.now) ≡ Err fault =
    λ other. rw (c.in_ok-ranges_at.ensures.ranges, c.in_ok-ranges_at-2.ensures.ranges, c.in_ok-ranges_at-3.ensures.ranges, c.in_ok-ranges_at-4.ensures.ranges, c.in_err-ranges_at-5.ensures.ranges other) refl in
    rw (is_fault c.from_residual-in_err-ranges_at-5.result fault c.from_residual-in_err-ranges_at-5.ensures) stopped

pub returns-in_err-ranges_at-6-clause-fields : goal.returns-in_err-ranges_at-6-clause-fields
returns-in_err-ranges_at-6-clause-fields c =
    let fault = c.in_err-ranges_at-6.field-0.0 in
    let stopped : fault ≢ Memory → fields_of c.args.naming (map view c.args.sets.now) (table_view c.args.table.now) ≡ Err fault =
    λ other. rw (c.in_ok-ranges_at.ensures.ranges, c.in_ok-ranges_at-2.ensures.ranges, c.in_ok-ranges_at-3.ensures.ranges, c.in_ok-ranges_at-4.ensures.ranges, c.in_ok-ranges_at-5.ensures.ranges, c.in_err-ranges_at-6.ensures.ranges other) refl in
    rw (is_fault c.from_residual-in_err-ranges_at-6.result fault c.from_residual-in_err-ranges_at-6.ensures) stopped

pub returns-in_err-ranges_at-7-clause-fields : goal.returns-in_err-ranges_at-7-clause-fields
returns-in_err-ranges_at-7-clause-fields c =
    let fault = c.in_err-ranges_at-7.field-0.0 in
    let stopped : fault ≢ Memory → fields_of c.args.naming (map view c.args.sets.now) (table_view c.args.table.now) ≡ Err fault =
    λ other. rw (c.in_ok-ranges_at.ensures.ranges, c.in_ok-ranges_at-2.ensures.ranges, c.in_ok-ranges_at-3.ensures.ranges, c.in_ok-ranges_at-4.ensures.ranges, c.in_ok-ranges_at-5.ensures.ranges, c.in_ok-ranges_at-6.ensures.ranges, c.in_err-ranges_at-7.ensures.ranges other) refl in
    rw (is_fault c.from_residual-in_err-ranges_at-7.result fault c.from_residual-in_err-ranges_at-7.ensures) stopped

pub returns-in_err-ranges_at-8-clause-fields : goal.returns-in_err-ranges_at-8-clause-fields
returns-in_err-ranges_at-8-clause-fields c =
    let fault = c.in_err-ranges_at-8.field-0.0 in
    let stopped : fault ≢ Memory → fields_of c.args.naming (map view c.args.sets.now) (table_view c.args.table.now) ≡ Err fault =
    λ other. rw (c.in_ok-ranges_at.ensures.ranges, c.in_ok-ranges_at-2.ensures.ranges, c.in_ok-ranges_at-3.ensures.ranges, c.in_ok-ranges_at-4.ensures.ranges, c.in_ok-ranges_at-5.ensures.ranges, c.in_ok-ranges_at-6.ensures.ranges, c.in_ok-ranges_at-7.ensures.ranges, c.in_err-ranges_at-8.ensures.ranges other) refl in
    rw (is_fault c.from_residual-in_err-ranges_at-8.result fault c.from_residual-in_err-ranges_at-8.ensures) stopped

pub returns-in_err-ranges_at-9-clause-fields : goal.returns-in_err-ranges_at-9-clause-fields
returns-in_err-ranges_at-9-clause-fields c =
    let fault = c.in_err-ranges_at-9.field-0.0 in
    let stopped : fault ≢ Memory → fields_of c.args.naming (map view c.args.sets.now) (table_view c.args.table.now) ≡ Err fault =
    λ other. rw (c.in_ok-ranges_at.ensures.ranges, c.in_ok-ranges_at-2.ensures.ranges, c.in_ok-ranges_at-3.ensures.ranges, c.in_ok-ranges_at-4.ensures.ranges, c.in_ok-ranges_at-5.ensures.ranges, c.in_ok-ranges_at-6.ensures.ranges, c.in_ok-ranges_at-7.ensures.ranges, c.in_ok-ranges_at-8.ensures.ranges, c.in_err-ranges_at-9.ensures.ranges other) refl in
    rw (is_fault c.from_residual-in_err-ranges_at-9.result fault c.from_residual-in_err-ranges_at-9.ensures) stopped

pub returns-in_err-ranges_at-10-clause-fields : goal.returns-in_err-ranges_at-10-clause-fields
returns-in_err-ranges_at-10-clause-fields c =
    let fault = c.in_err-ranges_at-10.field-0.0 in
    let stopped : fault ≢ Memory → fields_of c.args.naming (map view c.args.sets.now) (table_view c.args.table.now) ≡ Err fault =
    λ other. rw (c.in_ok-ranges_at.ensures.ranges, c.in_ok-ranges_at-2.ensures.ranges, c.in_ok-ranges_at-3.ensures.ranges, c.in_ok-ranges_at-4.ensures.ranges, c.in_ok-ranges_at-5.ensures.ranges, c.in_ok-ranges_at-6.ensures.ranges, c.in_ok-ranges_at-7.ensures.ranges, c.in_ok-ranges_at-8.ensures.ranges, c.in_ok-ranges_at-9.ensures.ranges, c.in_err-ranges_at-10.ensures.ranges other) refl in
    rw (is_fault c.from_residual-in_err-ranges_at-10.result fault c.from_residual-in_err-ranges_at-10.ensures) stopped

pub returns-in_err-station_ranges_at-clause-fields : goal.returns-in_err-station_ranges_at-clause-fields
returns-in_err-station_ranges_at-clause-fields c =
    let fault = c.in_err-station_ranges_at.field-0.0 in
    let stopped : fault ≢ Memory → fields_of c.args.naming (map view c.args.sets.now) (table_view c.args.table.now) ≡ Err fault =
    λ other. rw (c.in_ok-ranges_at.ensures.ranges, c.in_ok-ranges_at-2.ensures.ranges, c.in_ok-ranges_at-3.ensures.ranges, c.in_ok-ranges_at-4.ensures.ranges, c.in_ok-ranges_at-5.ensures.ranges, c.in_ok-ranges_at-6.ensures.ranges, c.in_ok-ranges_at-7.ensures.ranges, c.in_ok-ranges_at-8.ensures.ranges, c.in_ok-ranges_at-9.ensures.ranges, c.in_ok-ranges_at-10.ensures.ranges, c.in_err-station_ranges_at.ensures.ranges other) refl in
    rw (is_fault c.from_residual-in_err-station_ranges_at.result fault c.from_residual-in_err-station_ranges_at.ensures) stopped

pub returns-in_err-station_ranges_at-2-clause-fields : goal.returns-in_err-station_ranges_at-2-clause-fields
returns-in_err-station_ranges_at-2-clause-fields c =
    let fault = c.in_err-station_ranges_at-2.field-0.0 in
    let stopped : fault ≢ Memory → fields_of c.args.naming (map view c.args.sets.now) (table_view c.args.table.now) ≡ Err fault =
    λ other. rw (c.in_ok-ranges_at.ensures.ranges, c.in_ok-ranges_at-2.ensures.ranges, c.in_ok-ranges_at-3.ensures.ranges, c.in_ok-ranges_at-4.ensures.ranges, c.in_ok-ranges_at-5.ensures.ranges, c.in_ok-ranges_at-6.ensures.ranges, c.in_ok-ranges_at-7.ensures.ranges, c.in_ok-ranges_at-8.ensures.ranges, c.in_ok-ranges_at-9.ensures.ranges, c.in_ok-ranges_at-10.ensures.ranges, c.in_ok-station_ranges_at.ensures.ranges, c.in_err-station_ranges_at-2.ensures.ranges other) refl in
    rw (is_fault c.from_residual-in_err-station_ranges_at-2.result fault c.from_residual-in_err-station_ranges_at-2.ensures) stopped
