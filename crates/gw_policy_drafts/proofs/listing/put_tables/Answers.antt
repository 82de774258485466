use Rattle.std.proofs.Common.{rules, ◌≡◌, ◌+◌, ◌-◌, ◌++◌, ℕ, arith, get_or, slice_get, subst, sym}
use Rattle.gw_rules.specs.declared.rule.Rule.{Rule}
use Rattle.gw_script.proofs.Order.{in_order_none, in_order_step}
use Rattle.gw_policy_drafts.proofs.Putting.{two_put}
use Rattle.gw_policy_drafts.specs.Listing.{audit_at, note_at, number_line, rule_table, said_text, table_at}
use Rattle.gw_policy_drafts.proofs.listing.put_tables.Goals as goal

pub loop-place-init : goal.loop-place-init
loop-place-init c = in_order_none (rule_table c.args.origins.now.tables.now c.args.origins.now.lines.now c.args.origins.now.notes.now c.args.origins.now.audits.now) c.args.out.now.items

pub loop-place-preserved : goal.loop-place-preserved
loop-place-preserved c =
    let text = rule_table c.args.origins.now.tables.now c.args.origins.now.lines.now c.args.origins.now.notes.now c.args.origins.now.audits.now in
    let place = c.loop-place.place in
    let item = c.index-rules-place.result in
    let here : get_or c.args.rules.now place item ≡ item = search rules in
    let number : c.put_number.new.out.items ≡ c.loop-place.out.items ++ number_line (place + 1) (table_at c.args.origins.now.tables.now place + 1) (slice_get c.args.origins.now.lines.now (table_at c.args.origins.now.tables.now place)) = search rules in
    let said : c.put_table.new.out.items ≡ c.put_number.new.out.items ++ said_text item (note_at c.args.origins.now.notes.now place) (audit_at c.args.origins.now.audits.now place) =
    search rules in
    let back : place ≡ place + 1 - 1 = omega arith in
    let then : c.put_table.new.out.items ≡ c.loop-place.out.items ++ text (place + 1) item =
    subst (λ (n : ℕ). c.put_table.new.out.items ≡ c.loop-place.out.items ++ (number_line (place + 1) (table_at c.args.origins.now.tables.now n + 1) (slice_get c.args.origins.now.lines.now (table_at c.args.origins.now.tables.now n))
    ++ said_text item (note_at c.args.origins.now.notes.now n) (audit_at c.args.origins.now.audits.now n))) back (two_put _ _ _ _ _ number said) in
    in_order_step text c.args.out.now.items c.loop-place.out.items c.put_table.new.out.items c.args.rules.now place item
    c.loop-place-test.true c.loop-place.invariant
    (subst (λ (x : Rule). c.put_table.new.out.items ≡ c.loop-place.out.items ++ text (place + 1) x) (sym here) then)
