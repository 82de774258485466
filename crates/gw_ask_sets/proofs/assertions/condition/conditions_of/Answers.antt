use Rattle.std.proofs.Common.{◌≡◌, ◌∙◌, ◌&&◌, ◌||◌, Bool, List, true, false, ap, refl}
use Rattle.gw_configuration.specs.Assertion.{is_meant_by, is_meant_plainly}
use Rattle.gw_configuration.specs.declared.assertion.TheConstants.{READING_SERVICES, WRITING_SERVICES}
use Rattle.gw_rules.specs.declared.operation.Operation.TheVariants.{Read, Write}
use Rattle.gw_ask_sets.specs.assertions.internal.Conditions.{is_one_met}
use Rattle.gw_ask_sets.specs.declared.assertions.condition.Condition.{Condition}
use Rattle.gw_ask_sets.proofs.assertions.condition.conditions_of.Goals as goal

regroup : (a b c : Bool) → ((a || b) || c) ≡ (a || (b || c))
regroup true b c = refl
regroup false b c = refl

pub returns : goal.returns
returns c = λ ask.
    let a = c.args.assertion.now in
    let reads = a.any_read && is_meant_by Read READING_SERVICES a ask in
    let writes = a.any_write && is_meant_by Write WRITING_SERVICES a ask in
    c.in_ok-push_writes.ensures ask ∙ ap (λ b. b || writes) (c.in_ok-push_reads.ensures ask)
    ∙ ap (λ b. (b || reads) || writes) (c.in_ok-push_plain.ensures ask
    ∙ ap (λ (cs : List Condition). is_one_met cs ask || is_meant_plainly a ask) c.new-out.ensures.items)
    ∙ regroup (is_meant_plainly a ask) reads writes
