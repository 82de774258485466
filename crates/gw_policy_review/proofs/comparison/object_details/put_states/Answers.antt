use Rattle.gw_policy_review.proofs.comparison_lemmas.Appending.{three}
use Rattle.gw_policy_review.proofs.comparison.object_details.put_states.Goals as goal

pub returns : goal.returns
returns c =
    let default = c.in_ok-put_number_change.ensures in
    let default = rw (c.from-default.ensures, c.default.ensures.value, c.from-other.ensures, c.default-2.ensures.value) at default in
    let count = c.in_ok-put_number_change-2.ensures in
    let count = rw (c.states.ensures.value, c.states-2.ensures.value) at count in
    let each = c.put_each_state.ensures in
    let each = rw (c.states-3.ensures.value, c.states-4.ensures.value) at each in
    three c.put_each_state.result c.args.out.now.items c.put_number_change.new.out.items c.put_number_change-2.new.out.items
    c.put_each_state.new.out.items _ _ _ default count each
