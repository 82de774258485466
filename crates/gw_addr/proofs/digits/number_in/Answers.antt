use Rattle.std.proofs.Common.{◌<◌, get_or, sym, ◌∙◌, arith}
use Rattle.gw_addr.proofs.Decimal.{not_canonical, too_long, no_digit, few_digits, more_digits, number_found, number_only, found_below, only_below}
use Rattle.gw_addr.proofs.digits.number_in.Goals as goal

pub returns-then-not-begins_canonical-clause-only : goal.returns-then-not-begins_canonical-clause-only
returns-then-not-begins_canonical-clause-only c = λ n small e. absurd (not_canonical c.args.text.now n small (sym c.begins_canonical.ensures ∙ c.if-not-begins_canonical.true) e)

pub returns-then-text-gt-MAX_DIGITS-clause-only : goal.returns-then-text-gt-MAX_DIGITS-clause-only
returns-then-text-gt-MAX_DIGITS-clause-only c = λ n small e. absurd (too_long c.args.text.now n small (omega arith) e)

pub returns-then-value-gt9-clause-only : goal.returns-then-value-gt9-clause-only
returns-then-value-gt9-clause-only c = λ n small e.
    let digit = get_or c.args.text.now c.loop-digit.digit-index 0 in
    let fits : digit < 256 = omega arith in
    absurd (no_digit c.args.text.now n c.loop-digit.digit-index small (omega arith) (λ range. omega (arith, range)) e)

pub overflow_mul-number : goal.overflow_mul-number
overflow_mul-number c =
    let few = few_digits c.args.text.now c.loop-digit.digit-index (omega arith) c.loop-digit.invariant.digits in
    omega (arith, few, c.loop-digit.invariant.number)

pub overflow_add-number : goal.overflow_add-number
overflow_add-number c =
    let few = few_digits c.args.text.now c.loop-digit.digit-index (omega arith) c.loop-digit.invariant.digits in
    omega (arith, few, c.loop-digit.invariant.number)

pub loop-digit-preserved : goal.loop-digit-preserved
loop-digit-preserved c =
    let i = c.loop-digit.digit-index in
    let digit = get_or c.args.text.now i 0 in
    let fits : digit < 256 = omega arith in
    let more = more_digits c.args.text.now i (omega arith) (omega arith, omega arith) c.loop-digit.invariant.digits in
    record { digits = more.0; number = omega (arith, more.1, c.loop-digit.invariant.number) }

pub returns-clause-found : goal.returns-clause-found
returns-clause-found c =
    let canonical = sym c.begins_canonical.ensures ∙ c.if-not-begins_canonical.false in
    let found = number_found c.args.text.now c.loop-digit.number c.loop-digit.digit-index (omega arith) c.loop-digit.invariant.digits c.loop-digit.invariant.number in
    rw c.ok.ensures.value (found_below c.args.text.now c.loop-digit.number c.try_from.result c.try_from.ensures (λ small. found small canonical))

pub returns-clause-only : goal.returns-clause-only
returns-clause-only c = λ n small e.
    let same = number_only c.args.text.now c.loop-digit.number n c.loop-digit.digit-index (omega arith) c.loop-digit.invariant.number small e in
    c.ok.ensures.value ∙ only_below c.loop-digit.number n c.try_from.result c.try_from.ensures same small
