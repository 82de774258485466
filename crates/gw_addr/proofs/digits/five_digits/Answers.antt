use Rattle.std.proofs.Common.{sym, ap, ◌∙◌}
use Rattle.std.specs.Fmt.{decimal}
use Rattle.gw_addr.proofs.Written.{bacnet_digits, five_digits}
use Rattle.gw_addr.proofs.digits.five_digits.Goals as goal

pub returns-then-number-eq-BACNET_PORT : goal.returns-then-number-eq-BACNET_PORT
returns-then-number-eq-BACNET_PORT c = sym (ap decimal c.if-number-eq-BACNET_PORT.true ∙ bacnet_digits)

pub returns : goal.returns
returns c =
    rw (c.digit.ensures, c.digit-2.ensures, c.digit-3.ensures, c.digit-4.ensures, c.digit-5.ensures)
    (sym (five_digits c.args.number c.requires c.ranges.number.fits))
