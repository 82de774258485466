use Rattle.std.proofs.Common.{rules, ◌≡◌, ◌∙◌, Some, None, refl, sym, ap, arith}
use Rattle.std.specs.Fmt.{decimal}
use Rattle.std.proofs.lemmas.Str.Pattern.{split_parts}
use Rattle.gw_addr.specs.Mask.{mask_text}
use Rattle.gw_configuration.specs.internal.Prefix.{prefix_of}
use Rattle.gw_configuration.proofs.Prefixes.{halves, prefix_again, prefix_found}
use Rattle.gw_configuration.proofs.subnet.divided.Goals as goal

pub returns-in_err-ip-clause-only : goal.returns-in_err-ip-clause-only
returns-in_err-ip-clause-only c = λ m n is small e.
    let none : c.split_once.result ≡ None = search rules in
    absurd (rw none at (halves c.args.text.now c.split_once.result c.split_once.ensures.cases m n is e))

pub returns-in_err-parse-clause-only : goal.returns-in_err-parse-clause-only
returns-in_err-parse-clause-only c = λ m n is small e.
    let some : c.split_once.result ≡ Some (c.in_ok-ip.ip, c.in_ok-ip.prefix) = search rules in
    let parts = rw some at (halves c.args.text.now c.split_once.result c.split_once.ensures.cases m n is e) in
    let read : c.parse.result ≡ Some m = c.parse.ensures.only m is parts.0 in
    let none : c.parse.result ≡ None = search rules in
    absurd (cc (read, none))

pub returns-in_err-prefix_in-clause-only : goal.returns-in_err-prefix_in-clause-only
returns-in_err-prefix_in-clause-only c = λ m n is small e.
    let some : c.split_once.result ≡ Some (c.in_ok-ip.ip, c.in_ok-ip.prefix) = search rules in
    let parts = rw some at (halves c.args.text.now c.split_once.result c.split_once.ensures.cases m n is e) in
    let octets : c.as_bytes.result.now ≡ c.in_ok-ip.prefix.now = search rules in
    let read : c.prefix_in.result ≡ Some n = c.prefix_in.ensures ∙ ap prefix_of (octets ∙ parts.1) ∙ prefix_again n small in
    let none : c.prefix_in.result ≡ None = search rules in
    absurd (cc (read, none))

pub returns-clause-found : goal.returns-clause-found
returns-clause-found c =
    let some : c.split_once.result ≡ Some (c.in_ok-ip.ip, c.in_ok-ip.prefix) = search rules in
    let parts = rw some at (split_parts 47 c.args.text.now c.split_once.result c.split_once.ensures.cases (omega arith)) in
    let octets : c.as_bytes.result.now ≡ c.in_ok-ip.prefix.now = search rules in
    let number : c.prefix_in.result ≡ Some c.in_ok-prefix_in.field-0 = search rules in
    let digits : c.in_ok-ip.prefix.now ≡ decimal c.in_ok-prefix_in.field-0 = sym octets ∙ prefix_found c.as_bytes.result.now c.in_ok-prefix_in.field-0 (sym c.prefix_in.ensures ∙ number) in
    let mask : c.in_ok-ip.ip.now ≡ mask_text c.in_ok-parse.field-0 = search rules in
    parts.0 ∙ rw (mask, digits) refl

pub returns-clause-only : goal.returns-clause-only
returns-clause-only c = λ m n is small e.
    let some : c.split_once.result ≡ Some (c.in_ok-ip.ip, c.in_ok-ip.prefix) = search rules in
    let parts = rw some at (halves c.args.text.now c.split_once.result c.split_once.ensures.cases m n is e) in
    let octets : c.as_bytes.result.now ≡ c.in_ok-ip.prefix.now = search rules in
    let read : c.parse.result ≡ Some m = c.parse.ensures.only m is parts.0 in
    let number : c.prefix_in.result ≡ Some n = c.prefix_in.ensures ∙ ap prefix_of (octets ∙ parts.1) ∙ prefix_again n small in
    let mask : c.parse.result ≡ Some c.in_ok-parse.field-0 = search rules in
    let digits : c.prefix_in.result ≡ Some c.in_ok-prefix_in.field-0 = search rules in
    let first : c.in_ok-parse.field-0 ≡ m = cc (read, mask) in
    let second : c.in_ok-prefix_in.field-0 ≡ n = cc (number, digits) in
    rw (first, second) refl
