use Rattle.std.proofs.Common.{arith}
use Rattle.gw_addr.proofs.Reading.{gives_found, gives_fault}
use Rattle.gw_codecs.specs.declared.tags.fault.ValueFault.TheVariants.{Short, BadTag, BadLength, BadText}
use Rattle.gw_codecs.specs.tags.Value.{value_view, IsValue, BeginsWithValue, IsShortValue, IsBadValueTag, IsBadLength, IsBadText}
use Rattle.gw_codecs.specs.tags.Reading.{value_at}
use Rattle.gw_codecs.proofs.tags_lemmas.Faults.{gives_both}
use Rattle.gw_codecs.proofs.tags_lemmas.ValueFaults.{value_found, value_only, value_is_short, value_is_bad_tag, value_is_bad_length, value_is_bad_text}
use Rattle.gw_codecs.proofs.tags_lemmas.Written.{value_within}
use Rattle.gw_codecs.proofs.tags.value_reading.read_value.Goals as goal

pub returns-clause-found : goal.returns-clause-found
returns-clause-found c = gives_found (λ x. (value_view x.0, x.1.now)) c.read.result (value_at c.args.octets.now) (λ y. BeginsWithValue c.args.octets.now y.0 y.1) c.read.ensures (λ y e. (value_found c.args.octets.now y.0 y.1 (λ i. omega (arith, c.type_inv.octets i)) e).0)

pub returns-clause-valid : goal.returns-clause-valid
returns-clause-valid c = gives_found (λ x. (value_view x.0, x.1.now)) c.read.result (value_at c.args.octets.now) (λ y. IsValue y.0) c.read.ensures (λ y e. let f = value_found c.args.octets.now y.0 y.1 (λ i. omega (arith, c.type_inv.octets i)) e in value_within c.args.octets.now y.0 y.1 f.0 f.1)

pub returns-clause-only : goal.returns-clause-only
returns-clause-only c = λ value rest is begins. gives_both _ _ _ _ (λ x. value_view x.0) (λ x. x.1.now) c.read.result (value_at c.args.octets.now) value rest c.read.ensures (value_only c.args.octets.now value rest is.text begins)

pub returns-clause-short : goal.returns-clause-short
returns-clause-short c = gives_fault (λ x. (value_view x.0, x.1.now)) c.read.result (value_at c.args.octets.now) Short (IsShortValue c.args.octets.now) c.read.ensures (value_is_short c.args.octets.now (λ i. omega (arith, c.type_inv.octets i)))

pub returns-clause-bad_tag : goal.returns-clause-bad_tag
returns-clause-bad_tag c = gives_fault (λ x. (value_view x.0, x.1.now)) c.read.result (value_at c.args.octets.now) BadTag (IsBadValueTag c.args.octets.now) c.read.ensures (value_is_bad_tag c.args.octets.now (λ i. omega (arith, c.type_inv.octets i)))

pub returns-clause-bad_length : goal.returns-clause-bad_length
returns-clause-bad_length c = gives_fault (λ x. (value_view x.0, x.1.now)) c.read.result (value_at c.args.octets.now) BadLength (IsBadLength c.args.octets.now) c.read.ensures (value_is_bad_length c.args.octets.now (λ i. omega (arith, c.type_inv.octets i)))

pub returns-clause-bad_text : goal.returns-clause-bad_text
returns-clause-bad_text c = gives_fault (λ x. (value_view x.0, x.1.now)) c.read.result (value_at c.args.octets.now) BadText (IsBadText c.args.octets.now) c.read.ensures (value_is_bad_text c.args.octets.now (λ i. omega (arith, c.type_inv.octets i)))
