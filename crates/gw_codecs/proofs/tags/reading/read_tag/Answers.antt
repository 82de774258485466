use Rattle.std.proofs.Common.{arith}
use Rattle.gw_addr.proofs.Reading.{gives_found, gives_fault}
use Rattle.gw_codecs.specs.declared.tags.fault.TagFault.TheVariants.{Short, BadTag}
use Rattle.gw_codecs.specs.tags.Tag.{IsTag, IsShortTag, IsBadTag, BeginsWith, tag_view}
use Rattle.gw_codecs.specs.tags.Reading.{tag_at}
use Rattle.gw_codecs.proofs.tags_lemmas.Faults.{gives_both, is_read, tag_takes, tag_is_short, tag_is_bad}
use Rattle.gw_codecs.proofs.tags.reading.read_tag.Goals as goal

pub returns-clause-found : goal.returns-clause-found
returns-clause-found c = gives_found (λ x. (tag_view x.tag, x.rest.now)) c.read.result (tag_at c.args.octets.now) (λ y. BeginsWith c.args.octets.now y.0 y.1) c.read.ensures.exact (λ y e. (tag_takes c.args.octets.now y.0 y.1 (λ i. omega (arith, c.type_inv.octets i)) e).0)

pub returns-clause-valid : goal.returns-clause-valid
returns-clause-valid c = gives_found (λ x. (tag_view x.tag, x.rest.now)) c.read.result (tag_at c.args.octets.now) (λ y. IsTag y.0) c.read.ensures.exact (λ y e. (tag_takes c.args.octets.now y.0 y.1 (λ i. omega (arith, c.type_inv.octets i)) e).1)

pub returns-clause-only : goal.returns-clause-only
returns-clause-only c = λ tag rest is begins. gives_both _ _ _ _ (λ x. tag_view x.tag) (λ x. x.rest.now) c.read.result (tag_at c.args.octets.now) tag rest c.read.ensures.exact (is_read c.args.octets.now tag rest is begins)

pub returns-clause-short : goal.returns-clause-short
returns-clause-short c = gives_fault (λ x. (tag_view x.tag, x.rest.now)) c.read.result (tag_at c.args.octets.now) Short (IsShortTag c.args.octets.now) c.read.ensures.exact (tag_is_short c.args.octets.now (λ i. omega (arith, c.type_inv.octets i)))

pub returns-clause-bad_tag : goal.returns-clause-bad_tag
returns-clause-bad_tag c = gives_fault (λ x. (tag_view x.tag, x.rest.now)) c.read.result (tag_at c.args.octets.now) BadTag (IsBadTag c.args.octets.now) c.read.ensures.exact (tag_is_bad c.args.octets.now (λ i. omega (arith, c.type_inv.octets i)))
