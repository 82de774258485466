use Rattle.std.proofs.Common.{arith}
use Rattle.gw_addr.proofs.Reading.{gives_found, gives_only}
use Rattle.gw_codecs.specs.declared.tags.tag.Kind.TheVariants.{Closing}
use Rattle.gw_codecs.specs.tags.Tag.{BeginsWith}
use Rattle.gw_codecs.specs.tags.List.{context}
use Rattle.gw_codecs.specs.tags.ContextReading.{closing_tag_at}
use Rattle.gw_codecs.proofs.tags_lemmas.ContextLaws.{closing_tag_found, closing_tag_only}
use Rattle.gw_codecs.proofs.tags.context.read_closing.Goals as goal

pub returns-clause-found : goal.returns-clause-found
returns-clause-found c = gives_found (λ x. x.now) c.closing.result (closing_tag_at c.args.number c.args.octets.now) (λ y. BeginsWith c.args.octets.now (context c.args.number Closing) y) c.closing.ensures (λ y e. closing_tag_found c.args.number c.args.octets.now y (λ i. omega (arith, c.type_inv.octets i)) e)

pub returns-clause-only : goal.returns-clause-only
returns-clause-only c = λ rest b. gives_only (λ x. x.now) c.closing.result (closing_tag_at c.args.number c.args.octets.now) rest c.closing.ensures (closing_tag_only c.args.number c.args.octets.now rest c.requires b)
