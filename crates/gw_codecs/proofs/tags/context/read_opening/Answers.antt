use Rattle.std.proofs.Common.{arith}
use Rattle.gw_addr.proofs.Reading.{gives_found, gives_only}
use Rattle.gw_codecs.specs.declared.tags.tag.Kind.TheVariants.{Opening}
use Rattle.gw_codecs.specs.tags.Tag.{BeginsWith}
use Rattle.gw_codecs.specs.tags.List.{context}
use Rattle.gw_codecs.specs.tags.ContextReading.{opening_at}
use Rattle.gw_codecs.proofs.tags_lemmas.ContextLaws.{opening_found, opening_only}
use Rattle.gw_codecs.proofs.tags.context.read_opening.Goals as goal

pub returns-clause-found : goal.returns-clause-found
returns-clause-found c = gives_found (λ x. x.now) c.opening.result (opening_at c.args.number c.args.octets.now) (λ y. BeginsWith c.args.octets.now (context c.args.number Opening) y) c.opening.ensures (λ y e. opening_found c.args.number c.args.octets.now y (λ i. omega (arith, c.type_inv.octets i)) e)

pub returns-clause-only : goal.returns-clause-only
returns-clause-only c = λ rest b. gives_only (λ x. x.now) c.opening.result (opening_at c.args.number c.args.octets.now) rest c.opening.ensures (opening_only c.args.number c.args.octets.now rest c.requires b)
