use Rattle.std.proofs.Common.{arith}
use Rattle.gw_addr.proofs.Reading.{gives_found, gives_fault}
use Rattle.gw_codecs.specs.declared.tags.fault.ContextFault.TheVariants.{BadTag, OtherTag}
use Rattle.gw_codecs.specs.tags.Tag.{IsBadTag}
use Rattle.gw_codecs.specs.tags.Context.{BeginsWithContent, BeginsWithOther}
use Rattle.gw_codecs.specs.tags.ContextReading.{content_at}
use Rattle.gw_codecs.proofs.tags_lemmas.Faults.{gives_both}
use Rattle.gw_codecs.proofs.tags_lemmas.ContextLaws.{content_found, content_only, content_is_bad, content_is_other}
use Rattle.gw_codecs.proofs.tags.context.read_context.Goals as goal

pub returns-clause-found : goal.returns-clause-found
returns-clause-found c = gives_found (λ x. (x.0.now, x.1.now)) c.content.result (content_at c.args.number c.args.octets.now) (λ y. BeginsWithContent c.args.number c.args.octets.now y.0 y.1) c.content.ensures (λ y e. content_found c.args.number c.args.octets.now y.0 y.1 (λ i. omega (arith, c.type_inv.octets i)) e)

pub returns-clause-only : goal.returns-clause-only
returns-clause-only c = λ content rest b. gives_both _ _ _ _ (λ x. x.0.now) (λ x. x.1.now) c.content.result (content_at c.args.number c.args.octets.now) content rest c.content.ensures (content_only c.args.number c.args.octets.now content rest c.requires b)

pub returns-clause-bad_tag : goal.returns-clause-bad_tag
returns-clause-bad_tag c = gives_fault (λ x. (x.0.now, x.1.now)) c.content.result (content_at c.args.number c.args.octets.now) BadTag (IsBadTag c.args.octets.now) c.content.ensures (content_is_bad c.args.number c.args.octets.now (λ i. omega (arith, c.type_inv.octets i)))

pub returns-clause-other_tag : goal.returns-clause-other_tag
returns-clause-other_tag c = gives_fault (λ x. (x.0.now, x.1.now)) c.content.result (content_at c.args.number c.args.octets.now) OtherTag (BeginsWithOther c.args.number c.args.octets.now) c.content.ensures (content_is_other c.args.number c.args.octets.now (λ i. omega (arith, c.type_inv.octets i)))
