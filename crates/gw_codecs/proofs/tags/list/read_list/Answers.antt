use Rattle.std.proofs.Common.{arith}
use Rattle.gw_codecs.specs.tags.List.{EndsList}
use Rattle.gw_codecs.specs.tags.Walk.{list_at}
use Rattle.gw_codecs.proofs.tags_lemmas.ListLaws.{list_found, list_only, maps_found, maps_only}
use Rattle.gw_codecs.proofs.tags.list.read_list.Goals as goal

pub returns-clause-found : goal.returns-clause-found
returns-clause-found c = maps_found (λ x. x.0.now) (λ x. x.1.now) c.list.result (list_at c.args.number c.args.octets.now) (EndsList c.args.number c.args.octets.now) c.list.ensures (λ content rest e. list_found c.args.number c.args.octets.now content rest (λ i. omega (arith, c.type_inv.octets i)) e)

pub returns-clause-only : goal.returns-clause-only
returns-clause-only c = λ content rest s. maps_only (λ x. x.0.now) (λ x. x.1.now) c.list.result (list_at c.args.number c.args.octets.now) content rest c.list.ensures (list_only c.args.number c.args.octets.now content rest s)
