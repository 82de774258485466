use Rattle.std.proofs.Common.{rules, ◌≡◌, [], refl, subst, sym}
use Rattle.gw_codecs.specs.services.Read.{read_encoding, read_view}
use Rattle.gw_codecs.specs.services.Write.{write_encoding, write_view}
use Rattle.gw_verdicts.specs.declared.questions.deed.Deed.{Deed}
use Rattle.gw_verdicts.specs.declared.questions.deed.Deed.TheVariants as deed
use Rattle.gw_verdicts.specs.questions.Laws.{IsAsked}
use Rattle.gw_verdicts.proofs.questions.laws.requests.Goals as goal

pub returns-in-Read : goal.returns-in-Read
returns-in-Read c =
    let is : c.args.deed.now ≡ deed.Read c.in-Read.request = search rules in
    subst (λ (d : Deed). IsAsked d) (sym is)
    (record { body = read_encoding (read_view c.in-Read.request); read = refl; says = c.read_encoded.ensures })

pub returns-in-Write : goal.returns-in-Write
returns-in-Write c =
    let is : c.args.deed.now ≡ deed.Write c.in-Write.request = search rules in
    subst (λ (d : Deed). IsAsked d) (sym is)
    (record { body = write_encoding (write_view c.in-Write.request); read = refl; says = c.write_encoded.ensures })

pub returns-in-Serve : goal.returns-in-Serve
returns-in-Serve c =
    let is : c.args.deed.now ≡ deed.Serve c.in-Serve.field-0 = search rules in
    subst (λ (d : Deed). IsAsked d) (sym is) (record { body = []; read = refl; says = refl })
