use Rattle.std.proofs.Common.{◌≡◌, ◌∙◌, ◌++◌, List, ℕ, arith, length, rules, take, subst, sym, ap, take-append-drop}
use Rattle.std.specs.Io.KnownBytes.{Appends}
use Rattle.std.proofs.lemmas.List.{length-drop}
use Rattle.gw_turns.proofs.unwritten.write_out.Goals as goal

pub returns-clause-parts : goal.returns-clause-parts
returns-clause-parts g c =
    let written = c.write_front-written.result in
    let text = c.args.text.now.items in
    let whole : c.deref.result.now ≡ text = search rules in (
      take written text,
      sym (take-append-drop written text) ∙ ap (λ (l : List ℕ). take written text ++ l) (sym c.drop_front.ensures),
      subst (λ (l : List ℕ). Appends (g.L.OctetSink.held c.args.log.now) (g.L.OctetSink.held c.write_front-written.new.log) (take written l)) whole
          c.write_front-written.ensures.written,
    )

pub returns-clause-shorter : goal.returns-clause-shorter
returns-clause-shorter g c =
    let written = c.write_front-written.result in
    omega (arith, ap length c.drop_front.ensures, length-drop written c.args.text.now.items)
