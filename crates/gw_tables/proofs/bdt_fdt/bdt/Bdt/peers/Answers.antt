use Rattle.std.proofs.Common.{◌∙◌, sym, ap, ◌++◌, append-nil}
use Rattle.gw_tables.specs.bdt_fdt.Peers.{peers, has_twice}
use Rattle.gw_tables.proofs.bdt_fdt_lemmas.Entries.{own_found, own_absent}
use Rattle.gw_tables.proofs.bdt_fdt.bdt.Bdt.peers.Goals as goal

pub returns-in-Some : goal.returns-in-Some
returns-in-Some c =
    let es = c.as_slice-entries.result.now in
    let once = ap has_twice c.as_slice-entries.ensures.value ∙ c.self.invariant.1 in
    (λ j. c.entries_before.ensures j ++ c.entries_behind.ensures j)
    ∙ sym (own_found c.args.own es c.in-Some.place (sym c.place_of.ensures.place ∙ c.in-Some.is) once)
    ∙ ap (peers c.args.own) (c.as_slice-entries.ensures.value ∙ c.self.view_is)

pub returns-in-None : goal.returns-in-None
returns-in-None c =
    let es = c.as_slice-entries.result.now in
    append-nil es
    ∙ sym (own_absent c.args.own es (sym c.place_of.ensures.place ∙ c.in-None.is))
    ∙ ap (peers c.args.own) (c.as_slice-entries.ensures.value ∙ c.self.view_is)
