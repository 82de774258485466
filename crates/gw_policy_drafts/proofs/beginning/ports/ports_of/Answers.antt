use Rattle.std.proofs.Common.{rules, ◌≡◌, ◌∙◌, ◌+◌, ◌++◌, ◌<◌, ◌≤◌, ◌∷◌, [], List, ap, sym, subst, drop, length, get_or}
use Rattle.std.proofs.lemmas.List.{append-nil, drop_all}
use Rattle.gw_configuration.specs.declared.port.Port.{Port}
use Rattle.gw_policy_drafts.proofs.BeginningLaw.{no_port, port_next}
use Rattle.gw_policy_drafts.specs.beginning.Ports.{port_of, ports_from, ports_of}
use Rattle.gw_policy_drafts.specs.beginning.Site.{site_of}
use Rattle.gw_policy_drafts.proofs.beginning.ports.ports_of.Goals as goal

pub loop-place-preserved : goal.loop-place-preserved
loop-place-preserved c =
    let s = site_of c.args.site.now in
    let place = c.loop-place.place in
    let part = c.index.result.now in
    let within : place < length s.ports = search rules in
    let at : get_or s.ports place part ≡ part = search rules in
    let made : c.in_ok-port.port ≡ port_of s (place + 1) part = search rules in
    let added : c.add_port.new.ports.items ≡ c.loop-place.ports.items ++ c.in_ok-port.port ∷ [] = search rules in
    let all : c.add_port.new.ports.items ≡ c.loop-place.ports.items ++ port_of s (place + 1) part ∷ [] =
    added ∙ ap (λ (port : Port). c.loop-place.ports.items ++ port ∷ []) made in
    subst (λ (ports : List Port). ports ++ ports_from s (place + 1 + 1) (drop (place + 1) s.ports) ≡ ports_of s) (sym all)
    (port_next s s.ports place part c.loop-place.ports.items (ports_of s) within at c.loop-place.invariant)

pub returns : goal.returns
returns c =
    let s = site_of c.args.site.now in
    let place = c.loop-place.place in
    let ports = c.loop-place.ports.items in
    let past : length s.ports ≤ place = search rules in
    let done : drop place s.ports ≡ [] = drop_all place s.ports past in
    sym (append-nil ports) ∙ ap (λ (later : List Port). ports ++ later) (sym (no_port s (place + 1) (drop place s.ports) done)) ∙ c.loop-place.invariant
