use Rattle.std.proofs.Common.{◌≡◌, subst}
use Rattle.gw_ask_sets.specs.regions.Unmatched.{EndsWith}
use Rattle.gw_ask_sets.specs.declared.regions.unmatched.Unmatched.{Unmatched}
use Rattle.gw_ask_sets.specs.declared.regions.unmatched.Unmatched.TheVariants as unmatched
use Rattle.gw_ask_sets.proofs.regions_lemmas.UnmatchedLaw.{ended_found, ended_nothing, ended_unknown}
use Rattle.gw_ask_sets.proofs.regions.unmatched.search_unmatched.Goals as goal

pub returns-clause-found : goal.returns-clause-found
returns-clause-found c = λ ask e.
    let s = c.in_ok-searched.searched in
    let is : s.outcome ≡ unmatched.Found ask = cc in
    ended_found c.args.rules.now c.args.regions.items s.steps ask
    (subst (λ (o : Unmatched). EndsWith c.args.rules.now c.args.regions.items c.args.steps s.steps o) is c.in_ok-searched.ensures.ended)

pub returns-clause-nothing : goal.returns-clause-nothing
returns-clause-nothing c = λ e.
    let s = c.in_ok-searched.searched in
    let is : s.outcome ≡ unmatched.Nothing = cc in
    ended_nothing c.args.rules.now c.args.regions.items s.steps
    (subst (λ (o : Unmatched). EndsWith c.args.rules.now c.args.regions.items c.args.steps s.steps o) is c.in_ok-searched.ensures.ended)

pub returns-clause-unknown : goal.returns-clause-unknown
returns-clause-unknown c = λ e.
    let s = c.in_ok-searched.searched in
    let is : s.outcome ≡ unmatched.Unknown = cc in
    ended_unknown c.args.rules.now c.args.regions.items c.args.steps s.steps
    (subst (λ (o : Unmatched). EndsWith c.args.rules.now c.args.regions.items c.args.steps s.steps o) is c.in_ok-searched.ensures.ended)
