use Rattle.std.proofs.Common.{◌∙◌, ◌+◌, ◌≤◌, [], None, Option, ap, sym, take, drop, length, arith}
use Rattle.std.proofs.lemmas.List.{drop_all}
use Rattle.gw_policy_drafts.proofs.BeginningLaw.{wrong_last, wrong_next}
use Rattle.gw_policy_drafts.specs.beginning.Flaws.{wrong_from, wrong_or}
use Rattle.gw_policy_drafts.specs.beginning.Site.{site_of}
use Rattle.gw_policy_drafts.specs.declared.beginning.fault.Flaw.{Flaw}
use Rattle.gw_policy_drafts.specs.declared.beginning.part.SitePart.{SitePart}
use Rattle.gw_policy_drafts.proofs.beginning.flaws.wrong_among.Goals as goal

abbrev nobody : SitePart
nobody = record { number = 0; ip = []; prefix = 0; udp = None }

pub returns-in-Some : goal.returns-in-Some
returns-in-Some c =
    let s = site_of c.args.site.now in
    let parts = c.args.parts.now in
    let place = c.loop-place.place in
    let later = wrong_from s c.args.option (take (place + 1) parts) (drop (place + 1) parts) in
    sym (wrong_next s c.args.option parts place nobody c.loop-place-test.true
    ∙ ap (λ (f : Option Flaw). wrong_or f c.args.option place later) (sym c.flaw_of.ensures ∙ c.in-Some.is))
    ∙ c.loop-place.invariant

pub loop-place-preserved : goal.loop-place-preserved
loop-place-preserved c =
    let s = site_of c.args.site.now in
    let parts = c.args.parts.now in
    let place = c.loop-place.place in
    let later = wrong_from s c.args.option (take (place + 1) parts) (drop (place + 1) parts) in
    sym (wrong_next s c.args.option parts place nobody c.loop-place-test.true
    ∙ ap (λ (f : Option Flaw). wrong_or f c.args.option place later) (sym c.flaw_of.ensures ∙ c.in_default.is))
    ∙ c.loop-place.invariant

pub returns : goal.returns
returns c =
    let s = site_of c.args.site.now in
    let parts = c.args.parts.now in
    let place = c.loop-place.place in
    let past : length parts ≤ place = omega (arith, c.loop-place-test.false) in
    sym (wrong_last s c.args.option (take place parts) (drop place parts) (drop_all place parts past)) ∙ c.loop-place.invariant
