use Rattle.std.proofs.Common.{◌≡◌, ℕ, List, Option, Some, ap, refl, subst, sym}
use Rattle.gw_core.specs.Seen.{Seen}
use Rattle.gw_watchers.specs.Records.{audits, tries}
use Rattle.gw_watchers.specs.Watching.{IsCounted, wants_in}
use Rattle.gw_watchers.proofs.WantedLemmas.{audited_in, either_left, either_right, tried_in}
use Rattle.gw_watchers.proofs.watcher.Watcher.watch.Goals as goal
use Rattle.gw_watchers.proofs.watcher.Watcher.watch.Goals.{in-Some, in_default}

pub returns : goal.returns
returns g c = rw (← c.self.view_is) (λ all seen.
    let w = c.args.gateway.now in
    let inside = c.self.inside in
    let tried = tried_in g.T.OctetSink.held w all inside.trial c.record_in.new.beside
    (c.record_in.ensures all _ seen (λ v is. either_left (wants_in tries inside.trial v) (wants_in audits inside.audit v) is)) in
    let audited = audited_in g.A.OctetSink.held w all inside.audit c.record_in-2.new.beside
    (c.record_in-2.ensures all _ seen (λ v is. either_right (wants_in tries inside.trial v) (wants_in audits inside.audit v) is)) in
    let decided = ap (λ (s : Seen). s.deciders) seen.is in
    elim c.match-self.branch [
      | in-Some d ↦ rw d.self-inside-is (record {
        tried = tried;
        audited = audited;
        counted = subst (λ (before : Option (List ℕ)). IsCounted all before (Some d.count_asked.new.tally)) (sym d.in-Some.is)
            (d.count_asked.ensures all decided);
        unseen = refl;
        format = refl;
        ended = refl;
      })
      | in_default d ↦ rw d.self-inside-is (record {
        tried = tried;
        audited = audited;
        counted = subst (λ (counts : Option (List ℕ)). IsCounted all counts counts) (sym d.in_default.is) tt;
        unseen = refl;
        format = refl;
        ended = refl;
      })
    ])
