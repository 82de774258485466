use Rattle.std.proofs.Common.{rules, ◌≡◌, [], None, inl, inr, refl, sym, true}
use Rattle.std.proofs.lemmas.List.{append-nil}
use Rattle.gw_ask_sets.specs.regions.Unmatched.{parts_at}
use Rattle.gw_ask_sets.proofs.regions_lemmas.UnmatchedLaw.{all_matched, empty_matched, is_cut}
use Rattle.gw_ask_sets.proofs.regions.unmatched.narrow.Goals as goal

pub returns-in-Apart-clause-left : goal.returns-in-Apart-clause-left
returns-in-Apart-clause-left c = λ e.
    let none : c.ask_in.result ≡ None = cc in
    ([], inl (empty_matched c.args.rules.now c.args.region (c.ask_in.ensures.none none), refl), sym (append-nil c.args.left.now.items))

pub returns-then-branch-clause-left : goal.returns-then-branch-clause-left
returns-then-branch-clause-left c = λ e.
    let is : c.in_ok-is_crowded-in-Open.field-0 ≡ true = search rules in (
      [],
      inl (all_matched c.args.rules.now c.args.region (c.in_ok-is_crowded-in-Open.ensures is), refl),
      sym (append-nil c.args.left.now.items),
    )

pub returns-clause-left : goal.returns-clause-left
returns-clause-left c = λ e. (
  parts_at c.in-Open.field c.index-rules-place.result c.args.region,
  inr (is_cut c.args.rules.now c.args.region c.in-Open.place c.index-rules-place.result c.in-Open.field c.index-rules-place.is c.in-Open.ensures),
  c.in_ok-put_parts-in-Open.ensures,
)
