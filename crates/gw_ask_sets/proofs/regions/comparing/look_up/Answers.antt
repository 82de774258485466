use Rattle.std.proofs.Common.{◌≡◌, ◌∙◌, ◌&&◌, ◌∷◌, [], ap, inl, inr, refl, subst, sym, true}
use Rattle.std.proofs.lemmas.List.{append-nil}
use Rattle.gw_rules.specs.Ask.{Ask}
use Rattle.gw_ask_sets.specs.regions.Regions.{Region, lies, lies_in_one}
use Rattle.gw_ask_sets.specs.regions.Steps.{IsFoundIn}
use Rattle.gw_ask_sets.specs.regions.internal.Looking.{IsLook}
use Rattle.gw_ask_sets.proofs.regions_lemmas.ComparingLaw.{decided_in}
use Rattle.gw_ask_sets.proofs.regions_lemmas.StepLaw.{is_divided}
use Rattle.gw_ask_sets.proofs.regions.comparing.look_up.Goals as goal

pub returns-in-Alike : goal.returns-in-Alike
returns-in-Alike c = λ shapes holds.
    let alike = subst (IsLook c.args.old.now c.args.new.now c.args.taken.region) c.in-Alike.is c.in_ok-look_at.ensures in
    record {
      more = [];
      back = [];
      becomes = inl ((λ ask in_shape there. alike ask there), refl, refl);
      found = sym (append-nil c.args.comparison.now.found.items);
      left = sym (append-nil c.args.comparison.now.left.items);
    }

pub returns-in_ok-put_found-in-Unlike : goal.returns-in_ok-put_found-in-Unlike
returns-in_ok-put_found-in-Unlike c = λ shapes holds.
    let old = c.args.old.now in
    let new = c.args.new.now in
    let taken = c.args.taken in
    let f = c.in_ok-found-in-Unlike.found in
    let says = c.in_ok-found-in-Unlike.ensures.found in
    let unlike = subst (IsLook old new taken.region) c.in-Unlike.is c.in_ok-look_at.ensures in
    let there : (lies f.region f.ask && lies_in_one shapes f.ask) ≡ true =
    ap (λ (r : Region). lies r f.ask && lies_in_one shapes f.ask) says.0
    ∙ ap (λ (a : Ask). lies taken.region a && lies_in_one shapes a) says.1 ∙ holds in
    let is : IsFoundIn shapes old new taken.region f = record {
      whole = says.0;
      verdicts = decided_in old new taken.region c.in-Unlike.allows f says.0 says.2 c.in_ok-found-in-Unlike.ensures.old c.in_ok-found-in-Unlike.ensures.new unlike;
      example = there;
    } in
    record {
      more = f ∷ [];
      back = [];
      becomes = inr (inl (f, is, refl, refl));
      found = c.in_ok-put_found-in-Unlike.ensures.found;
      left = c.in_ok-put_found-in-Unlike.ensures.left ∙ sym (append-nil c.args.comparison.now.left.items);
    }

pub returns-in_ok-put_parts-in-PartByOld : goal.returns-in_ok-put_parts-in-PartByOld
returns-in_ok-put_parts-in-PartByOld c = λ shapes holds.
    let at = subst (IsLook c.args.old.now c.args.new.now c.args.taken.region) c.in-PartByOld.is c.in_ok-look_at.ensures in
    record {
      more = [];
      back = _;
      becomes = inr (inr (
        is_divided c.args.old.now c.args.new.now c.args.taken.region c.args.old.now c.in-PartByOld.place _ (λ one there. inl there)
            c.index-old-place.is at,
        refl,
      ));
      found = c.in_ok-put_parts-in-PartByOld.ensures.found ∙ sym (append-nil c.args.comparison.now.found.items);
      left = c.in_ok-put_parts-in-PartByOld.ensures.left;
    }

pub returns-in_ok-put_parts-in-PartByNew : goal.returns-in_ok-put_parts-in-PartByNew
returns-in_ok-put_parts-in-PartByNew c = λ shapes holds.
    let at = subst (IsLook c.args.old.now c.args.new.now c.args.taken.region) c.in-PartByNew.is c.in_ok-look_at.ensures in
    record {
      more = [];
      back = _;
      becomes = inr (inr (
        is_divided c.args.old.now c.args.new.now c.args.taken.region c.args.new.now c.in-PartByNew.place _ (λ one there. inr there)
            c.index-new-place.is at,
        refl,
      ));
      found = c.in_ok-put_parts-in-PartByNew.ensures.found ∙ sym (append-nil c.args.comparison.now.found.items);
      left = c.in_ok-put_parts-in-PartByNew.ensures.left;
    }
