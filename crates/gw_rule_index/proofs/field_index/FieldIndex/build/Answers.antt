use Rattle.std.proofs.Common.{◌≡◌, ◌≤◌, List, ℕ, sym, subst, ◌∙◌, ap, length, map, eqb}
use Rattle.std.proofs.lemmas.List.{length-map}
use Rattle.std.specs.List.{dedup}
use Rattle.std.proofs.lemmas.List.Filters.{dedup_is}
use Rattle.gw_rule_index.specs.internal.Bounds.{AreSearchable, IsPlace, bound_at}
use Rattle.gw_rule_index.proofs.Ends.{AreBounds, are_bounds, searchable, unnamed, found_row}
use Rattle.gw_rule_index.proofs.field_index.FieldIndex.build.Goals as goal

pub returns : goal.returns
returns c =
    let sorted : List ℕ = c.sort_unstable.new.self.items in
    let single : c.deref.result.now ≡ dedup eqb sorted = c.deref.ensures.value ∙ dedup_is eqb sorted c.dedup.new.self.items c.dedup.ensures.filtered in
    let same : c.in_ok-bounds.bounds.items ≡ map bound_at c.deref.result.now = c.in_ok-bounds.ensures ∙ ap (map bound_at) (c.deref-2.ensures.value ∙ sym c.deref.ensures.value) in
    let are : AreBounds c.args.field c.args.rules.now c.deref.result.now = are_bounds c.args.field c.args.rules.now c.in_ok-numbers.numbers.items sorted c.deref.result.now c.in_ok-numbers.ensures c.sort_unstable.ensures.permutation c.sort_unstable.ensures.sorted single c.requires in
    let long : length c.in_ok-bounds.bounds.items ≡ length c.deref.result.now = ap length same ∙ length-map c.deref.result.now bound_at in
    record {
      searchable = subst AreSearchable (sym same) (searchable c.args.field c.args.rules.now c.deref.result.now are);
      found = λ value place d fits within at.
          found_row c.args.field c.args.rules.now c.deref.result.now c.in_ok-rows.rows.items are c.in_ok-rows.ensures.len c.in_ok-rows.ensures.rows value place d fits
          (subst (λ bounds. place ≤ length bounds) same within)
          (subst (λ bounds. IsPlace bounds value place) same at);
      absent = c.admitting.ensures;
      unnamed = λ none. unnamed c.args.field c.args.rules.now c.deref.result.now are (sym long ∙ none);
      skipped = λ none. long ∙ are.skipped none;
    }
