use Rattle.std.proofs.Common.{◌≡◌, ◌∙◌, ◌++◌, ap, subst, ℕ, List, Bor, Option}
use Rattle.std.specs.Prelude.{option_map}
use Rattle.std.specs.List.{flat_map}
use Rattle.gw_json.specs.Comparison.{differences_value}
use Rattle.gw_json.specs.Document.{line_of}
use Rattle.gw_policy_review.specs.comparison.PartLines.{details as details_of}
use Rattle.gw_policy_review.specs.comparison.Parts.{name_line}
use Rattle.gw_tools.specs.Asserting.{SaysAssertions}
use Rattle.gw_tools.specs.Json.{IsTextOf}
use Rattle.gw_tools.proofs.AssertingLemmas.{told_alone}
use Rattle.gw_tools.proofs.json.parts_line.Goals as goal

abbrev texts : Option (Bor (List ℕ)) → Option (List ℕ)
texts text = option_map (λ (text : Bor (List ℕ)). text.now) text

pub returns : goal.returns
returns c =
    let old = c.args.old.now in
    let new = c.args.new.now in
    let differ = c.args.differ.now in
    let said = c.put_assertions.new.out.items in
    let names = texts c.text_of.result in
    let details = texts c.text_of-2.result in
    let asserts = texts c.text_of-3.result in
    let is_names : c.deref.result.now ≡ flat_map name_line differ =
    c.deref.ensures.value ∙ c.in_ok-put_part_names.ensures ∙ ap (λ (t : List ℕ). t ++ flat_map name_line differ) c.new-names.ensures.items in
    let is_details : c.deref-2.result.now ≡ details_of old new differ =
    c.deref-2.ensures.value ∙ c.in_ok-put_details.ensures ∙ ap (λ (t : List ℕ). t ++ details_of old new differ) c.new-details.ensures.items in
    let put : c.put_differences.new.out.items ≡ c.new-line.result.items ++ line_of (differences_value names details asserts) =
    c.in_ok-put_differences.ensures.ok in
    record {
      names = names;
      are_names = subst (λ (octets : List ℕ). IsTextOf octets names) is_names c.text_of.ensures;
      details = details;
      are_details = subst (λ (octets : List ℕ). IsTextOf octets details) is_details c.text_of-2.ensures;
      said = said;
      is_said = told_alone (SaysAssertions old new) c.new-asserts.result.items said c.new-asserts.ensures.items c.in_ok-put_assertions.ensures;
      asserts = asserts;
      are_asserts = subst (λ (octets : List ℕ). IsTextOf octets asserts) c.deref-3.ensures.value c.text_of-3.ensures;
      is = put ∙ ap (λ (t : List ℕ). t ++ line_of (differences_value names details asserts)) c.new-line.ensures.items;
    }
