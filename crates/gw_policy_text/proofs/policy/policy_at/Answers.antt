use Rattle.std.proofs.Common.{◌≡◌, ◌∙◌, ◌==◌, ◌||◌, ℕ, ap, length, refl, true}
use Rattle.std.specs.Prelude.{vec_items}
use Rattle.gw_rules.specs.Format.{names_stations}
use Rattle.gw_configuration.specs.declared.policing.Policing.{Policing}
use Rattle.gw_policy_text.specs.internal.Listing.{listing_view}
use Rattle.gw_policy_text.proofs.Kept.{HasList, plain_kept, rules_kept}
use Rattle.gw_policy_text.proofs.policy.policy_at.Goals as goal

pub returns-clause-kept : goal.returns-clause-kept
returns-clause-kept c =
    let policy : Policing = record {
      rules = c.in_ok-rules.rules;
      tables = c.into_parts-rules.result.1;
      notes = c.into_parts-rules.result.2;
      audits = c.into_parts-rules.result.3;
      written = length c.in_ok-tables.tables.now;
      sets = c.in_ok-sets.sets;
      assertions = c.in_ok-assertions.assertions;
    } in
    let list = listing_view c.in_ok-listing.listing in
    let has : HasList policy (length c.in_ok-tables.tables.now) list = record {
      rules = c.in_ok-rules.ensures.same ∙ ap vec_items c.into_parts-rules.ensures.rules;
      tables = c.into_parts-rules.ensures.tables;
      notes = c.into_parts-rules.ensures.notes;
      audits = c.into_parts-rules.ensures.audits;
      written = refl;
    } in
    rules_kept c.args.format (length c.in_ok-tables.tables.now) list policy c.in_ok-tables.ensures.most c.in_ok-listing.ensures.written has

pub returns-clause-plain : goal.returns-clause-plain
returns-clause-plain c =
    let policy : Policing = record {
      rules = c.in_ok-rules.rules;
      tables = c.into_parts-rules.result.1;
      notes = c.into_parts-rules.result.2;
      audits = c.into_parts-rules.result.3;
      written = length c.in_ok-tables.tables.now;
      sets = c.in_ok-sets.sets;
      assertions = c.in_ok-assertions.assertions;
    } in
    let list = listing_view c.in_ok-listing.listing in
    let has : HasList policy (length c.in_ok-tables.tables.now) list = record {
      rules = c.in_ok-rules.ensures.same ∙ ap vec_items c.into_parts-rules.ensures.rules;
      tables = c.into_parts-rules.ensures.tables;
      notes = c.into_parts-rules.ensures.notes;
      audits = c.into_parts-rules.ensures.audits;
      written = refl;
    } in
    plain_kept c.args.format (length c.in_ok-tables.tables.now) list policy c.in_ok-listing.ensures.written has c.in_ok-rules.ensures.short
    (ap (λ (n : ℕ). names_stations c.args.format || (n == 0)) c.in_ok-sets.ensures.count ∙ c.in_ok-items.ensures.plain)
    (ap (λ (n : ℕ). names_stations c.args.format || (n == 0)) c.in_ok-assertions.ensures.count ∙ c.in_ok-asserted.ensures.plain)
