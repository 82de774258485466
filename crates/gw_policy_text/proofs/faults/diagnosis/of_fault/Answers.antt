use Rattle.std.proofs.Common.{rules, ◌≡◌, ◌≢◌, ◌++◌, ℕ, List, refl}
use Rattle.toml.specs.View.{table_view}
use Rattle.gw_configuration.specs.declared.fault.ConfigFault.TheVariants.{Memory}
use Rattle.gw_configuration.specs.Shown.{shown}
use Rattle.gw_policy_text.specs.faults.Place.{place_words, value_at}
use Rattle.gw_policy_text.specs.faults.FaultWords.{fault_words}
use Rattle.gw_policy_text.specs.faults.Wanted.{wanted_words}
use Rattle.gw_configuration.specs.Located.{Located, located_view}
use Rattle.gw_policy_text.proofs.faults_lemmas.Explanations.{explained}
use Rattle.gw_policy_text.proofs.faults.diagnosis.of_fault.Goals as goal

pub returns : goal.returns
returns c found is =
    let located = located_view c.args.located.now in
    let top = table_view c.args.top.now in
    let text = c.args.text.now in
    let other : c.args.located.now.fault ≢ Memory = search rules in
    let same : c.args.located.now.fault ≡ c.args.fault = search rules in
    let place : c.put_place.new.line.items ≡ place_words located top text = search rules in
    let fault_named : c.put_fault.new.line.items ≡ place_words located top text ++ fault_words c.args.fault (value_at located top) = search rules in
    let whole : c.put_wanted.new.line.items ≡ place_words located top text ++ fault_words c.args.fault (value_at located top) ++ wanted_words located top = search rules in
    let words : c.in_ok-of_words.field-0 ≡ shown (place_words located top text ++ fault_words c.args.fault (value_at located top) ++ wanted_words located top) = search rules in
    explained text located top (λ (at : Located) (w : List ℕ). w ≡ wanted_words at top) c.args.fault c.in_ok-of_words.field-0 (wanted_words located top) found
    same words refl (is other)
