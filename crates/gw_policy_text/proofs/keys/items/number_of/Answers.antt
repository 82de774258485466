use Rattle.std.proofs.Common.{rules, ◌≡◌, ◌∙◌, ap, sym}
use Rattle.gw_configuration.specs.declared.shape.Names.TheVariants.{Services, ObjectTypes, Properties}
use Rattle.gw_policy_text.specs.keys.Items.{number_of}
use Rattle.gw_policy_text.proofs.keys_lemmas.Bounds.{held}
use Rattle.gw_policy_text.proofs.keys.items.number_of.Goals as goal

pub returns-in-Services-clause-held : goal.returns-in-Services-clause-held
returns-in-Services-clause-held c =
    let is : c.args.names ≡ Services = search rules in
    held c.args.names c.args.name.now c.service_number.result (c.service_number.ensures ∙ ap (λ n. number_of n c.args.name.now) (sym is))

pub returns-in-ObjectTypes-clause-held : goal.returns-in-ObjectTypes-clause-held
returns-in-ObjectTypes-clause-held c =
    let is : c.args.names ≡ ObjectTypes = search rules in
    held c.args.names c.args.name.now c.object_type_number.result (c.object_type_number.ensures ∙ ap (λ n. number_of n c.args.name.now) (sym is))

pub returns-in-Properties-clause-held : goal.returns-in-Properties-clause-held
returns-in-Properties-clause-held c =
    let is : c.args.names ≡ Properties = search rules in
    held c.args.names c.args.name.now c.property_number.result (c.property_number.ensures ∙ ap (λ n. number_of n c.args.name.now) (sym is))
