use Rattle.std.proofs.Common.{◌≡◌, ◌++◌, ℕ, List, Some, drop}
use Rattle.gw_rules.specs.declared.rule.Rule.{Rule}
use Rattle.gw_objects.specs.declared.property.Property.{Property}
use Rattle.gw_rules.specs.declared.verdict.Verdict.{Verdict}
use Rattle.gw_rules.specs.Ask.{Ask}
use Rattle.gw_codecs.specs.tags.Object.{object_view}
use Rattle.gw_device.specs.Multi.{Part, multi_ask, properties_part}
use Rattle.gw_device.specs.internal.Limit.{extended}
use Rattle.gw_device.proofs.access.Access.put_properties.Given as goal

-- what is put and what is left are all properties; the ask becomes that for any property once that is set in it
abbrev pub invariant-loop-property : goal.invariant-loop-property
invariant-loop-property g l =
    let d = l.self.objects.now in
    let context = l.self.context.now in
    let object = object_view l.object in
    let part : List Rule → List Property → Part = λ rules. properties_part rules d context object in
    let kept_of : List Rule → List Property → List Verdict =
    λ rules properties. g.A.Asker.kept_of rules (part rules properties).asks in
    let left = drop l.property-index l.properties in
    record {
      ask : (property number : ℕ) → property ≡ number
          → ◌≡◌ {A = Ask} (record l.ask { property = Some property }) (multi_ask d context object number);
      octets : (rules : List Rule) → g.A.Asker.StandsFor l.fn.asker rules
          → extended l.out (part rules left).octets ≡ extended l.fn.out (part rules l.properties).octets;
      kept : (rules : List Rule) → g.A.Asker.StandsFor l.fn.asker rules
          → g.A.Asker.kept l.asker ++ kept_of rules left ≡ g.A.Asker.kept l.fn.asker ++ kept_of rules l.properties;
      stays : (rules : List Rule) → g.A.Asker.StandsFor l.fn.asker rules → g.A.Asker.StandsFor l.asker rules;
      picks : g.A.Asker.picks l.asker ≡ g.A.Asker.picks l.fn.asker;
    }
