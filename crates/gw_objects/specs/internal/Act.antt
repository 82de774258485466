-- What a write of the code does.
use Rattle.gw_tables.specs.priority.History as acts
use Rattle.gw_objects.specs.declared.value.PropertyValue.{PropertyValue}
use Rattle.gw_objects.specs.declared.write.Act.{Act}
use Rattle.gw_objects.specs.declared.write.Act.TheVariants as code

abbrev pub act_view : Act → acts.Act PropertyValue
act_view (code.Command priority value) = acts.Command priority value
act_view (code.Relinquish priority) = acts.Relinquish priority
act_view (code.SetDefault value) = acts.SetDefault value
