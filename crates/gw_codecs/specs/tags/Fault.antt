-- The faults of values and parameters that come from their tags.
use Rattle.gw_codecs.specs.declared.tags.fault.TagFault.{TagFault}
use Rattle.gw_codecs.specs.declared.tags.fault.TagFault.TheVariants as tags
use Rattle.gw_codecs.specs.declared.tags.fault.ValueFault.{ValueFault}
use Rattle.gw_codecs.specs.declared.tags.fault.ValueFault.TheVariants as values
use Rattle.gw_codecs.specs.declared.tags.fault.ContextFault.{ContextFault}
use Rattle.gw_codecs.specs.declared.tags.fault.ContextFault.TheVariants as parameters

-- the fault of a value whose tag has this fault
abbrev pub fault_of_tag : TagFault → ValueFault
fault_of_tag tags.Short = values.Short
fault_of_tag tags.BadTag = values.BadTag

-- the fault of a parameter whose tag has this fault
abbrev pub context_fault : TagFault → ContextFault
context_fault tags.Short = parameters.Short
context_fault tags.BadTag = parameters.BadTag
