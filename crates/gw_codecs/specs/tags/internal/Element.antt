-- What is at the front of a list.
use Rattle.gw_codecs.specs.declared.tags.element.Element.{Element as RustElement}
use Rattle.gw_codecs.specs.declared.tags.element.Element.TheVariants.{Value, Opened, Closed}
use Rattle.gw_codecs.specs.tags.Walk.{Element, value, opened, closed}

abbrev pub element_view : RustElement → Element
element_view (Value rest) = value rest.now
element_view (Opened number rest) = opened number rest.now
element_view (Closed number rest) = closed number rest.now
