-- What a ReadPropertyMultiple request asks for, as contracts see it.
use Rattle.std.specs.Prelude.{List, map}
use Rattle.gw_codecs.specs.declared.services.multi_req.MultiReq.{MultiReq}
use Rattle.gw_codecs.specs.services.Multi.{Reference, reference_view}

-- the references of a request
abbrev pub multi_view : MultiReq → List Reference
multi_view m = map reference_view m.references.items
