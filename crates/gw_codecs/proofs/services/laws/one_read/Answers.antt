use Rattle.std.proofs.Common.{sym, ◌∙◌}
use Rattle.gw_addr.proofs.Reading.{ok_is}
use Rattle.gw_codecs.specs.declared.services.fault.BodyFault.{BodyFault}
use Rattle.gw_codecs.proofs.services_lemmas.ReadBody.{read_again}
use Rattle.gw_codecs.proofs.services.laws.one_read.Goals as goal

pub returns : goal.returns
returns c = λ octets r s fits is other. ok_is {F = BodyFault} r s (sym (read_again octets r fits is) ∙ read_again octets s fits other)
