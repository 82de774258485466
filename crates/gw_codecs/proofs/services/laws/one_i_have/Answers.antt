use Rattle.std.proofs.Common.{sym, ◌∙◌}
use Rattle.gw_addr.proofs.Reading.{ok_is}
use Rattle.gw_codecs.specs.declared.services.fault.BodyFault.{BodyFault}
use Rattle.gw_codecs.proofs.services_lemmas.IHaveBody.{i_have_again}
use Rattle.gw_codecs.proofs.services.laws.one_i_have.Goals as goal

pub returns : goal.returns
returns c = λ octets r s fits is other. ok_is {F = BodyFault} r s (sym (i_have_again octets r fits is) ∙ i_have_again octets s fits other)
