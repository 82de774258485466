use Rattle.gw_codecs.proofs.services_lemmas.ReadBody.{read_faults}
use Rattle.gw_codecs.proofs.services_lemmas.WriteBody.{write_faults}
use Rattle.gw_codecs.proofs.services_lemmas.MultiBody.{multi_fault_again, multi_faults}
use Rattle.gw_codecs.proofs.services_lemmas.WhoIsBody.{who_is_faults}
use Rattle.gw_codecs.proofs.services_lemmas.WhoHasBody.{who_has_faults}
use Rattle.gw_codecs.proofs.services_lemmas.IAmBody.{i_am_faults}
use Rattle.gw_codecs.proofs.services_lemmas.IHaveBody.{i_have_faults}
use Rattle.gw_codecs.proofs.services.laws.faults.Goals as goal

pub returns-clause-read : goal.returns-clause-read
returns-clause-read c = read_faults

pub returns-clause-write : goal.returns-clause-write
returns-clause-write c = write_faults

pub returns-clause-multi : goal.returns-clause-multi
returns-clause-multi c = λ octets fault fits. (λ e. multi_faults octets fault fits e, λ is. multi_fault_again octets fault fits is)

pub returns-clause-who_is : goal.returns-clause-who_is
returns-clause-who_is c = who_is_faults

pub returns-clause-who_has : goal.returns-clause-who_has
returns-clause-who_has c = who_has_faults

pub returns-clause-i_am : goal.returns-clause-i_am
returns-clause-i_am c = i_am_faults

pub returns-clause-i_have : goal.returns-clause-i_have
returns-clause-i_have c = i_have_faults
