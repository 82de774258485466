use Rattle.gw_codecs.proofs.services_lemmas.ReadBody.{read_again, read_takes}
use Rattle.gw_codecs.proofs.services_lemmas.WriteBody.{write_again, write_takes}
use Rattle.gw_codecs.proofs.services_lemmas.MultiBody.{multi_again, multi_takes}
use Rattle.gw_codecs.proofs.services_lemmas.WhoIsBody.{who_is_again, who_is_takes}
use Rattle.gw_codecs.proofs.services_lemmas.WhoHasBody.{who_has_again, who_has_takes}
use Rattle.gw_codecs.proofs.services_lemmas.IAmBody.{i_am_again, i_am_takes}
use Rattle.gw_codecs.proofs.services_lemmas.IHaveBody.{i_have_again, i_have_takes}
use Rattle.gw_codecs.proofs.services.laws.reading.Goals as goal

pub returns-clause-read : goal.returns-clause-read
returns-clause-read c = λ octets r fits. (λ e. read_takes octets r fits e, λ is. read_again octets r fits is)

pub returns-clause-write : goal.returns-clause-write
returns-clause-write c = λ octets r fits. (λ e. write_takes octets r fits e, λ is. write_again octets r fits is)

pub returns-clause-multi : goal.returns-clause-multi
returns-clause-multi c = λ octets r fits. (λ e. multi_takes octets r fits e, λ is. multi_again octets r fits is)

pub returns-clause-who_is : goal.returns-clause-who_is
returns-clause-who_is c = λ octets r fits. (λ e. who_is_takes octets r fits e, λ is. who_is_again octets r fits is)

pub returns-clause-who_has : goal.returns-clause-who_has
returns-clause-who_has c = λ octets r fits. (λ e. who_has_takes octets r fits e, λ is. who_has_again octets r fits is)

pub returns-clause-i_am : goal.returns-clause-i_am
returns-clause-i_am c = λ octets r fits. (λ e. i_am_takes octets r fits e, λ is. i_am_again octets r fits is)

pub returns-clause-i_have : goal.returns-clause-i_have
returns-clause-i_have c = λ octets r fits. (λ e. i_have_takes octets r fits e, λ is. i_have_again octets r fits is)
