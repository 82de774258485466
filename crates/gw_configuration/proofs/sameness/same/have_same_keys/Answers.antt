use Rattle.std.proofs.Common.{◌∙◌, ap, sym}
use Rattle.gw_configuration.specs.Subnet.{keys_of}
use Rattle.gw_configuration.proofs.sameness_lemmas.SubnetLaw.{of_keys}
use Rattle.gw_configuration.proofs.sameness.same.have_same_keys.Goals as goal

pub returns : goal.returns
returns c = (
  λ same.
      of_keys c.args.subnet c.args.other c.fits.ensures c.fits-2.ensures
      (sym c.keys-keys.ensures.keys ∙ c.is_same.ensures.0 same ∙ c.keys-others.ensures.keys),
  λ one. c.is_same.ensures.1 (c.keys-keys.ensures.keys ∙ ap keys_of one ∙ sym c.keys-others.ensures.keys),
)
