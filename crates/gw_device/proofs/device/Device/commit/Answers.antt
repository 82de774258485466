use Rattle.std.proofs.Common.{◌≡◌, ◌∷◌, sym, ap, subst}
use Rattle.gw_objects.specs.History.{IsStateAfter}
use Rattle.gw_objects.specs.Objects.{Database}
use Rattle.gw_device.proofs.device.Device.commit.Goals as goal

pub returns-clause-stands : goal.returns-clause-stands
returns-clause-stands c = λ starts history stand.
    let same : c.args.self.now.states ≡ c.self.inside.objects.states = sym (ap (λ (d : Database). d.states) c.self.view_is) in
    subst (λ write. IsStateAfter starts (write ∷ history) c.put.new.self.states) c.into_put.ensures
    (c.put.ensures.stands starts history (subst (IsStateAfter starts history) same stand))
