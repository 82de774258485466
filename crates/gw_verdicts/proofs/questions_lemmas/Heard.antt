-- Who hears a Who-Is, port by port.
use Rattle.std.proofs.Common.{◌≡◌, ◌-◌, ◌==◌, ◌&&◌, ◌||◌, ℕ, zero, suc, List, true, refl, ap, arith}
use Rattle.gw_relay.specs.Sends.{Sending}
use Rattle.gw_verdicts.specs.questions.Calls.{all_hear, hears}

pub none_left : (port asker : ℕ) (sends : List Sending) → port ≡ 0 → all_hear port asker sends ≡ true
unfolding all_hear
none_left zero asker sends is = refl
none_left (suc port) asker sends is = absurd (omega (arith, is))

pub one_more : (port asker : ℕ) (sends : List Sending) → ¬ (port ≡ 0)
    → all_hear port asker sends ≡ ((port == asker || hears port sends) && all_hear (port - 1) asker sends)
unfolding all_hear
one_more zero asker sends some = absurd (some refl)
one_more (suc port) asker sends some =
    let same : port ≡ suc port - 1 = omega arith in
    ap (λ (n : ℕ). (suc port == asker || hears (suc port) sends) && all_hear n asker sends) same
