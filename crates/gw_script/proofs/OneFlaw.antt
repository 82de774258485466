-- A line has one first flaw.
use Rattle.std.proofs.Common.{◌≡◌, ◌<◌, ◌≤◌, ◌%◌, ◌∙◌, ◌∷◌, ◌++◌, ℕ, List, length, arith, refl, ap}
use Rattle.gw_addr.specs.Address.{text_of}
use Rattle.gw_addr.proofs.Lacking.{same_split}
use Rattle.gw_script.specs.Flaw.{HasEnd, HasNoForm, HasNoOctets, HasNoPort, HasNoSender, HasPort, HasReturn, IsEven, IsFlaw, IsOdd}
use Rattle.gw_script.specs.declared.flaw.LineFlaw.{LineFlaw}
use Rattle.gw_script.specs.declared.flaw.LineFlaw.TheVariants as flaw
use Rattle.gw_script.proofs.SearchLemmas.{no_space}

not_long : (line : List ℕ) → 4096 < length line → length line ≤ 4096 → ⊥
not_long line long most = omega (arith, long, most)

no_return : (line : List ℕ) → HasReturn line → HasEnd line → ⊥
no_return line h end = end.no_return h.returns

-- what begins with the digit of a port has a form, and a port
has_form : (ports : ℕ) (line rest : List ℕ) → HasNoForm line → HasPort ports line rest → ⊥
has_form ports line rest h k = h.no_begin _ _ k.begins

no_port : (ports : ℕ) (line rest : List ℕ) → HasNoPort ports line → HasPort ports line rest → ⊥
no_port ports line rest h k = h.no_port k.port k.first k.last (cc (h.begins, k.begins))

no_sender : (ports : ℕ) (line : List ℕ) (IsSo : List ℕ → Type 0) → HasNoSender ports line → HasNoOctets ports line IsSo → ⊥
no_sender ports line IsSo h k = h.no_sender k.from k.written k.address (cc (h.port.begins, k.port.begins))

not_odd : (ports : ℕ) (line : List ℕ) → HasNoOctets ports line IsOdd → HasNoOctets ports line IsEven → ⊥
not_odd ports line h k =
    let behind : text_of h.from ++ 32 ∷ h.written ≡ text_of k.from ++ 32 ∷ k.written = cc (h.port.begins, k.port.begins) in
    let parts = same_split 32 (text_of h.from) (text_of k.from) h.written k.written (no_space h.from h.address) (no_space k.from k.address) behind in
    h.is_so (ap (λ (t : List ℕ). length t % 2) parts.1 ∙ k.is_so)

pub one_flaw : (ports : ℕ) (line : List ℕ) (a b : LineFlaw) → IsFlaw ports line a → IsFlaw ports line b → a ≡ b
one_flaw ports line flaw.Long flaw.Long h k = refl
one_flaw ports line flaw.Long flaw.CarriageReturn h k = absurd (not_long line h k.most)
one_flaw ports line flaw.Long flaw.Form h k = absurd (not_long line h k.end.most)
one_flaw ports line flaw.Long flaw.Port h k = absurd (not_long line h k.end.most)
one_flaw ports line flaw.Long flaw.Address h k = absurd (not_long line h k.port.end.most)
one_flaw ports line flaw.Long flaw.OddDigits h k = absurd (not_long line h k.port.end.most)
one_flaw ports line flaw.Long flaw.Digits h k = absurd (not_long line h k.port.end.most)
one_flaw ports line flaw.CarriageReturn flaw.Long h k = absurd (not_long line k h.most)
one_flaw ports line flaw.CarriageReturn flaw.CarriageReturn h k = refl
one_flaw ports line flaw.CarriageReturn flaw.Form h k = absurd (no_return line h k.end)
one_flaw ports line flaw.CarriageReturn flaw.Port h k = absurd (no_return line h k.end)
one_flaw ports line flaw.CarriageReturn flaw.Address h k = absurd (no_return line h k.port.end)
one_flaw ports line flaw.CarriageReturn flaw.OddDigits h k = absurd (no_return line h k.port.end)
one_flaw ports line flaw.CarriageReturn flaw.Digits h k = absurd (no_return line h k.port.end)
one_flaw ports line flaw.Form flaw.Long h k = absurd (not_long line k h.end.most)
one_flaw ports line flaw.Form flaw.CarriageReturn h k = absurd (no_return line k h.end)
one_flaw ports line flaw.Form flaw.Form h k = refl
one_flaw ports line flaw.Form flaw.Port h k = absurd (h.no_begin k.first k.rest k.begins)
one_flaw ports line flaw.Form flaw.Address h k = absurd (has_form ports line _ h k.port)
one_flaw ports line flaw.Form flaw.OddDigits h k = absurd (has_form ports line _ h k.port)
one_flaw ports line flaw.Form flaw.Digits h k = absurd (has_form ports line _ h k.port)
one_flaw ports line flaw.Port flaw.Long h k = absurd (not_long line k h.end.most)
one_flaw ports line flaw.Port flaw.CarriageReturn h k = absurd (no_return line k h.end)
one_flaw ports line flaw.Port flaw.Form h k = absurd (k.no_begin h.first h.rest h.begins)
one_flaw ports line flaw.Port flaw.Port h k = refl
one_flaw ports line flaw.Port flaw.Address h k = absurd (no_port ports line _ h k.port)
one_flaw ports line flaw.Port flaw.OddDigits h k = absurd (no_port ports line _ h k.port)
one_flaw ports line flaw.Port flaw.Digits h k = absurd (no_port ports line _ h k.port)
one_flaw ports line flaw.Address flaw.Long h k = absurd (not_long line k h.port.end.most)
one_flaw ports line flaw.Address flaw.CarriageReturn h k = absurd (no_return line k h.port.end)
one_flaw ports line flaw.Address flaw.Form h k = absurd (has_form ports line _ k h.port)
one_flaw ports line flaw.Address flaw.Port h k = absurd (no_port ports line _ k h.port)
one_flaw ports line flaw.Address flaw.Address h k = refl
one_flaw ports line flaw.Address flaw.OddDigits h k = absurd (no_sender ports line _ h k)
one_flaw ports line flaw.Address flaw.Digits h k = absurd (no_sender ports line _ h k)
one_flaw ports line flaw.OddDigits flaw.Long h k = absurd (not_long line k h.port.end.most)
one_flaw ports line flaw.OddDigits flaw.CarriageReturn h k = absurd (no_return line k h.port.end)
one_flaw ports line flaw.OddDigits flaw.Form h k = absurd (has_form ports line _ k h.port)
one_flaw ports line flaw.OddDigits flaw.Port h k = absurd (no_port ports line _ k h.port)
one_flaw ports line flaw.OddDigits flaw.Address h k = absurd (no_sender ports line _ k h)
one_flaw ports line flaw.OddDigits flaw.OddDigits h k = refl
one_flaw ports line flaw.OddDigits flaw.Digits h k = absurd (not_odd ports line h k)
one_flaw ports line flaw.Digits flaw.Long h k = absurd (not_long line k h.port.end.most)
one_flaw ports line flaw.Digits flaw.CarriageReturn h k = absurd (no_return line k h.port.end)
one_flaw ports line flaw.Digits flaw.Form h k = absurd (has_form ports line _ k h.port)
one_flaw ports line flaw.Digits flaw.Port h k = absurd (no_port ports line _ k h.port)
one_flaw ports line flaw.Digits flaw.Address h k = absurd (no_sender ports line _ k h)
one_flaw ports line flaw.Digits flaw.OddDigits h k = absurd (not_odd ports line k h)
one_flaw ports line flaw.Digits flaw.Digits h k = refl
