-- The lines and the events of a script are the only ones.
use Rattle.std.proofs.Common.{◌≡◌, ℕ, ◌+◌, ◌≤◌, List, [], ◌∷◌, ◌++◌, length, drop, get_or, codes, Ok, inl, inr, refl, sym, ap, subst, ◌∙◌, arith, append_assoc}
use Rattle.std.specs.List.{AllByRecursion, flat_map}
use Rattle.std.proofs.lemmas.List.Concat.{flat_map-cons}
use Rattle.hex.specs.Hex.{decode_of}
use Rattle.hex.proofs.HexLemmas.{decode_of-same}
use Rattle.gw_addr.specs.declared.bip.BipAddr.{BipAddr}
use Rattle.gw_addr.specs.Address.{text_of}
use Rattle.gw_addr.proofs.Addresses.{same_texts}
use Rattle.gw_script.specs.Event.{Event, Datagram, Tick}
use Rattle.gw_script.specs.Script.{lines_of, IsLine, AreLines, Writes, WritesOctets}
use Rattle.gw_addr.specs.Text.{Lacks}
use Rattle.gw_script.proofs.SearchLemmas.{no_space}
use Rattle.gw_addr.proofs.Lacking.{same_split}
use Rattle.gw_script.proofs.LineLemmas.{lines_of-line, lines_of-last, lines_of-nil}

no_digits : (octets : List ℕ) → decode_of (45 ∷ []) ≡ Ok octets → ⊥
no_digits octets e = cc

same_octets : (text octets others : List ℕ) → WritesOctets text octets → WritesOctets text others → octets ≡ others
same_octets text octets others (inl h) (inl k) = h.1 ∙ sym k.1
same_octets text octets others (inl h) (inr k) = absurd (no_digits others (sym (ap decode_of h.0) ∙ k.1))
same_octets text octets others (inr h) (inl k) = absurd (no_digits octets (sym (ap decode_of k.0) ∙ h.1))
same_octets text octets others (inr h) (inr k) = decode_of-same text octets others h.1 k.1

not_a_space : ◌≡◌ {A = ℕ} 105 32 → ⊥
not_a_space e = cc

tick_is_no_datagram : (port : ℕ) (rest : List ℕ) → codes "tick" ≡ (48 + port) ∷ 32 ∷ rest → ⊥
tick_is_no_datagram port rest e = not_a_space (ap (λ (l : List ℕ). get_or l 1 0) e)

same_datagram : (port other : ℕ) (from sender : BipAddr) (octets others : List ℕ) → port ≡ other → from ≡ sender → octets ≡ others → Datagram port from octets ≡ Datagram other sender others
same_datagram port other from sender octets others p f o = cc

same_event : (ports : ℕ) (line : List ℕ) (e f : Event) → Writes ports line e → Writes ports line f → e ≡ f
same_event ports line Tick Tick h k = refl
same_event ports line Tick (Datagram port from octets) h k = absurd (tick_is_no_datagram port (text_of from ++ 32 ∷ k.written) (sym h ∙ k.spelled))
same_event ports line (Datagram port from octets) Tick h k = absurd (tick_is_no_datagram port (text_of from ++ 32 ∷ h.written) (sym k ∙ h.spelled))
same_event ports line (Datagram port from octets) (Datagram other sender others) h k =
    let spelled : (48 + port) ∷ 32 ∷ (text_of from ++ 32 ∷ h.written) ≡ (48 + other) ∷ 32 ∷ (text_of sender ++ 32 ∷ k.written) = sym h.spelled ∙ k.spelled in
    let heads : 48 + port ≡ 48 + other = ap (λ (l : List ℕ). get_or l 0 0) spelled in
    let tails : text_of from ++ 32 ∷ h.written ≡ text_of sender ++ 32 ∷ k.written = ap (λ (l : List ℕ). drop 2 l) spelled in
    let parts = same_split 32 (text_of from) (text_of sender) h.written k.written (no_space from h.address) (no_space sender k.address) tails in
    let same_port : port ≡ other = omega (arith, heads) in
    same_datagram port other from sender octets others same_port (same_texts from sender h.address k.address parts.0)
    (same_octets k.written octets others (subst (λ (t : List ℕ). WritesOctets t octets) parts.1 h.writes) k.writes)

pub one_event : (ports : ℕ) (line : List ℕ) (e f : Event) → IsLine ports line e → IsLine ports line f → e ≡ f
one_event ports line e f h k = same_event ports line e f h.writes k.writes

pub one_run : (ports : ℕ) (lines : List (List ℕ)) (events others : List Event) → AreLines ports lines events → AreLines ports lines others → events ≡ others
one_run ports [] [] [] h k = refl
one_run ports [] [] (f ∷ others) h k = absurd k
one_run ports [] (e ∷ events) others h k = absurd h
one_run ports (line ∷ lines) [] others h k = absurd h
one_run ports (line ∷ lines) (e ∷ events) [] h k = absurd k
one_run ports (line ∷ lines) (e ∷ events) (f ∷ others) h k =
    let first : e ≡ f = one_event ports line e f h.0 k.0 in
    let rest : events ≡ others = one_run ports lines events others h.1 k.1 in
    cc

pub last_line : (lines : List (List ℕ)) (last : List ℕ) → AllByRecursion (Lacks 10) lines → Lacks 10 last → 1 ≤ length last → lines_of (flat_map (λ line. line ++ 10 ∷ []) lines ++ last) ≡ lines ++ last ∷ []
last_line [] last all lacks some = lines_of-last last lacks (omega arith)
last_line (line ∷ lines) last all lacks some =
    let rest = flat_map (λ l. l ++ 10 ∷ []) lines ++ last in
    ap (λ (t : List ℕ). lines_of (t ++ last)) (flat_map-cons (λ l. l ++ 10 ∷ []) line lines)
    ∙ ap lines_of (append_assoc (line ++ 10 ∷ []) (flat_map (λ l. l ++ 10 ∷ []) lines) last ∙ append_assoc line (10 ∷ []) rest)
    ∙ lines_of-line line rest all.0 ∙ ap (λ (l : List (List ℕ)). line ∷ l) (last_line lines last all.1 lacks some)

pub ended_lines : (lines : List (List ℕ)) → AllByRecursion (Lacks 10) lines → lines_of (flat_map (λ line. line ++ 10 ∷ []) lines) ≡ lines
ended_lines [] all = lines_of-nil
ended_lines (line ∷ lines) all =
    let rest = flat_map (λ l. l ++ 10 ∷ []) lines in
    ap lines_of (flat_map-cons (λ l. l ++ 10 ∷ []) line lines ∙ append_assoc line (10 ∷ []) rest)
    ∙ lines_of-line line rest all.0 ∙ ap (λ (l : List (List ℕ)). line ∷ l) (ended_lines lines all.1)
