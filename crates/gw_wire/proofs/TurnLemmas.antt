-- Sockets in turn, from what is known of the ports at places one after the other.
use Rattle.std.proofs.Common.{◌≡◌, ◌≢◌, ◌∙◌, ◌+◌, ◌-◌, ◌<◌, ◌≤◌, ◌++◌, ◌∷◌, [], ℕ, zero, suc, Bool, true, false, not, List, length, get_or, ap, arith, refl, sym, subst}
use Rattle.std.specs.List.{All, range_with_len}
use Rattle.std.proofs.lemmas.List.{append_assoc}
use Rattle.std.proofs.lemmas.Grind.{flat_map-append}
use Rattle.std.proofs.lemmas.List.Elements.{All-append, All-cons, All-from_get_or, All-head, All-nil, All-tail}
use Rattle.std.proofs.lemmas.List.FromFn.{get_or-range_with_len, length-range_with_len}
use Rattle.std.specs.Prelude.{Option, Some, None}
use Rattle.gw_wire.specs.declared.sock_pair.SockPair.{SockPair}
use Rattle.gw_wire.specs.declared.ports.Heard.{Heard}
use Rattle.gw_wire.specs.internal.Asking.{AreAsked, AreAskedInTurn, turn_of}
use Rattle.gw_wire.specs.Ports.{AllPassed, AtPlace, AtSocket, IsHeard, Ports, Turn, asked, both, last_number, sockets_in_turn, sockets_of, turn_order}
use Rattle.gw_wire.specs.Socket.{Answer, IsPassed, Said}
use Rattle.gw_wire.specs.SockPair.{IsAnswer, socket}

-- ---- places one after the other

-- so many places, and then more
range_append : (from some more : ℕ) → range_with_len from (some + more) ≡ range_with_len from some ++ range_with_len (from + some) more
range_append from zero more =
    let all : zero + more ≡ more = omega arith in
    let same : from + zero ≡ from = omega arith in
    ap (λ n. range_with_len from n) all ∙ ap (λ a. range_with_len a more) (sym same)
range_append from (suc some) more =
    let all : suc (some + more) ≡ suc some + more = omega arith in
    let next : from + 1 + some ≡ from + suc some = omega arith in
    subst (λ n. range_with_len from n ≡ range_with_len from (suc some) ++ range_with_len (from + suc some) more) all
    (ap (λ places. from ∷ places) (range_append (from + 1) some more)
    ∙ ap (λ a. from ∷ (range_with_len (from + 1) some ++ range_with_len a more)) next)

-- the places up to one of them, that one, and those after it
range_at : (from place count : ℕ) → from ≤ place → place < from + count →
    range_with_len from count ≡ range_with_len from (place - from) ++ (place ∷ range_with_len (place + 1) (from + count - (place + 1)))
range_at from place count above below =
    let some : ℕ = place - from in
    let more : ℕ = from + count - (place + 1) in
    let all : some + suc more ≡ count = omega arith in
    let here : from + some ≡ place = omega arith in
    subst (λ n. range_with_len from n ≡ range_with_len from some ++ (place ∷ range_with_len (place + 1) more)) all
    (range_append from some (suc more) ∙ ap (λ a. range_with_len from some ++ (a ∷ range_with_len (a + 1) more)) here)

-- what holds of each of them holds of their list
all_places : (P : ℕ → Type 0) (from count : ℕ) → ((k : ℕ) → from ≤ k → k < from + count → P k) → All P (range_with_len from count)
all_places P from count each =
    All-from_get_or P (range_with_len from count) 0 (λ i below.
    let inside : i < count = subst (λ n. i < n) (length-range_with_len from count) below in
    subst P (sym (get_or-range_with_len from count i 0 inside)) (each (from + i) (omega arith) (omega arith)))

-- what holds of both sockets at each of some places holds of their sockets in turn
all_sockets : (P : Turn → Type 0) (own_first : List Bool) (places : List ℕ) →
    All (λ k. (own : Bool) → P (record { place = k; own = own })) places → All P (sockets_of own_first places)
all_sockets P own_first [] each = All-nil P
all_sockets P own_first (place ∷ places) each =
    let Q : ℕ → Type 0 = λ k. (own : Bool) → P (record { place = k; own = own }) in
    let here : Q place = All-head Q place places each in
    let first : Bool = get_or own_first place false in
    let one : Turn = record { place = place; own = first } in
    let two : Turn = record { place = place; own = not first } in
    All-append P (one ∷ (two ∷ [])) (sockets_of own_first places)
    (All-cons P one (two ∷ []) (here first) (All-cons P two [] (here (not first)) (All-nil P)))
    (all_sockets P own_first places (All-tail Q place places each))

-- ---- the socket that answered

no_is_yes : true ≢ false
no_is_yes same = cc

yes_is_no : false ≢ true
yes_is_no same = cc

module _ {S : Type 0} (looks : S → ℕ) (empty : S → Bool) (Answered : S → S → Answer → List ℕ → Type 0) where
  -- one of the two sockets at a place answered, after these, at which nothing waited, and before those, which stay
  heard_of : (before after : List (SockPair S)) (place : ℕ) (said : Said) (buffer : List ℕ) (sooner later : List Turn) (first own : Bool) →
      AllPassed looks empty Answered before after sooner →
      AtPlace before after place (λ one two. IsAnswer looks empty Answered first own one two said buffer) →
      All (AtSocket (λ one two. two ≡ one) before after) later →
      IsHeard looks empty Answered before after
      (sooner ++ (record { place = place; own = first } ∷ (record { place = place; own = not first } ∷ later)))
      (record { place = place; own = own }) said buffer
  heard_of before after place said buffer sooner later true true passed here stay =
      let other : Turn = record { place = place; own = false } in
      record {
        sooner = sooner;
        later = other ∷ later;
        order = refl;
        passed = passed;
        answered = λ d. (here d).answered;
        untouched = All-cons (AtSocket (λ one two. two ≡ one) before after) other later (λ d. (here d).first refl) stay;
      }
  heard_of before after place said buffer sooner later false false passed here stay =
      let other : Turn = record { place = place; own = true } in
      record {
        sooner = sooner;
        later = other ∷ later;
        order = refl;
        passed = passed;
        answered = λ d. (here d).answered;
        untouched = All-cons (AtSocket (λ one two. two ≡ one) before after) other later (λ d. (here d).first refl) stay;
      }
  heard_of before after place said buffer sooner later true false passed here stay =
      let P : Turn → Type 0 = AtSocket (IsPassed looks empty Answered) before after in
      let one : Turn = record { place = place; own = true } in
      let two : Turn = record { place = place; own = false } in
      record {
        sooner = sooner ++ (one ∷ []);
        later = later;
        order = sym (append_assoc sooner (one ∷ []) (two ∷ later));
        passed = All-append P sooner (one ∷ []) passed (All-cons P one [] (λ d. (here d).second yes_is_no) (All-nil P));
        answered = λ d. (here d).answered;
        untouched = stay;
      }
  heard_of before after place said buffer sooner later false true passed here stay =
      let P : Turn → Type 0 = AtSocket (IsPassed looks empty Answered) before after in
      let one : Turn = record { place = place; own = false } in
      let two : Turn = record { place = place; own = true } in
      record {
        sooner = sooner ++ (one ∷ []);
        later = later;
        order = sym (append_assoc sooner (one ∷ []) (two ∷ later));
        passed = All-append P sooner (one ∷ []) passed (All-cons P one [] (λ d. (here d).second no_is_yes) (All-nil P));
        answered = λ d. (here d).answered;
        untouched = stay;
      }

  -- the port at a place answered, after those at these places, at which nothing waited, and before those, which stay
  heard_at : (own_first : List Bool) (before after : List (SockPair S)) (heard : Heard) (buffer : List ℕ) (sooner later : List ℕ) →
      All (λ k. (own : Bool) → AtSocket (IsPassed looks empty Answered) before after (record { place = k; own = own })) sooner →
      AtPlace before after heard.place
      (λ one two. IsAnswer looks empty Answered (get_or own_first heard.place false) heard.own one two heard.said buffer) →
      All (λ k. (own : Bool) → AtSocket (λ one two. two ≡ one) before after (record { place = k; own = own })) later →
      IsHeard looks empty Answered before after (sockets_of own_first (sooner ++ (heard.place ∷ later))) (turn_of heard) heard.said buffer
  heard_at own_first before after heard buffer sooner later passed here stay =
      subst (λ turns. IsHeard looks empty Answered before after turns (turn_of heard) heard.said buffer)
      (sym (flat_map-append (both own_first) sooner (heard.place ∷ later)))
      (heard_of before after heard.place heard.said buffer (sockets_of own_first sooner) (sockets_of own_first later)
      (get_or own_first heard.place false) heard.own
      (all_sockets (AtSocket (IsPassed looks empty Answered) before after) own_first sooner passed) here
      (all_sockets (AtSocket (λ one two. two ≡ one) before after) own_first later stay))

  -- a port after the last answered
  heard_after : (own_first : List Bool) (last count : ℕ) (before after : List (SockPair S)) (heard : Heard) (buffer : List ℕ) →
      AreAsked looks empty Answered own_first last count before after (Some heard) buffer →
      IsHeard looks empty Answered before after (sockets_of own_first (turn_order last count)) (turn_of heard) heard.said buffer
  heard_after own_first last count before after heard buffer (above, below, stay, passed, here) =
      let place : ℕ = heard.place in
      let sooner : List ℕ = range_with_len last (place - last) in
      let next : List ℕ = range_with_len (place + 1) (last + (count - last) - (place + 1)) in
      let rest : List ℕ = range_with_len 0 last in
      let order : turn_order last count ≡ sooner ++ (place ∷ (next ++ rest)) =
      ap (λ places. places ++ rest) (range_at last place (count - last) above (omega arith)) ∙ append_assoc sooner (place ∷ next) rest in
      let Past : ℕ → Type 0 = λ k. (own : Bool) → AtSocket (IsPassed looks empty Answered) before after (record { place = k; own = own }) in
      let Kept : ℕ → Type 0 = λ k. (own : Bool) → AtSocket (λ one two. two ≡ one) before after (record { place = k; own = own }) in
      subst (λ places. IsHeard looks empty Answered before after (sockets_of own_first places) (turn_of heard) heard.said buffer) (sym order)
      (heard_at own_first before after heard buffer sooner (next ++ rest)
      (all_places Past last (place - last) (λ k over under own d. passed k over (omega arith) d own)) here
      (All-append Kept next rest
      (all_places Kept (place + 1) (last + (count - last) - (place + 1)) (λ k over under own d. ap (socket own) (stay.upper k over d)))
      (all_places Kept 0 last (λ k over under own d. ap (socket own) (stay.lower k (omega arith) d)))))

  -- nothing waited at the ports after the last, and one up to it answered
  heard_up_to : (own_first : List Bool) (last count : ℕ) (before now after : List (SockPair S)) (heard : Heard) (held buffer : List ℕ) →
      AreAsked looks empty Answered own_first last count before now None held →
      AreAsked looks empty Answered own_first 0 last now after (Some heard) buffer →
      IsHeard looks empty Answered before after (sockets_of own_first (turn_order last count)) (turn_of heard) heard.said buffer
  heard_up_to own_first last count before now after heard held buffer (one_stay, one_passed) (above, below, stay, passed, here) =
      let place : ℕ = heard.place in
      let first : List ℕ = range_with_len last (count - last) in
      let sooner : List ℕ = range_with_len 0 (place - 0) in
      let later : List ℕ = range_with_len (place + 1) (0 + last - (place + 1)) in
      let order : turn_order last count ≡ (first ++ sooner) ++ (place ∷ later) =
      ap (λ places. first ++ places) (range_at 0 place last above (omega arith)) ∙ sym (append_assoc first sooner (place ∷ later)) in
      let Past : ℕ → Type 0 = λ k. (own : Bool) → AtSocket (IsPassed looks empty Answered) before after (record { place = k; own = own }) in
      let Kept : ℕ → Type 0 = λ k. (own : Bool) → AtSocket (λ one two. two ≡ one) before after (record { place = k; own = own }) in
      subst (λ places. IsHeard looks empty Answered before after (sockets_of own_first places) (turn_of heard) heard.said buffer) (sym order)
      (heard_at own_first before after heard buffer (first ++ sooner) later
      (All-append Past first sooner
      (all_places Past last (count - last) (λ k over under own d.
      subst (λ two. IsPassed looks empty Answered (socket own (get_or before k d)) (socket own two)) (sym (stay.upper k (omega arith) d))
      (one_passed k over (omega arith) d own)))
      (all_places Past 0 (place - 0) (λ k over under own d.
      subst (λ one. IsPassed looks empty Answered (socket own one) (socket own (get_or after k d))) (one_stay.lower k (omega arith) d)
      (passed k over (omega arith) d own))))
      (λ d. subst (λ one. IsAnswer looks empty Answered (get_or own_first place false) heard.own one (get_or after place d) heard.said buffer)
      (one_stay.lower place below d) (here d))
      (all_places Kept (place + 1) (0 + last - (place + 1)) (λ k over under own d.
      ap (socket own) (stay.upper k over d ∙ one_stay.lower k (omega arith) d))))

  -- nothing waited at the ports after the last, and those up to it were asked then
  asked_then : (own_first : List Bool) (last count : ℕ) (before now after : List (SockPair S)) (heard : Option Heard) (held buffer : List ℕ) →
      AreAsked looks empty Answered own_first last count before now None held →
      AreAsked looks empty Answered own_first 0 last now after heard buffer →
      AreAskedInTurn looks empty Answered before after (sockets_of own_first (turn_order last count)) heard buffer
  asked_then own_first last count before now after (Some heard) held buffer one two =
      heard_up_to own_first last count before now after heard held buffer one two
  asked_then own_first last count before now after None held buffer (one_stay, one_passed) (stay, passed) =
      let first : List ℕ = range_with_len last (count - last) in
      let rest : List ℕ = range_with_len 0 last in
      let Past : ℕ → Type 0 = λ k. (own : Bool) → AtSocket (IsPassed looks empty Answered) before after (record { place = k; own = own }) in
      all_sockets (AtSocket (IsPassed looks empty Answered) before after) own_first (first ++ rest)
      (All-append Past first rest
      (all_places Past last (count - last) (λ k over under own d.
      subst (λ two. IsPassed looks empty Answered (socket own (get_or before k d)) (socket own two)) (sym (stay.upper k (omega arith) d))
      (one_passed k over (omega arith) d own)))
      (all_places Past 0 last (λ k over under own d.
      subst (λ one. IsPassed looks empty Answered (socket own one) (socket own (get_or after k d))) (one_stay.lower k (omega arith) d)
      (passed k over (omega arith) d own))))

  -- ---- the same of all ports

  -- a port after the last answered
  pub heard_first : (before : Ports S) (last count : ℕ) (after : List (SockPair S)) (heard : Heard) (buffer : List ℕ) →
      last ≡ last_number before.last → count ≡ length before.pairs →
      AreAsked looks empty Answered before.own_first last count before.pairs after (Some heard) buffer →
      IsHeard looks empty Answered before.pairs after (sockets_in_turn before) (turn_of heard) heard.said buffer
  heard_first before last count after heard buffer is all each =
      let Heard : List ℕ → Type 0 =
      λ places. IsHeard looks empty Answered before.pairs after (sockets_of before.own_first places) (turn_of heard) heard.said buffer in
      subst (λ n. Heard (turn_order (last_number before.last) n)) all
      (subst (λ n. Heard (turn_order n count)) is (heard_after before.own_first last count before.pairs after heard buffer each))

  -- nothing waited at the ports after the last, and those up to it were asked then
  pub asked_second : (before now : Ports S) (last count : ℕ) (after : List (SockPair S)) (heard : Option Heard) (held buffer : List ℕ) →
      last ≡ last_number before.last → count ≡ length before.pairs → now ≡ asked now.pairs before →
      AreAsked looks empty Answered before.own_first last count before.pairs now.pairs None held →
      AreAsked looks empty Answered now.own_first 0 last now.pairs after heard buffer →
      AreAskedInTurn looks empty Answered before.pairs after (sockets_in_turn before) heard buffer
  asked_second before now last count after heard held buffer is all rest one two =
      let Asked : List ℕ → Type 0 = λ places. AreAskedInTurn looks empty Answered before.pairs after (sockets_of before.own_first places) heard buffer in
      let firsts : now.own_first ≡ before.own_first = ap (λ (w : Ports S). w.own_first) rest in
      subst (λ n. Asked (turn_order (last_number before.last) n)) all
      (subst (λ n. Asked (turn_order n count)) is
      (asked_then before.own_first last count before.pairs now.pairs after heard held buffer one
      (subst (λ (firsts : List Bool). AreAsked looks empty Answered firsts 0 last now.pairs after heard buffer) firsts two)))
