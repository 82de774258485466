-- What is known of what asks, after a request and after its answer.
use Rattle.std.proofs.Common.{◌≡◌, ◌∙◌, ℕ, Bool, true, false, nat_eq, if◌then◌else◌, List, [], ◌∷◌, ◌++◌, Option, Some, None, Result, Ok, Err, ap, refl, subst, sym, append_assoc}
use Rattle.std.specs.Cmp.Lexicographic.{pointwise, same_text}
use Rattle.std.specs.Prelude.{⊤}
use Rattle.gw_system.specs.Request.{IsChecked, IsGiven, NamedTextAlone, reload_request}
use Rattle.gw_system.specs.declared.obstacle.Obstacle.TheVariants as obstacle
use Rattle.gw_system.specs.declared.reading.ReadFailure.TheVariants as reading
use Rattle.gw_system.specs.Requests.{Asking, Exchange, GoesOn, GoesOnKnown, IsAsking, asked, asked_to_say, asked_to_stop, known, nobody, silent}
use Rattle.gw_system.specs.declared.reading.ReadFailure.{ReadFailure}

-- if there was a request, somebody asks
pub asks_on : (a b : Asking) (read : Result (Option (List ℕ)) ReadFailure) → GoesOn a b (asked read ∷ []) → IsAsking b
asks_on nobody b read goes = absurd goes.1.0
asks_on silent b read goes = subst IsAsking (sym goes) tt
asks_on (known recorded) nobody read goes = absurd goes
asks_on (known recorded) silent read goes = tt
asks_on (known recorded) (known now) read goes = tt

-- so it is if it was one to stop
pub stops_on : (a b : Asking) → GoesOn a b (asked_to_stop ∷ []) → IsAsking b
stops_on nobody b goes = absurd goes.1.0
stops_on silent b goes = subst IsAsking (sym goes) tt
stops_on (known recorded) nobody goes = absurd goes
stops_on (known recorded) silent goes = tt
stops_on (known recorded) (known now) goes = tt

-- or one to say what is counted
pub says_on : (a b : Asking) → GoesOn a b (asked_to_say ∷ []) → IsAsking b
says_on nobody b goes = absurd goes.1.0
says_on silent b goes = subst IsAsking (sym goes) tt
says_on (known recorded) nobody goes = absurd goes
says_on (known recorded) silent goes = tt
says_on (known recorded) (known now) goes = tt

-- what was asked and then answered
pub goes_two : (a b c : Asking) (x y : Exchange) → GoesOn a b (x ∷ []) → GoesOn b c (y ∷ []) → GoesOn a c (x ∷ y ∷ [])
goes_two nobody b c x y first second =
    let later = subst (λ (o : Asking). GoesOn o c (y ∷ [])) first.0 second in (later.0, (first.1.0, later.1))
goes_two silent b c x y first second = subst (λ (o : Asking). GoesOn o c (y ∷ [])) first second
goes_two (known a) nobody c x y first second = absurd first
goes_two (known a) silent c x y first second = subst (λ (o : Asking). GoesOnKnown a o (x ∷ y ∷ [])) (sym second) tt
goes_two (known a) (known b) nobody x y first second = absurd second
goes_two (known a) (known b) silent x y first second = tt
goes_two (known a) (known b) (known c) x y first second =
    second ∙ ap (λ (l : List Exchange). l ++ y ∷ []) first ∙ append_assoc a (x ∷ []) (y ∷ [])

-- ---- a request that names a text

-- this text was given
abbrev gave : List ℕ → Result (Option (List ℕ)) ReadFailure
gave t = Ok (Some t)

-- the line of what was given is that of the request
abbrev LineIs : Result (Option (List ℕ)) ReadFailure → (request : List ℕ) → Type 0
LineIs (Ok (Some t)) request = reload_request t ≡ request
LineIs (Ok None) request = ⊤
LineIs (Err failure) request = ⊤

-- what is given, by whether the line is that of the text
by_line : (request t other : List ℕ) (same : Bool) → same ≡ pointwise nat_eq (reload_request t) request
    → gave other ≡ (if same then gave t else Err (reading.Unreadable obstacle.Changed))
    → (gave t ≡ gave other) × (reload_request other ≡ request)
by_line request t other true same given =
    let is = sym given in (is, subst (λ (r : Result (Option (List ℕ)) ReadFailure). LineIs r request) is (same_text (reload_request t) request same))
by_line request t other false same given = absurd cc

checked_alone : (request t other : List ℕ) → IsChecked request t (Ok (Some other))
    → (gave t ≡ gave other) × (reload_request other ≡ request)
checked_alone request t other is = by_line request t other (pointwise nat_eq (reload_request t) request) refl is

named_by : (o : ℕ) (request : List ℕ) (read : Result (Option (List ℕ)) ReadFailure) (other : List ℕ)
    → IsGiven (o ∷ request) read (Ok (Some other)) → (read ≡ Ok (Some other)) × (reload_request other ≡ o ∷ request)
named_by o request (Ok (Some t)) other is = checked_alone (o ∷ request) t other is
named_by o request (Ok None) other is = absurd cc
named_by o request (Err failure) other is = absurd cc

pub named_alone : NamedTextAlone
named_alone text other read is = named_by _ _ read other is
