-- Ports at places one after the other, which are asked until one answers.
use Rattle.std.specs.Prelude.{ℕ, ◌+◌, ◌≤◌, ◌<◌, Bool, false, List, slice_index_or, Option, Some, None}
use Rattle.gw_wire.specs.declared.sock_pair.SockPair.{SockPair}
use Rattle.gw_wire.specs.declared.ports.Heard.{Heard}
use Rattle.gw_wire.specs.Ports.{AllPassed, AtPlace, IsHeard, Stay, Turn}
use Rattle.gw_wire.specs.Socket.{Answer}
use Rattle.gw_wire.specs.SockPair.{ArePassed, IsAnswer}

-- The pair at each of these places was asked, and nothing waited there.
abbrev pub ArePassedFrom : {S : Type 0} → (S → ℕ) → (S → Bool) → (S → S → Answer → List ℕ → Type 0)
    → ℕ → ℕ → List (SockPair S) → List (SockPair S) → Type 0
ArePassedFrom looks empty Answered from to before after =
    (place : ℕ) → from ≤ place → place < to → AtPlace before after place (ArePassed looks empty Answered)

-- These places were asked in turn, and nothing waited at any; or nothing waited at the first of
-- them, and the next one answered.
abbrev pub AreAsked : {S : Type 0} → (S → ℕ) → (S → Bool) → (S → S → Answer → List ℕ → Type 0)
    → List Bool → ℕ → ℕ → List (SockPair S) → List (SockPair S) → Option Heard → List ℕ → Type 0
AreAsked looks empty Answered own_first from to before after None buffer =
    Stay from to before after × ArePassedFrom looks empty Answered from to before after
AreAsked looks empty Answered own_first from to before after (Some heard) buffer =
    (from ≤ heard.place) × (heard.place < to) × Stay from (heard.place + 1) before after
    × ArePassedFrom looks empty Answered from heard.place before after
    × AtPlace before after heard.place
    (λ one two. IsAnswer looks empty Answered (slice_index_or own_first heard.place false) heard.own one two heard.said buffer)

-- the turn of what was heard
abbrev pub turn_of : Heard → Turn
turn_of heard = record { place = heard.place; own = heard.own }

-- The sockets of all ports were asked in turn, and nothing waited at any; or one was heard.
abbrev pub AreAskedInTurn : {S : Type 0} → (S → ℕ) → (S → Bool) → (S → S → Answer → List ℕ → Type 0)
    → List (SockPair S) → List (SockPair S) → List Turn → Option Heard → List ℕ → Type 0
AreAskedInTurn looks empty Answered before after turns None buffer = AllPassed looks empty Answered before after turns
AreAskedInTurn looks empty Answered before after turns (Some heard) buffer =
    IsHeard looks empty Answered before after turns (turn_of heard) heard.said buffer
