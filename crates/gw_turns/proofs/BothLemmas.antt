-- Turns and stretches under two guards, by each of them.
use Rattle.std.proofs.Common.{◌≡◌, refl, ap, subst, ℕ, Bool, true, false, List, [], ◌∷◌, ◌&&◌}
use Rattle.std.specs.Prelude.{Result, Ok, Err}
use Rattle.gw_script.specs.Event.{Event}
use Rattle.gw_core.specs.History.{state_from}
use Rattle.gw_core.specs.State.{State}
use Rattle.gw_turns.specs.Both.{GoOnUnderFirst, GoOnUnderSecond, IsUnderFirst, IsUnderSecond}
use Rattle.gw_core.specs.Guard.{LetsAllGo, PassesBoth}
use Rattle.gw_turns.specs.Serve.{Turn, empty_turn, failed_turn, lost_event, taken_event, turn_events}
use Rattle.gw_turns.specs.Stretch.{AreGuarded, EndsStretch, GoOn, GuardsTurn, IsPassedAt, Moment, moment}
use Rattle.gw_core.specs.declared.guard.BothGuards.{BothGuards}
use Rattle.gw_turns.specs.declared.serving.ServeFault.{ServeFault}
use Rattle.gw_turns.specs.declared.serving.ServeFault.TheVariants.{Log, Memory, CountEnd}
use Rattle.gw_turns.specs.declared.stretch.StretchEnd.{StretchEnd}
use Rattle.gw_turns.specs.declared.stretch.StretchEnd.TheVariants.{Turns, Tick, Withheld}

first_of : (one two : Bool) → true ≡ (one && two) → one ≡ true
first_of true two is = refl
first_of false two is = absurd cc

second_of : (one two : Bool) → true ≡ (one && two) → two ≡ true
second_of true true is = refl
second_of true false is = absurd cc
second_of false two is = absurd cc

first_withholds : (one two : Bool) → false ≡ (one && two) → two ≡ true → one ≡ false
first_withholds true true is lets = absurd cc
first_withholds false two is lets = refl
first_withholds true false is lets = absurd cc

second_withholds : (one two : Bool) → false ≡ (one && two) → one ≡ true → two ≡ false
second_withholds true false is lets = refl
second_withholds true true is lets = absurd cc
second_withholds false two is lets = absurd cc

-- ---- one guard of a whole

-- what a guard may do about an event
abbrev pub Passing : Type 0 → Type 1
Passing G = G → State → Event → G → Bool → Type 0

-- a part of a guard passes each event that the whole passes: it lets go what the whole lets go
record IsPart {B K : Type 0} (part : B → K) (Whole : Passing B) (Alone : Passing K) : Type 0 where
  goes : (g h : B) (w : State) (event : Event) → Whole g w event h true → Alone (part g) w event (part h) true
  asked : (g h : B) (w : State) (event : Event) (passes : Bool) → Whole g w event h passes
      → (alone : Bool) × Alone (part g) w event (part h) alone

module _ {B K : Type 0} (part : B → K) (Whole : Passing B) (Alone : Passing K) (is : IsPart part Whole Alone) where
  part_turn : (g h : B) (w : State) (turn : Turn) → GuardsTurn Whole g w turn h → GuardsTurn Alone (part g) w turn (part h)
  part_turn g h w empty_turn p = ap part p
  part_turn g h w failed_turn p = ap part p
  part_turn g h w (lost_event event) p = ap part p
  part_turn g h w (taken_event event tries) p = is.goes g h w event p

  part_turns : (g h : B) (w : State) (turns : List Turn) → AreGuarded Whole g w turns h → AreGuarded Alone (part g) w turns (part h)
  unfolding AreGuarded
  part_turns g h w [] p = ap part p
  part_turns g h w (turn ∷ turns) p =
      (part p.0, part_turn g p.0 w turn p.1, part_turns p.0 h (state_from w (turn_events turn)) turns p.2)

  abbrev part_moment : Moment B → Moment K
  part_moment m = moment m.scene (part m.guard) m.served m.tally

  part_goes : (before after : Moment B) (turns : List Turn) → GoOn Whole before turns after
      → GoOn Alone (part_moment before) turns (part_moment after)
  part_goes before after turns p = record {
    went = p.went;
    guarded = part_turns before.guard after.guard before.scene.gateway turns p.guarded;
    counts = p.counts;
    tally = p.tally;
  }

  -- what it did about the last event, if that ended in a fault
  part_at : (fault : ServeFault) (g h : B) (w : State) (event : Event) → IsPassedAt Whole fault g w event h
      → IsPassedAt Alone fault (part g) w event (part h)
  part_at Log g h w event p = is.asked g h w event p.0 p.1
  part_at Memory g h w event p = ap part p
  part_at CountEnd g h w event p = ap part p

  -- what it withholds is withheld
  under_part : ((g h : B) (w : State) (event : Event) → Whole g w event h false → Alone (part g) w event (part h) false)
      → (count : ℕ) (before after : Moment B) (answer : Result StretchEnd ServeFault) (unwritten : List ℕ)
      → EndsStretch Whole count before answer unwritten after
      → EndsStretch Alone count (part_moment before) answer unwritten (part_moment after)
  under_part withholds count before after (Ok Turns) unwritten p = record {
    turns = p.turns;
    all = p.all;
    went = part_goes before after p.turns p.went;
    ticks = p.ticks;
  }
  under_part withholds count before after (Ok Tick) unwritten p = record {
    turns = p.turns;
    fewer = p.fewer;
    tries = p.tries;
    went = part_goes before after _ p.went;
    ticks = p.ticks;
  }
  under_part withholds count before after (Ok Withheld) unwritten p = record {
    turns = p.turns;
    fewer = p.fewer;
    then = part_moment p.then;
    went = part_goes before p.then p.turns p.went;
    event = p.event;
    last = record {
      logged = p.last.logged;
      passes = withholds p.then.guard after.guard p.then.scene.gateway p.event p.last.passes;
      counts = p.last.counts;
      tally = p.last.tally;
    };
  }
  under_part withholds count before after (Err fault) unwritten p = record {
    turns = p.turns;
    fewer = p.fewer;
    then = part_moment p.then;
    went = part_goes before p.then p.turns p.went;
    event = p.event;
    last = record {
      last = p.last.last;
      guard = part_at fault p.then.guard after.guard p.then.scene.gateway p.event p.last.guard;
      counts = p.last.counts;
      tally = p.last.tally;
    };
  }

-- ---- the first of two, and the second

first_is : {G H : Type 0} (First : Passing G) (Second : Passing H) → IsPart (λ (b : BothGuards G H). b.first) (PassesBoth First Second) First
first_is First Second = record {
  goes = λ g h w event p. subst (λ (b : Bool). First g.first w event h.first b) (first_of p.0 p.1 p.4) p.2;
  asked = λ g h w event passes p. (p.0, p.2);
}

second_is : {G H : Type 0} (First : Passing G) (Second : Passing H) → IsPart (λ (b : BothGuards G H). b.second) (PassesBoth First Second) Second
second_is First Second = record {
  goes = λ g h w event p. subst (λ (b : Bool). Second g.second w event h.second b) (second_of p.0 p.1 p.4) p.3;
  asked = λ g h w event passes p. (p.1, p.3);
}

pub first_goes : {G H : Type 0} (First : Passing G) (Second : Passing H) → GoOnUnderFirst First Second
first_goes First Second = part_goes (λ b. b.first) (PassesBoth First Second) First (first_is First Second)

pub second_goes : {G H : Type 0} (First : Passing G) (Second : Passing H) → GoOnUnderSecond First Second
second_goes First Second = part_goes (λ b. b.second) (PassesBoth First Second) Second (second_is First Second)

-- what the second lets go, the first withholds
first_withheld : {G H : Type 0} (First : Passing G) (Second : Passing H) → LetsAllGo Second → (g h : BothGuards G H) (w : State) (event : Event)
    → PassesBoth First Second g w event h false → First g.first w event h.first false
first_withheld First Second lets g h w event p = by p.1 refl
  where
    by : (two : Bool) → p.1 ≡ two → First g.first w event h.first false
    by true is = subst (λ (b : Bool). First g.first w event h.first b) (first_withholds p.0 p.1 p.4 is) p.2
    by false is = absurd (lets g.second h.second w event (subst (λ (b : Bool). Second g.second w event h.second b) is p.3))

-- what the first lets go, the second withholds
pub second_withheld : {G H : Type 0} (First : Passing G) (Second : Passing H) → LetsAllGo First → (g h : BothGuards G H) (w : State)
    (event : Event) → PassesBoth First Second g w event h false → Second g.second w event h.second false
second_withheld First Second lets g h w event p = by p.0 refl
  where
    by : (one : Bool) → p.0 ≡ one → Second g.second w event h.second false
    by true is = subst (λ (b : Bool). Second g.second w event h.second b) (second_withholds p.0 p.1 p.4 is) p.3
    by false is = absurd (lets g.first h.first w event (subst (λ (b : Bool). First g.first w event h.first b) is p.2))

pub under_first : {G H : Type 0} (First : Passing G) (Second : Passing H) → IsUnderFirst First Second
under_first First Second lets =
    under_part (λ b. b.first) (PassesBoth First Second) First (first_is First Second) (first_withheld First Second lets)

pub under_second : {G H : Type 0} (First : Passing G) (Second : Passing H) → IsUnderSecond First Second
under_second First Second lets =
    under_part (λ b. b.second) (PassesBoth First Second) Second (second_is First Second) (second_withheld First Second lets)
