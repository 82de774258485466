-- The count goes on line by line.
use Rattle.std.proofs.Common.{◌≡◌, ◌∙◌, ◌+◌, ◌<◌, ◌≤◌, ℕ, List, [], ◌∷◌, ◌++◌, length, take, drop, Option, Some, None, Result, Ok, Err, Bool, true, false, refl, sym, ap, subst, append_assoc, arith}
use Rattle.std.specs.Prelude.{◌==◌, IfSome, if◌then◌else◌, slice_index}
use Rattle.std.proofs.lemmas.List.{append-nil, drop_at, take_at}
use Rattle.gw_core.specs.Asked.{asked_at, run_asked}
use Rattle.gw_core.specs.History.{next, state_from, no_counts}
use Rattle.gw_core.specs.State.{State}
use Rattle.gw_core.specs.declared.asked.Asked.{Asked}
use Rattle.gw_core.proofs.HistoryLemmas.{announce_after, ports_stay}
use Rattle.gw_replay.proofs.ReplayLemmas.{are_length, are_more}
use Rattle.gw_configuration.specs.Configuration.{Configuration}
use Rattle.gw_replay.specs.Decisions.{AreCountedFrom, AreFirst, BeginsWithNone, IsNext, IsReport, entry_asked, fresh}
use Rattle.gw_replay.specs.Entry.{AreEntries, Announces, Comes, ScriptEntry, IsEntry, events_among, moved_by}
use Rattle.gw_script.specs.Reader.{BeginsLong}
use Rattle.gw_script.specs.Script.{lines_of}
use Rattle.gw_decisions.specs.tally.Tally.{IsTally, one_more, place_of, tally_text}
use Rattle.gw_decisions.specs.Counted.{AreCounted, counted_on}

-- these lines are done, the asks of their events are counted, and this text is left
pub record Progress (announces : Bool) (ports : ℕ) (start : State) (script first : List ℕ) (known : Option (List ℕ)) (w : State) (counts : List ℕ) : Type 0 where
  pub entries : List ScriptEntry
  pub done : List (List ℕ)
  pub left : List ℕ
  pub are : AreEntries announces ports done entries
  pub lines : lines_of script ≡ done ++ lines_of left
  pub known_is : known ≡ Some left
  pub state : w ≡ state_from start (events_among entries)
  pub counted : AreCounted first (run_asked start (events_among entries)) counts

-- a line that is too long writes nothing
long_writes_none : (announces : Bool) (ports : ℕ) (line : List ℕ) (e : ScriptEntry) → 4096 < length line → IsEntry announces ports line e → ⊥
long_writes_none announces ports line (Comes e) long is = omega (arith, long, is.most)
long_writes_none announces ports line Announces long is = omega (arith, long, ap length is.1)

pub too_long : (announces : Bool) (ports : ℕ) (text : List ℕ) → BeginsLong text → BeginsWithNone announces ports (lines_of text)
too_long announces ports text long =
    subst (λ (l : List (List ℕ)). BeginsWithNone announces ports l) (sym long.lines) (λ e is. long_writes_none announces ports _ e long.over is)

pub no_lines : (announces : Bool) (ports : ℕ) (text : List ℕ) → lines_of text ≡ [] → BeginsWithNone announces ports (lines_of text)
no_lines announces ports text none = subst (λ (l : List (List ℕ)). BeginsWithNone announces ports l) (sym none) tt

-- one line more asks what it asks
asked_more : (w : State) (l : List ScriptEntry) (e : ScriptEntry)
    → run_asked w (events_among (l ++ e ∷ [])) ≡ run_asked w (events_among l) ++ entry_asked (state_from w (events_among l)) e
unfolding run_asked state_from
asked_more w [] (Comes e) = append-nil (asked_at w e)
asked_more w [] Announces = refl
asked_more w (Comes x ∷ l) e =
    ap (λ (t : List Asked). asked_at w x ++ t) (asked_more (next w x) l e)
    ∙ sym (append_assoc (asked_at w x) (run_asked (next w x) (events_among l)) (entry_asked (state_from (next w x) (events_among l)) e))
asked_more w (Announces ∷ l) e = asked_more w l e

-- and leads on to the state after it
moved_more : (w : State) (l : List ScriptEntry) (e : ScriptEntry)
    → moved_by (state_from w (events_among l)) e ≡ state_from w (events_among (l ++ e ∷ []))
unfolding state_from
moved_more w [] (Comes e) = refl
moved_more w [] Announces = refl
moved_more w (Comes x ∷ l) e = moved_more (next w x) l e
moved_more w (Announces ∷ l) e = moved_more w l e

-- counts go on from list to list
counted_along : (k count : ℕ) (one two : List Asked) → counted_on k count (one ++ two) ≡ counted_on k (counted_on k count one) two
counted_along k count [] two = refl
counted_along k count (a ∷ one) two = counted_along k (if place_of a.verdict.by == k then one_more count else count) one two

-- what is counted of two lists, one after the other
counted_both : (a b c : List ℕ) (one two : List Asked) → AreCounted a one b → AreCounted b two c → AreCounted a (one ++ two) c
counted_both a b c one two p q = record {
  places = q.places ∙ p.places;
  each = λ k within.
      let inside : k < length b = omega (arith, within, p.places) in
      q.each k inside
      ∙ ap (λ (n : ℕ). counted_on k n two) (p.each k within)
      ∙ sym (counted_along k (slice_index a k) one two);
}

module _ (announces : Bool) (ports : ℕ) (start : State) (script first : List ℕ) where
  pub begins : (known : Option (List ℕ)) → known ≡ Some script → Progress announces ports start script first known start first
  unfolding run_asked state_from
  begins known is = record {
    entries = [];
    done = [];
    left = script;
    are = tt;
    lines = refl;
    known_is = is;
    state = refl;
    counted = record { places = refl; each = λ k within. refl };
  }

  module _ (known left : Option (List ℕ)) (w moved : State) (before after : List ℕ)
      (p : Progress announces ports start script first known w before) where
    pub goes_on : IsNext announces ports p.left left w moved before after (Ok true) → Progress announces ports start script first left moved after
    goes_on step =
        let so_far = events_among p.entries in
        let asks : entry_asked w step.entry ≡ entry_asked (state_from start so_far) step.entry =
        ap (λ (v : State). entry_asked v step.entry) p.state in
        record {
          entries = p.entries ++ step.entry ∷ [];
          done = p.done ++ step.line ∷ [];
          left = step.rest;
          are = are_more announces ports p.done p.entries step.line step.entry p.are step.writes;
          lines = p.lines ∙ ap (λ (l : List (List ℕ)). p.done ++ l) step.lines
              ∙ sym (append_assoc p.done (step.line ∷ []) (lines_of step.rest));
          known_is = step.remains;
          state = step.moves ∙ ap (λ (v : State). moved_by v step.entry) p.state ∙ moved_more start p.entries step.entry;
          counted = subst (λ (l : List Asked). AreCounted first l after) (sym (asked_more start p.entries step.entry))
              (counted_both first before after (run_asked start so_far) (entry_asked (state_from start so_far) step.entry) p.counted
              (subst (λ (l : List Asked). AreCounted before l after) asks step.counted));
        }

    pub ends : IsNext announces ports p.left left w moved before after (Ok false) → AreCountedFrom announces ports start script first after
    ends said =
        let many = are_length announces ports p.done p.entries p.are in
        let front : take (length p.entries) (lines_of script) ≡ p.done =
        ap (take (length p.entries)) p.lines ∙ take_at p.done (lines_of p.left) (length p.entries) many in
        let others : drop (length p.entries) (lines_of script) ≡ lines_of p.left =
        ap (drop (length p.entries)) p.lines ∙ drop_at p.done (lines_of p.left) (length p.entries) many in
        record {
          entries = p.entries;
          lines = subst (λ (l : List (List ℕ)). AreEntries announces ports l p.entries) (sym front) p.are;
          ends = subst (λ (l : List (List ℕ)). BeginsWithNone announces ports l) (sym others) said.0;
          counted = subst (λ (l : List ℕ). AreCounted first (run_asked start (events_among p.entries)) l) (sym said.1) p.counted;
        }

-- what follows from what holds of a value, if there is one
pub if_some : {A : Type 0} {P Q : A → Type 0} (o : Option A) → ((a : A) → P a → Q a) → IfSome o P → IfSome o Q
if_some None follows is = tt
if_some (Some a) follows is = follows a is

-- the counts of a script, begun with none, are what is reported
pub reported : (c : Configuration) (script first counts text : List ℕ) (announces : Bool) (ports : ℕ) (w : State) → w ≡ fresh c
    → announces ≡ w.relay.announce → ports ≡ length w.relay.ports → IsTally c.rules [] first
    → AreCountedFrom announces ports w script first counts → text ≡ tally_text c.rules counts → IsReport c script text
reported c script first counts text announces ports w is says many none counted lines =
    let same : ports ≡ length c.ports = many ∙ ap (λ (v : State). length v.relay.ports) is ∙ ports_stay c no_counts [] in
    let said : announces ≡ c.announce = says ∙ ap (λ (v : State). v.relay.announce) is ∙ announce_after c no_counts [] in
    record {
      counts = counts;
      decided = record {
        entries = counted.entries;
        lines = subst (λ (a : Bool). AreFirst a (length c.ports) script counted.entries) said
            (subst (λ (p : ℕ). AreFirst announces p script counted.entries) same counted.lines);
        ends = subst (λ (a : Bool). BeginsWithNone a (length c.ports) (drop (length counted.entries) (lines_of script))) said
            (subst (λ (p : ℕ). BeginsWithNone announces p (drop (length counted.entries) (lines_of script))) same counted.ends);
        places = counted.counted.places ∙ none.places;
        each = λ k within.
            let inside : k < length first = omega (arith, within, counted.counted.places) in
            counted.counted.each k inside
            ∙ ap (λ (n : ℕ). counted_on k n (run_asked w (events_among counted.entries))) (none.each k inside)
            ∙ ap (λ (v : State). counted_on k 0 (run_asked v (events_among counted.entries))) is;
      };
      lines = lines;
    }
