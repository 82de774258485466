-- A run goes on by one event, line by line.
use Rattle.std.proofs.Common.{◌≡◌, inl, inr, ℕ, suc, ◌+◌, List, [], ◌∷◌, ◌++◌, length, take, drop, Option, Some, Result, Ok, Err, Bool, true, false, true≢false, refl, sym, ap, subst, ◌∙◌, arith, append_assoc}
use Rattle.std.specs.Prelude.{IsSomeAnd}
use Rattle.std.proofs.lemmas.List.{append-nil, take_at, drop_at, length-append}
use Rattle.std.proofs.lemmas.List.Concat.{flat_map-cons}
use Rattle.gw_script.specs.Event.{Event}
use Rattle.gw_replay.specs.declared.replaying.RunFault.{RunFault}
use Rattle.gw_replay.specs.declared.replaying.RunFault.TheVariants.{Read, Line, Write, Memory, CountEnd}
use Rattle.gw_configuration.specs.Configuration.{Configuration}
use Rattle.gw_core.specs.State.{State}
use Rattle.gw_core.specs.Effects.{passes_end}
use Rattle.gw_core.specs.History.{run_after, effects, IsStateAfter, state_after, no_counts}
use Rattle.gw_replay.specs.Entry.{AreEntries, Announces, Comes, ScriptEntry, IsEntry, MayWantMemory, PassesEndAt, entries_of, events_among, history_by, history_with, moved_by}
use Rattle.gw_replay.specs.Laws.{AnnouncementsChangeNothing, RunsAreWritten, UnannouncedAreEvents}
use Rattle.gw_script.specs.Script.{lines_of, IsLine, AreLines}
use Rattle.gw_replay.specs.Shown.{event_text, text_of_run, effects_text}
use Rattle.gw_replay.specs.Replay.{EventText, entry_text, played, run_text, text_after, FirstLines, Replays, RunsWhole, RunsToLine, RunsToEnd, RunsToMemory, RunsPart, RunsFront}
use Rattle.gw_replay.specs.internal.LineOutcome.{LineOutcome}
use Rattle.gw_replay.specs.Flawed.{HasFlaw, IsFirstFlaw}
use Rattle.gw_script.specs.Flaw.{IsFlaw}
use Rattle.gw_script.proofs.KnownTexts.{holds_known}
use Rattle.gw_script.proofs.Passing.{Passes, passes_on}
use Rattle.gw_script.specs.declared.flaw.LineFlaw.{LineFlaw}
use Rattle.gw_core.proofs.HistoryLemmas.{after_next, announce_after, ports_stay}

pub taken_more : (h : List Event) (l : List ScriptEntry) (e : ScriptEntry) → history_by h (l ++ e ∷ []) ≡ history_with (history_by h l) e
unfolding history_by
taken_more h [] e = refl
taken_more h (x ∷ l) e = taken_more (history_with h x) l e

-- the text goes on by that of one event more
text_more : (wording : EventText) (c : Configuration) (h : List Event) (l : List ScriptEntry) (e : ScriptEntry)
    → text_after wording c h (l ++ e ∷ []) ≡ text_after wording c h l ++ entry_text wording (state_after c no_counts (history_by h l)) e
unfolding text_after history_by
text_more wording c h [] e = append-nil (entry_text wording (state_after c no_counts h) e)
text_more wording c h (x ∷ l) e =
    ap (λ (t : List ℕ). entry_text wording (state_after c no_counts h) x ++ t) (text_more wording c (history_with h x) l e)
    ∙ sym (append_assoc (entry_text wording (state_after c no_counts h) x) (text_after wording c (history_with h x) l)
    (entry_text wording (state_after c no_counts (history_by (history_with h x) l)) e))

pub run_text_more : (wording : EventText) (c : Configuration) (l : List ScriptEntry) (e : ScriptEntry)
    → run_text wording c (l ++ e ∷ []) ≡ run_text wording c l ++ entry_text wording (played c l) e
run_text_more wording c l e = text_more wording c [] l e

-- the text of what each event does is that of the run
effects_told : (c : Configuration) (h l : List Event) → text_after event_text c h (entries_of l) ≡ text_of_run (run_after c no_counts h l)
unfolding text_after run_after
effects_told c h [] = refl
effects_told c h (e ∷ l) =
    ap (λ (t : List ℕ). event_text (state_after c no_counts h) e ++ t) (effects_told c (e ∷ h) l)
    ∙ sym (flat_map-cons effects_text (effects c no_counts h e) (run_after c no_counts (e ∷ h) l))

pub runs_are_told : RunsAreWritten
runs_are_told c l = effects_told c [] l

pub are_more : (a : Bool) (ports : ℕ) (lines : List (List ℕ)) (entries : List ScriptEntry) (line : List ℕ) (e : ScriptEntry)
    → AreEntries a ports lines entries → IsEntry a ports line e → AreEntries a ports (lines ++ line ∷ []) (entries ++ e ∷ [])
are_more a ports [] [] line e are is = (is, tt)
are_more a ports [] (x ∷ entries) line e are is = absurd are
are_more a ports (l ∷ lines) [] line e are is = absurd are
are_more a ports (l ∷ lines) (x ∷ entries) line e are is = (are.0, are_more a ports lines entries line e are.1 is)

pub are_length : (a : Bool) (ports : ℕ) (lines : List (List ℕ)) (entries : List ScriptEntry) → AreEntries a ports lines entries
    → length lines ≡ length entries
are_length a ports [] [] are = refl
are_length a ports [] (x ∷ entries) are = absurd are
are_length a ports (l ∷ lines) [] are = absurd are
are_length a ports (l ∷ lines) (x ∷ entries) are = ap suc (are_length a ports lines entries are.1)

-- ---- the laws of announcements

-- a configuration that doesn't announce knows no line but events
pub unannounced_are_events : UnannouncedAreEvents
unannounced_are_events ports [] [] are = (tt, refl)
unannounced_are_events ports [] (x ∷ entries) are = absurd are
unannounced_are_events ports (l ∷ lines) [] are = absurd are
unannounced_are_events ports (l ∷ lines) (Comes e ∷ entries) are =
    let later = unannounced_are_events ports lines entries are.1 in
    ((are.0, later.0), ap (λ (x : List ScriptEntry). Comes e ∷ x) later.1)
unannounced_are_events ports (l ∷ lines) (Announces ∷ entries) are = absurd (true≢false (sym are.0.0))

same_history : (h : List Event) (entries : List ScriptEntry) → history_by h entries ≡ history_by h (entries_of (events_among entries))
unfolding history_by
same_history h [] = refl
same_history h (Comes e ∷ entries) = same_history (e ∷ h) entries
same_history h (Announces ∷ entries) = same_history h entries

pub announcements_change_nothing : AnnouncementsChangeNothing
announcements_change_nothing c entries = ap (state_after c no_counts) (same_history [] entries)

-- how far a replay has come: these lines are done, which write these, and this text is left
pub record Progress (wording : EventText) (c : Configuration) (script before : List ℕ) (n : ℕ) (w : State) (text written : Option (List ℕ)) : Type 0 where
  pub entries : List ScriptEntry
  pub done : List (List ℕ)
  pub left : List ℕ
  pub are : AreEntries c.announce (length c.ports) done entries
  pub lines : lines_of script ≡ done ++ lines_of left
  pub text_is : text ≡ Some left
  pub written_is : written ≡ Some (before ++ run_text wording c entries)
  pub stands : IsStateAfter w c no_counts (history_by [] entries)
  pub number : n ≡ length entries + 1

-- what a turn says of what it began with
abbrev pub Turns : EventText → ℕ → State → State → Option (List ℕ) → Option (List ℕ) → Option (List ℕ) → Option (List ℕ) → Result Bool RunFault → Type 0
Turns wording n w moved text left written after r = (t b : List ℕ) → text ≡ Some t → written ≡ Some b → LineOutcome wording n w moved t left b after r

first_lines : (c : Configuration) (script : List ℕ) (done others : List (List ℕ)) (entries : List ScriptEntry)
    → AreEntries c.announce (length c.ports) done entries → lines_of script ≡ done ++ others → FirstLines c script entries
first_lines c script done others entries are lines =
    let front : take (length entries) (lines_of script) ≡ done = ap (take (length entries)) lines
    ∙ take_at done others (length entries) (are_length c.announce (length c.ports) done entries are) in
    subst (λ (l : List (List ℕ)). AreEntries c.announce (length c.ports) l entries) (sym front) are

other_lines : (c : Configuration) (script : List ℕ) (done others : List (List ℕ)) (entries : List ScriptEntry)
    → AreEntries c.announce (length c.ports) done entries → lines_of script ≡ done ++ others → drop (length entries) (lines_of script) ≡ others
other_lines c script done others entries are lines = ap (drop (length entries)) lines
    ∙ drop_at done others (length entries) (are_length c.announce (length c.ports) done entries are)

same_ports : (c : Configuration) (w : State) (h : List Event) → IsStateAfter w c no_counts h → length w.relay.ports ≡ length c.ports
same_ports c w h stands = ap (λ (x : State). length x.relay.ports) stands ∙ ports_stay c no_counts h

same_announce : (c : Configuration) (w : State) (h : List Event) → IsStateAfter w c no_counts h → w.relay.announce ≡ c.announce
same_announce c w h stands = ap (λ (x : State). x.relay.announce) stands ∙ announce_after c no_counts h

on_ports : (c : Configuration) (w : State) (h : List Event) (line : List ℕ) (e : ScriptEntry) → IsStateAfter w c no_counts h
    → IsEntry w.relay.announce (length w.relay.ports) line e → IsEntry c.announce (length c.ports) line e
on_ports c w h line e stands is =
    subst (λ (a : Bool). IsEntry a (length c.ports) line e) (same_announce c w h stands)
    (subst (λ (p : ℕ). IsEntry w.relay.announce p line e) (same_ports c w h stands) is)

-- an entry more leads on to the state after it
after_entry : (w moved : State) (c : Configuration) (h : List Event) (e : ScriptEntry) → moved ≡ moved_by w e → IsStateAfter w c no_counts h
    → IsStateAfter moved c no_counts (history_with h e)
after_entry w moved c h (Comes e) is stands = after_next w moved c no_counts h e is stands
after_entry w moved c h Announces is stands = is ∙ stands

told_on : (wording : EventText) (c : Configuration) (w : State) (before : List ℕ) (entries : List ScriptEntry) (e : ScriptEntry)
    → IsStateAfter w c no_counts (history_by [] entries)
    → (before ++ run_text wording c entries) ++ entry_text wording w e ≡ before ++ run_text wording c (entries ++ e ∷ [])
told_on wording c w before entries e stands =
    append_assoc before (run_text wording c entries) (entry_text wording w e)
    ∙ ap (λ (x : State). before ++ (run_text wording c entries ++ entry_text wording x e)) stands
    ∙ ap (λ (t : List ℕ). before ++ t) (sym (run_text_more wording c entries e))

pub begins : (wording : EventText) (c : Configuration) (script before : List ℕ) (w : State) (text written : Option (List ℕ)) → text ≡ Some script
    → written ≡ Some before → IsStateAfter w c no_counts [] → Progress wording c script before 1 w text written
unfolding history_by text_after
begins wording c script before w text written known held stands = record {
  entries = [];
  done = [];
  left = script;
  are = tt;
  lines = refl;
  text_is = known;
  written_is = held ∙ ap (λ (t : List ℕ). Some t) (sym (append-nil before));
  stands = stands;
  number = refl;
}

pub goes_on : (wording : EventText) (c : Configuration) (script before : List ℕ) (n : ℕ) (w moved : State) (text left written after : Option (List ℕ))
    → Progress wording c script before n w text written → Turns wording n w moved text left written after (Ok true)
    → Progress wording c script before (n + 1) moved left after
goes_on wording c script before n w moved text left written after p turns =
    let step = turns p.left (before ++ run_text wording c p.entries) p.text_is p.written_is in
    let done_lines : lines_of script ≡ (p.done ++ step.line ∷ []) ++ lines_of step.rest =
    p.lines ∙ ap (λ (l : List (List ℕ)). p.done ++ l) step.lines ∙ sym (append_assoc p.done (step.line ∷ []) (lines_of step.rest)) in
    let stood : IsStateAfter moved c no_counts (history_by [] (p.entries ++ step.entry ∷ [])) =
    after_entry w moved c (history_by [] p.entries) step.entry step.moves p.stands
    ∙ ap (state_after c no_counts) (sym (taken_more [] p.entries step.entry)) in
    let is = on_ports c w (history_by [] p.entries) step.line step.entry p.stands step.writes in
    record {
      entries = p.entries ++ step.entry ∷ [];
      done = p.done ++ step.line ∷ [];
      left = step.rest;
      are = are_more c.announce (length c.ports) p.done p.entries step.line step.entry p.are is;
      lines = done_lines;
      text_is = step.remains;
      written_is = step.appended ∙ ap (λ (t : List ℕ). Some t) (told_on wording c w before p.entries step.entry p.stands);
      stands = stood;
      number = omega (arith, p.number, length-append p.entries (step.entry ∷ []));
    }

pub ends_whole : (wording : EventText) (c : Configuration) (script before : List ℕ) (n : ℕ) (w moved : State) (text left written after : Option (List ℕ))
    → Progress wording c script before n w text written → Turns wording n w moved text left written after (Ok false)
    → IsSomeAnd after (RunsWhole wording c script before)
ends_whole wording c script before n w moved text left written after p turns =
    let said = turns p.left (before ++ run_text wording c p.entries) p.text_is p.written_is in
    let all : lines_of script ≡ p.done = p.lines ∙ ap (λ (l : List (List ℕ)). p.done ++ l) said.0 ∙ append-nil p.done in
    holds_known (RunsWhole wording c script before) after (before ++ run_text wording c p.entries) said.1
    (record { entries = p.entries; lines = subst (λ (l : List (List ℕ)). AreEntries c.announce (length c.ports) l p.entries) (sym all) p.are; text = refl })

pub ends_part : (wording : EventText) (c : Configuration) (script before : List ℕ) (n : ℕ) (w : State) (text written : Option (List ℕ))
    → Progress wording c script before n w text written → IsSomeAnd written (RunsPart wording c script before)
ends_part wording c script before n w text written p =
    holds_known (RunsPart wording c script before) written (before ++ run_text wording c p.entries) p.written_is
    (record { entries = p.entries; lines = first_lines c script p.done (lines_of p.left) p.entries p.are p.lines; text = refl })

ends_at_read : (wording : EventText) (c : Configuration) (script before : List ℕ) (n : ℕ) (w moved : State) (text left written after : Option (List ℕ))
    → Progress wording c script before n w text written → Turns wording n w moved text left written after (Err Read)
    → IsSomeAnd after (RunsPart wording c script before)
ends_at_read wording c script before n w moved text left written after p turns =
    holds_known (RunsPart wording c script before) after (before ++ run_text wording c p.entries)
    (turns p.left (before ++ run_text wording c p.entries) p.text_is p.written_is)
    (record { entries = p.entries; lines = first_lines c script p.done (lines_of p.left) p.entries p.are p.lines; text = refl })

ends_at_memory : (wording : EventText) (c : Configuration) (script before : List ℕ) (n : ℕ) (w moved : State) (text left written after : Option (List ℕ))
    → Progress wording c script before n w text written → Turns wording n w moved text left written after (Err Memory)
    → IsSomeAnd after (RunsToMemory wording c script before)
ends_at_memory wording c script before n w moved text left written after p turns =
    let said = turns p.left (before ++ run_text wording c p.entries) p.text_is p.written_is in
    let want = said.0 in
    holds_known (RunsToMemory wording c script before) after (before ++ run_text wording c p.entries) said.1 (record {
      entries = p.entries;
      lines = first_lines c script p.done (lines_of p.left) p.entries p.are p.lines;
      cause = inr (record {
        line = want.line;
        rest = want.others;
        stands = other_lines c script p.done (lines_of p.left) p.entries p.are p.lines ∙ want.lines;
        entry = want.entry;
        writes = on_ports c w (history_by [] p.entries) want.line want.entry p.stands want.writes;
        wants = subst (λ (x : State). MayWantMemory x want.entry) p.stands want.wants;
      });
      text = refl;
    })

-- where memory is wanted before the first line
pub ends_before : (wording : EventText) (c : Configuration) (script before : List ℕ) (written : Option (List ℕ)) → written ≡ Some before
    → IsSomeAnd written (RunsToMemory wording c script before)
unfolding text_after
ends_before wording c script before written is = holds_known (RunsToMemory wording c script before) written before is
    (record { entries = []; lines = tt; cause = inl refl; text = sym (append-nil before) })

ends_at_line : (wording : EventText) (c : Configuration) (script before : List ℕ) (n : ℕ) (w moved : State) (text left written after : Option (List ℕ))
    (m : ℕ)
    → Progress wording c script before n w text written → Turns wording n w moved text left written after (Err (Line m))
    → IsSomeAnd after (RunsToLine wording m c script before)
ends_at_line wording c script before n w moved text left written after m p turns =
    let said = turns p.left (before ++ run_text wording c p.entries) p.text_is p.written_is in
    let none = said.1 in
    holds_known (RunsToLine wording m c script before) after (before ++ run_text wording c p.entries) said.2 (record {
      entries = p.entries;
      number = said.0 ∙ p.number;
      lines = first_lines c script p.done (lines_of p.left) p.entries p.are p.lines;
      line = none.line;
      rest = none.others;
      stands = other_lines c script p.done (lines_of p.left) p.entries p.are p.lines ∙ none.lines;
      no_entry = λ e is. none.no_entry e
          (subst (λ (q : ℕ). IsEntry w.relay.announce q none.line e) (sym (same_ports c w (history_by [] p.entries) p.stands))
          (subst (λ (a : Bool). IsEntry a (length c.ports) none.line e) (sym (same_announce c w (history_by [] p.entries) p.stands)) is));
      text = refl;
    })

pub flaw_at_line : (wording : EventText) (c : Configuration) (script before : List ℕ) (n : ℕ) (w moved : State) (text left written after : Option (List ℕ))
    (m : ℕ) (flaw : LineFlaw)
    → Progress wording c script before n w text written → Turns wording n w moved text left written after (Err (Line m))
    → ((t : List ℕ) → text ≡ Some t → IsFirstFlaw (length w.relay.ports) t flaw)
    → IsSomeAnd after (λ (a : List ℕ). HasFlaw (length c.ports) m script flaw)
flaw_at_line wording c script before n w moved text left written after m flaw p turns first =
    let said = turns p.left (before ++ run_text wording c p.entries) p.text_is p.written_is in
    let one = first p.left p.text_is in
    holds_known (λ (a : List ℕ). HasFlaw (length c.ports) m script flaw) after (before ++ run_text wording c p.entries) said.2 (record {
      before = p.done;
      line = one.line;
      others = one.others;
      lines = p.lines ∙ ap (λ (l : List (List ℕ)). p.done ++ l) one.lines;
      number = omega (arith, said.0, p.number, are_length c.announce (length c.ports) p.done p.entries p.are);
      is = subst (λ (q : ℕ). IsFlaw q one.line flaw) (same_ports c w (history_by [] p.entries) p.stands) one.is;
    })

-- what would pass the end of a count is an event
past_end : (a : Bool) (ports : ℕ) (line : List ℕ) (w : State) (entry : ScriptEntry) → IsEntry a ports line entry → PassesEndAt w entry
    → (e : Event) × IsLine ports line e × (passes_end w e ≡ true)
past_end a ports line w (Comes e) is passes = (e, is, passes)
past_end a ports line w Announces is passes = absurd passes

ends_at_end : (wording : EventText) (c : Configuration) (script before : List ℕ) (n : ℕ) (w moved : State) (text left written after : Option (List ℕ))
    → Progress wording c script before n w text written → Turns wording n w moved text left written after (Err CountEnd)
    → IsSomeAnd after (RunsToEnd wording c script before)
ends_at_end wording c script before n w moved text left written after p turns =
    let said = turns p.left (before ++ run_text wording c p.entries) p.text_is p.written_is in
    let past = said.0 in
    let last = past_end c.announce (length c.ports) past.line w past.entry
    (on_ports c w (history_by [] p.entries) past.line past.entry p.stands past.writes) past.passes in
    holds_known (RunsToEnd wording c script before) after (before ++ run_text wording c p.entries) said.1 (record {
      entries = p.entries;
      lines = first_lines c script p.done (lines_of p.left) p.entries p.are p.lines;
      line = past.line;
      rest = past.others;
      stands = other_lines c script p.done (lines_of p.left) p.entries p.are p.lines ∙ past.lines;
      event = last.0;
      writes = last.1;
      passes = ap (λ (x : State). passes_end x last.0) (sym p.stands) ∙ last.2;
      text = refl;
    })

ends_at_write : (wording : EventText) (c : Configuration) (script before : List ℕ) (n : ℕ) (w moved : State) (text left written after : Option (List ℕ))
    → Progress wording c script before n w text written → Turns wording n w moved text left written after (Err Write)
    → IsSomeAnd after (RunsFront wording c script before)
ends_at_write wording c script before n w moved text left written after p turns =
    let cut_step = turns p.left (before ++ run_text wording c p.entries) p.text_is p.written_is in
    let so_far = before ++ run_text wording c p.entries in
    let is = on_ports c w (history_by [] p.entries) cut_step.line cut_step.entry p.stands cut_step.writes in
    let lines : lines_of script ≡ (p.done ++ cut_step.line ∷ []) ++ cut_step.others =
    p.lines ∙ ap (λ (l : List (List ℕ)). p.done ++ l) cut_step.lines ∙ sym (append_assoc p.done (cut_step.line ∷ []) cut_step.others) in
    holds_known (RunsFront wording c script before) after (so_far ++ cut_step.front) cut_step.appended (record {
      entries = p.entries ++ cut_step.entry ∷ [];
      lines = first_lines c script (p.done ++ cut_step.line ∷ []) cut_step.others (p.entries ++ cut_step.entry ∷ [])
          (are_more c.announce (length c.ports) p.done p.entries cut_step.line cut_step.entry p.are is) lines;
      front = run_text wording c p.entries ++ cut_step.front;
      unwritten = cut_step.unwritten;
      parts = sym (told_on wording c w [] p.entries cut_step.entry p.stands) ∙ ap (λ (t : List ℕ). run_text wording c p.entries ++ t) cut_step.parts
          ∙ sym (append_assoc (run_text wording c p.entries) cut_step.front cut_step.unwritten);
      text = append_assoc before (run_text wording c p.entries) cut_step.front;
    })

ends_at_fault : (wording : EventText) (c : Configuration) (script before : List ℕ) (n : ℕ) (w moved : State) (text left written after : Option (List ℕ))
    (fault : RunFault)
    → Progress wording c script before n w text written → Turns wording n w moved text left written after (Err fault)
    → IsSomeAnd after (Replays wording c (Err fault) script before)
ends_at_fault wording c script before n w moved text left written after (Line m) = ends_at_line wording c script before n w moved text left written after m
ends_at_fault wording c script before n w moved text left written after CountEnd = ends_at_end wording c script before n w moved text left written after
ends_at_fault wording c script before n w moved text left written after Read = ends_at_read wording c script before n w moved text left written after
ends_at_fault wording c script before n w moved text left written after Write = ends_at_write wording c script before n w moved text left written after
ends_at_fault wording c script before n w moved text left written after Memory = ends_at_memory wording c script before n w moved text left written after

pub ends_passed : (wording : EventText) (c : Configuration) (script before : List ℕ) (n : ℕ) (w moved : State) (text left written after : Option (List ℕ))
    (fault : RunFault) (r : Result (Unit {0}) RunFault)
    → Passes fault r → Progress wording c script before n w text written → Turns wording n w moved text left written after (Err fault)
    → IsSomeAnd after (Replays wording c r script before)
ends_passed wording c script before n w moved text left written after fault r passes p turns =
    passes_on (λ (q : Result (Unit {0}) RunFault). IsSomeAnd after (Replays wording c q script before)) fault r passes
    (ends_at_fault wording c script before n w moved text left written after fault p turns)
