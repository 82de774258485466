-- Scripts that are read whole before they are played, and configurations of one text.
use Rattle.std.proofs.Common.{◌≡◌, ◌∙◌, ◌++◌, inl, inr, refl, sym, subst, rules, ℕ, List, [], ◌∷◌, length, take, Option, Some, None, Result, Ok, Err, Bool, true, false}
use Rattle.std.proofs.lemmas.List.{append-nil}
use Rattle.std.specs.Io.KnownBytes.{IsAtEnd, Keeps, prepend_known}
use Rattle.gw_configuration.specs.Configuration.{Configuration}
use Rattle.gw_replay.specs.Replay.{RunsPart, RunsToMemory, EventText, text_after}
use Rattle.gw_script.proofs.KnownTexts.{holds_known}
use Rattle.gw_script.specs.Script.{AreLines, lines_of}
use Rattle.gw_ending.specs.reading.Configured.{IsConfigurationOf}
use Rattle.gw_shell.specs.Deciding.{IsDecidedAt, IsUnread, ReportsAsks}
use Rattle.gw_shell.specs.Program.{LeavesCounted}
use Rattle.gw_shell.specs.Replay.{Plays, translating}
use Rattle.gw_ending.specs.declared.fault.Fault.{Fault}

-- a text is one configuration
pub same_configuration : (text : Result (List ℕ) Fault) (a b : Configuration) → IsConfigurationOf text (Ok a) → IsConfigurationOf text (Ok b)
    → a ≡ b
same_configuration (Ok text) a b first second = cc
same_configuration (Err f) a b first second = search rules

no_lines_yet : (ports : ℕ) (lines : List (List ℕ)) → AreLines ports (take 0 lines) []
no_lines_yet ports [] = tt
no_lines_yet ports (line ∷ lines) = tt

none_read : (said : EventText) (c : Configuration) (script before : List ℕ) → RunsPart said c script before before
unfolding text_after
none_read said c script before = record {
  entries = [];
  lines = no_lines_yet (length c.ports) (lines_of script);
  text = sym (append-nil before);
}

none_held : (said : EventText) (c : Configuration) (script before : List ℕ) → RunsToMemory said c script before before
unfolding text_after
none_held said c script before = record {
  entries = [];
  lines = no_lines_yet (length c.ports) (lines_of script);
  cause = inl refl;
  text = sym (append-nil before);
}

-- nothing is played of a script that isn't read
pub unread_plays : (explains : Bool) (c : Configuration) (script before : List ℕ) (f : Fault) → IsUnread f
    → Plays explains c script before (Err f) before
unread_plays explains c script before f (inl is) =
    subst (λ (x : Fault). Plays explains c script before (Err x) before) (sym is) (none_read (translating explains) c script before)
unread_plays explains c script before f (inr is) =
    subst (λ (x : Fault). Plays explains c script before (Err x) before) (sym is) (none_held (translating explains) c script before)

-- what is known stays known
pub known_on : (old new : Option (List ℕ)) (text : List ℕ) → Keeps old new → old ≡ Some text → new ≡ Some text
known_on None new text keeps is = search rules
known_on (Some xs) None text keeps is = absurd keeps
known_on (Some xs) (Some ys) text keeps is =
    let same : xs ≡ text = cc in
    subst (λ (t : List ℕ). Some ys ≡ Some t) same (subst (λ (t : List ℕ). Some ys ≡ Some t) keeps refl)

-- all of a text was read if nothing of it is left
pub read_whole : (read : List ℕ) (left : Option (List ℕ)) (text : List ℕ) → IsAtEnd left → prepend_known read left ≡ Some text → read ≡ text
read_whole read None text ended is = search rules
read_whole read (Some xs) text ended is =
    let all : read ++ [] ≡ text = cc in
    sym (append-nil read) ∙ all

-- nothing is reported of the asks of a script that isn't read
unread_decided : (c : Configuration) (script : List ℕ) (f : Fault) → IsUnread f → IsDecidedAt c script (Err f) []
unread_decided c script f (inl is) = subst (λ (x : Fault). IsDecidedAt c script (Err x) []) (sym is) refl
unread_decided c script f (inr is) = subst (λ (x : Fault). IsDecidedAt c script (Err x) []) (sym is) refl

-- what a replay with counts leaves if its script isn't read
pub unread_leaves : (explains : Bool) (text : Result (List ℕ) Fault) (c : Configuration) (input held : Option (List ℕ)) (f : Fault) (said : List ℕ)
    → IsConfigurationOf text (Ok c) → IsUnread f → said ≡ [] → LeavesCounted explains text input held held (Err f) said
unread_leaves explains text c input held f said is unread silent = (
  Ok c,
  is,
  λ script before known written.
      holds_known (Plays explains c script before (Err f)) held before written (unread_plays explains c script before f unread),
  λ script known. subst (λ (t : List ℕ). IsDecidedAt c script (Err f) t) (sym silent) (unread_decided c script f unread),
)

-- nothing is reported of asks that aren't to be counted
pub uncounted_reports : (counts : Bool) (input : Option (List ℕ)) (c : Result Configuration Fault) (outcome : Result (Unit {0}) Fault) → counts ≡ false
    → ReportsAsks counts input c outcome []
uncounted_reports false input c outcome is = refl
uncounted_reports true input c outcome is = absurd cc
