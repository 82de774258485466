-- What opening a log with stamps and notes gives.
use Rattle.std.specs.Prelude.{◌≡◌, ◌⊎◌, ℕ, true, false, Bool, List, Option, Some, None, Ok, Err, codes}
use Rattle.std.specs.Io.KnownBytes.{Appends, Keeps}
use Rattle.gw_log_words.specs.Noted.{held_without_notes, note_line}
use Rattle.gw_log_words.specs.Stamped.{held_without}
use Rattle.gw_log_words.specs.declared.noted.Noted.{Noted}
use Rattle.gw_log_words.specs.declared.noted.Place.TheVariants.{Begin}
use Rattle.gw_log_words.specs.declared.stamped.Stamped.{Stamped}
use Rattle.gw_system.specs.Host.{LogOpening}
use Rattle.gw_system.specs.Offers.{Offers, OpensLog}
use Rattle.gw_system.specs.declared.opening.LogFailure.TheVariants as log_failure

-- the log in which such a log goes on
abbrev pub log_in : {Log C : Type 0} → Noted (Stamped Log C) → Log
log_in noted = noted.sink.sink

abbrev pub log_if : {Log C : Type 0} → Option (Noted (Stamped Log C)) → Option Log
log_if None = None
log_if (Some noted) = Some (log_in noted)

-- what it holds: what that log holds, without the stamps and the notes
abbrev pub held_in : {Log C : Type 0} → (Log → Option (List ℕ)) → Noted (Stamped Log C) → Option (List ℕ)
held_in held noted = held_without_notes noted.place (held_without noted.sink.in_stamp (held (log_in noted)))

-- a log, if its lines are seen without stamps and notes from now on
abbrev pub held_first : Option (List ℕ) → Option (List ℕ)
held_first held = held_without_notes Begin (held_without true held)

-- what the first note says, with the version of the program
abbrev pub began_text : List ℕ
began_text = codes "bacgw 0.1.0 began"

-- A log goes on with stamps and notes: its first note is written, which is not seen.
pub record IsBegunIn {Log C : Type 0} (held : Log → Option (List ℕ)) (opened : Log) (noted : Noted (Stamped Log C)) : Type 0 where
  pub note : Appends (held_without true (held opened)) (held_without noted.sink.in_stamp (held (log_in noted))) (note_line began_text)
  pub keeps : Keeps (held_first (held opened)) (held_in held noted)

-- A log of this name is opened so that a line begins, and goes on with stamps and notes. It can't be if that log can't, or the
-- note can't be written.
abbrev pub OpensStamped : {Log C : Type 0} → LogOpening Log → (Log → Option (List ℕ)) → LogOpening (Noted (Stamped Log C))
OpensStamped LogOpens held name (Ok noted) = (opened : _) × LogOpens name (Ok opened) × IsBegunIn held opened noted
OpensStamped LogOpens held name (Err f) =
    LogOpens name (Err f) ⊎ ((opened : _) × LogOpens name (Ok opened) × (f ≡ log_failure.Failed))

-- it begins at a line already
abbrev pub IsWhole : List ℕ → Bool → Type 0
IsWhole name cut = cut ≡ false

-- what such a machine gives, by what the other one gives and what a log of that holds
abbrev pub stamped_offers : {Log C Sockets S Q : Type 0} → Offers Log Sockets S Q → (Log → Option (List ℕ))
    → Offers (Noted (Stamped Log C)) Sockets S Q
stamped_offers offers held = record {
  FileReads = offers.FileReads;
  LastDenials = offers.LastDenials;
  StoreOpens = offers.StoreOpens;
  ReloadsOpen = offers.ReloadsOpen;
  LogOpens = OpensStamped (OpensLog offers held) held;
  LogIsCut = IsWhole;
  Waits = offers.Waits;
  SocketsOpen = offers.SocketsOpen;
  RoutesIp = offers.RoutesIp;
}
