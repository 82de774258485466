-- A file that is replaced whole, and every moment of that.
use Rattle.std.specs.Prelude.{◌≡◌, ◌≢◌, ◌⊎◌, ◌<◌, ◌≤◌, ◌+◌, ⊤, ℕ, true, false, List, [], ◌∷◌, ◌++◌, Option, Some, None, Result, OnOk, OnErr}
use Rattle.gw_system.specs.Disk.{Change, MayShow, NameState, failures, shown, state_of}
use Rattle.gw_system.specs.declared.store.Access.{Access}
use Rattle.gw_wire.specs.declared.store.StoreFault.{StoreFault}

-- what was done has this, at each moment of these changes after the others
abbrev pub EachAfter : (List Change → Type 0) → (before during : List Change) → Type 0
EachAfter Has before [] = ⊤
EachAfter Has before (change ∷ during) = Has (change ∷ (during ++ before)) × EachAfter Has before during

-- At each moment from one to another one, what was done until then has this.
pub record Throughout (Has : List Change → Type 0) (before after : List Change) : Type 0 where
  pub during : List Change
  pub on : after ≡ during ++ before
  pub each : EachAfter Has before during

-- A name shows what it showed or this text; and so it does after a crash.
pub record IsOldOrNew (text : List ℕ) (old now : NameState) : Type 0 where
  pub shows : (shown now ≡ shown old) ⊎ (shown now ≡ Some text)
  pub left : (left : Option (List ℕ)) → MayShow now left → MayShow old left ⊎ (left ≡ Some text)

-- At a moment of replacing the file of a name, whose text is written to a file beside it first: no other name has changed.
pub record IsReplacing (name beside text : List ℕ) (before now : List Change) : Type 0 where
  pub whole : IsOldOrNew text (state_of before name) (state_of now name)
  pub others : (other : List ℕ) → other ≢ name → other ≢ beside → state_of now other ≡ state_of before other

-- The text is that of the name, whatever comes: it shows it, and so it does after any crash.
pub record IsKept (access : Access) (text : List ℕ) (now : NameState) : Type 0 where
  pub file : now.file ≡ Some (record { text = text; access = access; synced = true })
  pub left : (left : Option (List ℕ)) → MayShow now left → left ≡ Some text

-- A file was replaced whole by a text, or that failed.
pub record IsReplaced (name beside : List ℕ) (access : Access) (text : List ℕ) (result : Result (Unit {0}) StoreFault)
    (before after : List Change) : Type 0 where
  -- at every moment the name shows the old text or the new one, now and after a crash
  pub moments : Throughout (IsReplacing name beside text before) before after
  -- once it is done it shows the new one, also after any crash
  pub done : OnOk result (IsKept access text (state_of after name))
  -- it fails only if a call failed
  pub cause : OnErr result (failures before < failures after)
  -- then no file is left beside it, unless a second call failed
  pub clean : OnErr result ((shown (state_of after beside) ≡ None) ⊎ (failures before + 2 ≤ failures after))

-- At a moment of replacing it by a text that needn't be on the disk: the name shows what it showed or this text.
pub record IsShowing (name beside text : List ℕ) (before now : List Change) : Type 0 where
  pub shows : (shown (state_of now name) ≡ shown (state_of before name)) ⊎ (shown (state_of now name) ≡ Some text)
  pub others : (other : List ℕ) → other ≢ name → other ≢ beside → state_of now other ≡ state_of before other

-- A file was replaced whole by a text that needn't be on the disk, or that failed.
pub record IsShown (name beside : List ℕ) (access : Access) (text : List ℕ) (result : Result (Unit {0}) StoreFault)
    (before after : List Change) : Type 0 where
  -- at every moment the name shows the old text or the new one
  pub moments : Throughout (IsShowing name beside text before) before after
  -- once it is done it shows the new one
  pub done : OnOk result ((state_of after name).file ≡ Some (record { text = text; access = access; synced = false }))
  -- it fails only if a call failed
  pub cause : OnErr result (failures before < failures after)
  -- then no file is left beside it, unless a second call failed
  pub clean : OnErr result ((shown (state_of after beside) ≡ None) ⊎ (failures before + 2 ≤ failures after))
