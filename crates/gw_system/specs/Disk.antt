-- A disk: what its names show, what a crash may leave of them, and what its calls do to both.
use Rattle.std.specs.Prelude.{◌≡◌, ◌⊎◌, ◌+◌, ⊤, ℕ, Bool, true, false, if◌then◌else◌, List, [], ◌∷◌, ◌++◌, Option, Some, None, Result, Ok, Err, option_map, nat_eq}
use Rattle.std.specs.Cmp.Lexicographic.{pointwise}
use Rattle.gw_system.specs.declared.store.Access.{Access}
use Rattle.gw_wire.specs.declared.store.StoreFault.{StoreFault}

-- A file: its text, who may read it, and whether all of that was synced.
pub record FileState : Type 0 where
  pub text : List ℕ
  pub access : Access
  pub synced : Bool

-- A name: the file that has it, if there is one, and those that had it since its folder was synced.
pub record NameState : Type 0 where
  pub file : Option FileState
  pub earlier : List (Option FileState)

abbrev pub text_of : FileState → List ℕ
text_of file = file.text

-- what it shows now: the text of its file, or that there is none
abbrev pub shown : NameState → Option (List ℕ)
shown name = option_map text_of name.file

-- A crash leaves this of a file, or of none. If the file wasn't synced, that is any text.
abbrev pub Leaves : Option FileState → Option (List ℕ) → Type 0
Leaves None None = ⊤
Leaves None (Some text) = ⊥
Leaves (Some file) None = ⊥
Leaves (Some file) (Some text) = file.synced ≡ true → text ≡ file.text

abbrev pub SomeLeaves : List (Option FileState) → Option (List ℕ) → Type 0
SomeLeaves [] left = ⊥
SomeLeaves (file ∷ files) left = Leaves file left ⊎ SomeLeaves files left

-- What a name may show after a crash: what that leaves of its file, or of an earlier one.
abbrev pub MayShow : NameState → Option (List ℕ) → Type 0
MayShow name left = Leaves name.file left ⊎ SomeLeaves name.earlier left

-- ---- what calls do

-- What a call did: a new file has a name; more text was written to the file of a name; that file, or the folder in which the name
-- is, was synced; a file got another name; a name has no file any more. Or it failed, or left any text in the file of a name.
pub data Change : Type 0 where
  Created : (name : List ℕ) → (access : Access) → Change
  Wrote : (name more : List ℕ) → Change
  Synced : (name : List ℕ) → Change
  FolderSynced : (name : List ℕ) → Change
  Renamed : (from to : List ℕ) → Change
  Removed : (name : List ℕ) → Change
  Spoiled : (name text : List ℕ) → Change
  Failed : Change

-- two names are the same
abbrev pub is_name : List ℕ → List ℕ → Bool
is_name = pointwise nat_eq

-- a name has another file
abbrev pub replaced : NameState → Option FileState → NameState
replaced name file = record { file = file; earlier = name.file ∷ name.earlier }

-- its file is another one, which has this name only for it
abbrev pub altered : NameState → (FileState → FileState) → NameState
altered name alter = record { file = option_map alter name.file; earlier = name.earlier }

abbrev pub with_text : List ℕ → FileState → FileState
with_text text file = record { text = text; access = file.access; synced = false }

abbrev pub with_more : List ℕ → FileState → FileState
with_more more file = with_text (file.text ++ more) file

abbrev pub as_synced : FileState → FileState
as_synced file = record { text = file.text; access = file.access; synced = true }

abbrev pub settled : NameState → NameState
settled name = record { file = name.file; earlier = [] }

abbrev pub new_file : Access → FileState
new_file access = record { text = []; access = access; synced = false }

-- what a change makes of a name, by what all names were
unfoldable pub changed : Change → (List ℕ → NameState) → List ℕ → NameState
changed (Created made access) names name = if is_name made name then replaced (names name) (Some (new_file access)) else names name
changed (Wrote at more) names name = if is_name at name then altered (names name) (with_more more) else names name
changed (Synced at) names name = if is_name at name then altered (names name) as_synced else names name
changed (FolderSynced at) names name = if is_name at name then settled (names name) else names name
changed (Renamed from to) names name =
    if is_name to name then replaced (names name) (names from).file
    else if is_name from name then replaced (names name) None
    else names name
changed (Removed gone) names name = if is_name gone name then replaced (names name) None else names name
changed (Spoiled at text) names name = if is_name at name then altered (names name) (with_text text) else names name
changed Failed names name = names name

-- The state of each name after these changes of an empty disk, the newest first.
abbrev pub state_of : List Change → List ℕ → NameState
state_of [] name = record { file = None; earlier = [] }
state_of (change ∷ changes) name = changed change (state_of changes) name

-- whether a call failed, as a number
abbrev pub failed : Change → ℕ
failed Failed = 1
failed _ = 0

-- how often a call failed
abbrev pub failures : List Change → ℕ
failures [] = 0
failures (change ∷ changes) = failed change + failures changes

-- what was done to a disk since it was empty, the newest first, if that is known
abbrev pub Changes : Type 0
Changes = Option (List Change)

-- Known changes lead to changes that are in this relation to them, or are no more known.
abbrev pub Leads : (List Change → List Change → Type 0) → (before after : Changes) → Type 0
Leads Is None after = after ≡ None
Leads Is (Some before) None = ⊤
Leads Is (Some before) (Some after) = Is before after

-- A call does this. If it fails, it may have done it.
abbrev pub Does : {T : Type 0} → Change → Result T StoreFault → List Change → List Change → Type 0
Does change (Ok done) before after = after ≡ change ∷ before
Does change (Err fault) before after = (after ≡ Failed ∷ before) ⊎ (after ≡ Failed ∷ change ∷ before)

-- A call does this to the file of a name. If it fails, that may have any text.
abbrev pub DoesTo : {T : Type 0} → List ℕ → Change → Result T StoreFault → List Change → List Change → Type 0
DoesTo name change (Ok done) before after = after ≡ change ∷ before
DoesTo name change (Err fault) before after = (after ≡ Failed ∷ before) ⊎ ((text : List ℕ) × (after ≡ Failed ∷ Spoiled name text ∷ before))
