-- A file that is replaced whole.
use Rattle.std.specs.Prelude.{◌≡◌, ℕ, List, ◌++◌, Option, Some, None, Result, codes}
use Rattle.gw_system.specs.Disk.{Change, Changes, shown, state_of}
use Rattle.gw_system.specs.Replacing.{IsReplaced, IsShown}
use Rattle.gw_system.specs.declared.store.Access.TheVariants.{Everyone, Owner}
use Rattle.gw_system.specs.declared.store.StoreKind.{StoreKind}
use Rattle.gw_system.specs.declared.store.StoreKind.TheVariants as kind
use Rattle.gw_wire.specs.declared.store.StoreFault.{StoreFault}

-- its disk, its name, the name of the file beside it, where a text is written first, and what it is for
pub record StoreFile (D : Type 0) : Type 0 where
  pub disk : D
  pub name : List ℕ
  pub beside : List ℕ
  pub kind : StoreKind

-- It is the file of this name, for that.
pub record IsStoreOf {D : Type 0} (called : List ℕ) (wanted : StoreKind) (file : StoreFile D) : Type 0 where
  pub name : file.name ≡ called
  pub beside : file.beside ≡ called ++ codes ".new"
  pub kind : file.kind ≡ wanted

-- It is that file on a disk.
pub record IsStoreOn {D : Type 0} (place : D) (called : List ℕ) (wanted : StoreKind) (file : StoreFile D) : Type 0 where
  pub disk : file.disk ≡ place
  pub of : IsStoreOf called wanted file

-- what a file of this name shows now, if there is one and what was done to its disk is known
abbrev pub held_at : Changes → List ℕ → Option (List ℕ)
held_at None name = None
held_at (Some changes) name = shown (state_of changes name)

-- A text was put there, or that failed: for its owner and kept, or for everybody and shown.
abbrev pub IsPut : StoreKind → (name beside text : List ℕ) → Result (Unit {0}) StoreFault → (before after : List Change) → Type 0
IsPut kind.Kept name beside text result before after = IsReplaced name beside Owner text result before after
IsPut kind.Shown name beside text result before after = IsShown name beside Everyone text result before after
