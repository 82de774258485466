-- Where a fault of a configuration is.
use Rattle.std.specs.Prelude.{ℕ, ◌+◌, List, [], ◌++◌, decimal, Option, Some, None, unwrap_or, Result, Ok, Err}
use Rattle.gw_configuration.specs.declared.fault.ConfigFault.{ConfigFault}
use Rattle.gw_configuration.specs.declared.located.Located.{Located as Lent}
use Rattle.gw_configuration.specs.declared.located.Place.{Place}
use Rattle.gw_configuration.specs.declared.located.Place.TheVariants.{Text}
use Rattle.gw_configuration.specs.declared.shape.Shape.{Shape}

-- what is read, or the fault
abbrev pub Read : Type 0 → Type 0
Read A = Result A ConfigFault

-- a fault, the table where it is, the key there, the position in the list at that key, and what the value at the key
-- was to be
pub record Located : Type 0 where
  pub fault : ConfigFault
  pub place : Place
  pub key : List ℕ
  pub item : Option ℕ
  pub wanted : Option Shape

abbrev pub located_view : Lent → Located
located_view l =
    record { fault = l.fault; place = l.place; key = l.key.now; item = l.item; wanted = l.wanted }

-- a fault of the text as a whole
abbrev pub of_text : ConfigFault → Located
of_text fault = record { fault = fault; place = Text; key = []; item = None; wanted = None }

-- a fault of a table at a key, or at none
abbrev pub at_key : Place → ConfigFault → Option (List ℕ) → Located
at_key place fault key =
    record { fault = fault; place = place; key = unwrap_or key []; item = None; wanted = None }

-- what is read, or the first fault with its place
abbrev pub Find : Type 0 → Type 0
Find A = Result A Located

-- a fault without a table is one of the text as a whole
abbrev pub whole : {A : Type 0} → Read A → Find A
whole (Ok x) = Ok x
whole (Err fault) = Err (of_text fault)

-- the fault without its place
abbrev pub without_place : {A : Type 0} → Find A → Read A
without_place (Ok x) = Ok x
without_place (Err located) = Err located.fault

-- what is read where there is no fault
abbrev pub unless : {A : Type 0} → Option Located → Find A → Find A
unless None reading = reading
unless (Some located) reading = Err located

-- one of several, by its number from 1
abbrev pub numbered : List ℕ → ℕ → List ℕ
numbered word position = word ++ decimal (position + 1)
