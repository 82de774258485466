-- What `migrate` says of a configuration, which is a text of format 3, and what `rules` says, which is its rules as they are in force.
use Rattle.std.specs.Prelude.{◌≡◌, ⊤, ℕ, List, Result, Ok, Err}
use Rattle.gw_configuration.specs.Configuration.{Configuration}
use Rattle.gw_ending.specs.declared.fault.Fault.{Fault}
use Rattle.gw_ending.specs.declared.fault.Fault.TheVariants as fault
use Rattle.gw_ending.specs.declared.fault.MigrationFlaw.TheVariants as migration
use Rattle.gw_ending.specs.declared.reading.printing.Said.{Said}
use Rattle.gw_policy_drafts.specs.Listing.{IsReadAgain, listing_text}
use Rattle.gw_policy_drafts.specs.declared.listing.ListingFault.{ListingFault}
use Rattle.gw_policy_drafts.specs.declared.listing.ListingFault.TheVariants as unlisted
use Rattle.gw_policy_drafts.specs.migration.Migration.{Migrates}
use Rattle.gw_policy_drafts.specs.declared.migration.fault.MigrationFault.{MigrationFault}
use Rattle.gw_policy_drafts.specs.declared.migration.fault.MigrationFault.TheVariants as unmigrated
use Rattle.gw_rules.specs.declared.format.Format.TheVariants as formats
use Rattle.gw_tools.specs.Saying.{SaysMade}
use Rattle.gw_tools.specs.declared.placed.Placed.{Placed}

-- ---- `migrate`

-- why a configuration isn't written in format 3, as the program reports it
abbrev pub fault_of_migration : MigrationFault → Fault
fault_of_migration unmigrated.Already = fault.Migration migration.Already
fault_of_migration unmigrated.Unlike = fault.Migration migration.Unlike
fault_of_migration unmigrated.Memory = fault.Memory

-- a text that says a configuration in format 3, or why there is none
abbrev pub IsInFormatThree : Configuration → Result (List ℕ) Fault → Type 0
IsInFormatThree c (Ok text) = Migrates c text
IsInFormatThree c (Err fault.Memory) = ⊤
IsInFormatThree c (Err (fault.Migration f)) = ⊤
IsInFormatThree c (Err _) = ⊥

-- What is said is that. A configuration that is of format 3 is the fault that it is.
abbrev pub SaysMigrated : Configuration → Result Said Fault → Type 0
SaysMigrated c said =
    SaysMade (IsInFormatThree c) said × (c.format ≡ formats.Three → said ≡ Err (fault.Migration migration.Already))

-- ---- `rules`

-- why the rules of a configuration aren't listed, as the program reports it
abbrev pub fault_of_listing : ListingFault → Fault
fault_of_listing unlisted.Unlike = fault.Unlisted
fault_of_listing unlisted.Memory = fault.Memory

-- a text lists the rules of a configuration, and is read again as these
abbrev pub IsListing : Configuration → (lines : List ℕ) → List ℕ → Type 0
IsListing c lines text = (text ≡ listing_text c lines) × IsReadAgain c text

-- such a text, or why there is none
abbrev pub IsListed : Placed → Result (List ℕ) Fault → Type 0
IsListed p (Ok text) = IsListing p.config p.lines.items text
IsListed p (Err fault.Unlisted) = ⊤
IsListed p (Err fault.Memory) = ⊤
IsListed p (Err _) = ⊥
