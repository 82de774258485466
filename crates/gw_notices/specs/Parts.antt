-- The parts of a configuration beside its rules, and which of them differ from those of another.
use Rattle.std.specs.Prelude.{◌≡◌, ◌↔◌, ℕ, Bool, IsTrue, if◌then◌else◌, List, [], ◌∷◌, ◌++◌, codes}
use Rattle.std.specs.List.{flat_map}
use Rattle.gw_configuration.specs.Configuration.{Configuration}
use Rattle.gw_notices.specs.declared.parts.ConfigurationPart.{ConfigurationPart}
use Rattle.gw_notices.specs.declared.parts.ConfigurationPart.TheVariants as parts
use Rattle.gw_notices.specs.declared.parts.SameParts.{SameParts}

-- exactly what is the same of two configurations is said to be the same
pub record IsSameness (old new : Configuration) (same : SameParts) : Type 0 where
  pub format : IsTrue same.format ↔ (old.format ≡ new.format)
  pub announce : IsTrue same.announce ↔ (old.announce ≡ new.announce)
  pub device : IsTrue same.device ↔ (old.device ≡ new.device)
  pub ports : IsTrue same.ports ↔ (old.ports ≡ new.ports)
  pub routes : IsTrue same.routes ↔ (old.routes ≡ new.routes)
  pub objects : IsTrue same.objects ↔ (old.objects ≡ new.objects)

-- a part, unless it is said to be the same
abbrev pub unless : Bool → ConfigurationPart → List ConfigurationPart
unless same part = if same then [] else part ∷ []

-- the parts that aren't said to be the same
abbrev pub parts_of : SameParts → List ConfigurationPart
parts_of same =
    unless same.format parts.Format
    ++ (unless same.announce parts.Announce
    ++ (unless same.device parts.Device
    ++ (unless same.ports parts.Ports ++ (unless same.routes parts.Routes ++ unless same.objects parts.Objects))))

-- `; the ports differ`
abbrev pub part_words : ConfigurationPart → List ℕ
part_words parts.Format = codes "; the format differs"
part_words parts.Announce = codes "; announce differs"
part_words parts.Device = codes "; the device differs"
part_words parts.Ports = codes "; the ports differ"
part_words parts.Routes = codes "; the routes differ"
part_words parts.Objects = codes "; the objects differ"

-- the line on a trial: that only its rules are tried, if other parts of its configuration differ from those of the one in force
abbrev pub trial_line : List ConfigurationPart → List ℕ
trial_line [] = []
trial_line (part ∷ differ) = codes "bacgw: trial: only its rules are tried" ++ flat_map part_words (part ∷ differ) ++ 10 ∷ []

-- exactly the parts that differ are in the line
pub record IsTrialLine (c trial : Configuration) (line : List ℕ) : Type 0 where
  pub same : SameParts
  pub is_so : IsSameness c trial same
  pub says : line ≡ trial_line (parts_of same)
