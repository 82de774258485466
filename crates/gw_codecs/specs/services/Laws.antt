-- What holds of the bodies of all services.
use Rattle.std.specs.Prelude.{◌≡◌, ◌↔◌, ℕ, List, Result, Ok, Err}
use Rattle.gw_addr.specs.Reading.{AreOctets}
use Rattle.gw_codecs.specs.declared.services.fault.BodyFault.{BodyFault}

-- a body has one reading
abbrev pub HasOneReading : {R : Type 0} → (List ℕ → R → Type 0) → Type 0
HasOneReading {R} Is = (octets : List ℕ) (r s : R) → AreOctets octets → Is octets r → Is octets s
    → r ≡ s

-- what a reading function gives of octets is the body that they are, and no other
abbrev pub ReadsExactly : {R : Type 0} → (List ℕ → Result R BodyFault) → (List ℕ → R → Type 0)
    → Type 0
ReadsExactly {R} read Is = (octets : List ℕ) (r : R) → AreOctets octets
    → (read octets ≡ Ok r) ↔ Is octets r

-- the fault that it gives of octets is the one that they have
abbrev pub TellsExactly : {R : Type 0} → (List ℕ → Result R BodyFault)
    → (BodyFault → List ℕ → Type 0) → Type 0
TellsExactly read Has = (octets : List ℕ) (fault : BodyFault) → AreOctets octets
    → (read octets ≡ Err fault) ↔ Has fault octets
