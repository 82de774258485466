-- The ends of the ranges of numbers, by their names, and the priority of a write.
use Rattle.std.specs.Prelude.{ℕ, Option, Some, None}

-- the last property identifier, 22 bits (clause 21, BACnetPropertyIdentifier)
abbrev pub last_property : ℕ
last_property = 4194303

-- the last instance of an object, 22 bits (clause 20.2.14)
abbrev pub last_instance : ℕ
last_instance = 4194303

-- the last number of four octets
abbrev pub last_number : ℕ
last_number = 4294967295

-- the last number of two octets
abbrev pub last_short_number : ℕ
last_short_number = 65535

-- the lowest priority of a write; 1 is the highest (clause 19.2)
abbrev pub last_priority : ℕ
last_priority = 16

-- a write that names no priority has the lowest
abbrev pub priority_of : Option ℕ → ℕ
priority_of None = last_priority
priority_of (Some priority) = priority

-- the last choice of BACnetSegmentation (clause 21): no segmentation
abbrev pub last_segmentation : ℕ
last_segmentation = 3
