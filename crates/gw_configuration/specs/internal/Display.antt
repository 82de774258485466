-- What the iterator over the octets that a line shows still gives.
use Rattle.std.specs.Prelude.{ℕ, List}
use Rattle.gw_configuration.specs.declared.display.ShownOctets.{ShownOctets}
use Rattle.gw_configuration.specs.Shown.{shown}

-- what a line shows of the rest
abbrev pub shown_left : ShownOctets → List ℕ
shown_left s = shown s.rest.now
