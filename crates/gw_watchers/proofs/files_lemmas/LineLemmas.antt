-- The line of a last denial that was read.
use Rattle.std.proofs.Common.{◌≡◌, ℕ, Option, Some, None, Ok, option_map, refl}
use Rattle.std.specs.Global.{Vec}
use Rattle.gw_system.specs.Requests.{text_found}

pub found_line : (line : Option (Vec ℕ)) → text_found (Ok line) ≡ Ok (option_map (λ (l : Vec ℕ). l.items) line)
found_line None = refl
found_line (Some line) = refl
