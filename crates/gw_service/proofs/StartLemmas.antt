-- The text of a state, whose second line has its counts.
use Rattle.std.proofs.Common.{◌≡◌, ◌++◌, refl, List, ℕ}
use Rattle.gw_state.specs.Saved.{Saved}
use Rattle.gw_state_text.specs.Place.{IsPlaceOf}
use Rattle.gw_state_text.specs.Text.{counts_line, end_line, first_line, object_text, port_text, route_line, state_text}
use Rattle.std.specs.List.{flat_map}

pub second_line : (text : List ℕ) (s : Saved) → text ≡ state_text s → IsPlaceOf text 2
second_line text s is =
    let rest = counts_line s.counts ++ (flat_map port_text s.ports ++ (flat_map route_line s.routes ++ (flat_map object_text s.objects ++ end_line))) in
    record {
      front = first_line;
      rest = rest;
      parts = is;
      begins = record { saved = s; more = rest; is = refl };
      number = refl;
    }
