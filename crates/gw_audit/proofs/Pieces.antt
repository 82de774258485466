-- A line is the pieces in which it is written.
use Rattle.std.proofs.Common.{◌≡◌, ℕ, List, [], ◌∷◌, ◌++◌, Option, Some, None, ◌↔◌, refl, sym, ap, ◌∙◌, append_assoc}
use Rattle.std.specs.Prelude.{codes, is_some}
use Rattle.std.specs.Fmt.{decimal}
use Rattle.std.specs.List.{flat_map}
use Rattle.gw_addr.specs.declared.station.Source.{Source}
use Rattle.gw_addr.specs.Station.{two_digits}
use Rattle.gw_rules.specs.declared.operation.Operation.{Operation}
use Rattle.gw_rules.specs.Ask.{Ask}
use Rattle.gw_rules.specs.Operation.{operation_number}
use Rattle.gw_rules.proofs.Operations.{number_found}
use Rattle.gw_audit.specs.declared.denial.Denial.{Denial}
use Rattle.gw_audit.specs.Line.{ask_text, field_text, line_text, operation_of, operation_word, stations_of, stations_text}
use Rattle.gw_audit.specs.internal.Parts.{asked_text, counts_text, end_text, object_text, pieces_text, request_text, source_text}

-- two that are there in the same cases are the same
same_option : {A : Type 0} (x y : Option A) → ((a : A) → x ≡ Some a → y ≡ Some a) → ((a : A) → y ≡ Some a → x ≡ Some a) → x ≡ y
same_option None None there here = refl
same_option None (Some b) there here = here b refl
same_option (Some a) y there here = sym (there a refl)

-- what is found by a number is the operation of that number
pub operation_found : (found : Option Operation) (number : ℕ) → ((o : Operation) → (found ≡ Some o) ↔ (number ≡ operation_number o)) → found ≡ operation_of number
operation_found found number by =
    same_option found (operation_of number)
    (λ o e. (number_found (operation_of number) number refl o).1 ((by o).0 e))
    (λ o e. (by o).1 ((number_found (operation_of number) number refl o).0 e))

-- ---- pieces after one another

-- pieces appended one by one
append_all : List ℕ → List (List ℕ) → List ℕ
append_all front [] = front
append_all front (piece ∷ pieces) = append_all (front ++ piece) pieces

-- what is in front of them can as well be put there at the end
all_behind : (front first : List ℕ) (pieces : List (List ℕ)) → append_all (front ++ first) pieces ≡ front ++ append_all first pieces
unfolding append_all
all_behind front first [] = refl
all_behind front first (piece ∷ pieces) =
    ap (λ (t : List ℕ). append_all t pieces) (append_assoc front first piece) ∙ all_behind front (first ++ piece) pieces

source_behind : (front : List ℕ) (source : Source) → front ++ decimal source.net ++ codes ":" ++ flat_map two_digits source.mac ≡ front ++ source_text source
unfolding append_all
source_behind front source = all_behind front (decimal source.net) (codes ":" ∷ flat_map two_digits source.mac ∷ [])

request_behind : (front : List ℕ) (ask : Ask) → front ++ codes " " ++ operation_word (is_some ask.sender) ask.operation ++ codes " dst=" ++ field_text ask.destination_network ++ codes " svc=" ++ field_text ask.service ≡ front ++ request_text ask
unfolding append_all
request_behind front ask =
    all_behind front (codes " ") (operation_word (is_some ask.sender) ask.operation ∷ codes " dst=" ∷ field_text ask.destination_network ∷ codes " svc=" ∷ field_text ask.service ∷ [])

object_behind : (front : List ℕ) (ask : Ask) → front ++ codes " obj=" ++ field_text ask.object_type ++ codes "," ++ field_text ask.instance ++ codes " prop=" ++ field_text ask.property ++ codes " prio=" ++ field_text ask.priority ≡ front ++ object_text ask
unfolding append_all
object_behind front ask =
    all_behind front (codes " obj=") (field_text ask.object_type ∷ codes "," ∷ field_text ask.instance ∷ codes " prop=" ∷ field_text ask.property ∷ codes " prio=" ∷ field_text ask.priority ∷ [])

-- the line, up to a piece
with_source : Denial → List ℕ
with_source d = counts_text d ++ decimal d.source.net ++ codes ":" ++ flat_map two_digits d.source.mac

with_request : Denial → List ℕ → List ℕ
with_request d front =
    front ++ codes " " ++ operation_word (is_some d.ask.sender) d.ask.operation ++ codes " dst=" ++ field_text d.ask.destination_network ++ codes " svc=" ++ field_text d.ask.service

with_object : Denial → List ℕ → List ℕ
with_object d front =
    front ++ codes " obj=" ++ field_text d.ask.object_type ++ codes "," ++ field_text d.ask.instance ++ codes " prop=" ++ field_text d.ask.property ++ codes " prio=" ++ field_text d.ask.priority

with_end : Denial → List ℕ → List ℕ
with_end d front = front ++ codes " rule=" ++ d.rule ++ stations_text (stations_of d.ask) ++ 10 ∷ []

end_behind : (d : Denial) (front : List ℕ) → front ++ codes " rule=" ++ d.rule ++ stations_text (stations_of d.ask) ++ 10 ∷ [] ≡ front ++ end_text d
unfolding append_all
end_behind d front = all_behind front (codes " rule=") (d.rule ∷ stations_text (stations_of d.ask) ∷ (10 ∷ []) ∷ [])

asked_behind : (front : List ℕ) (source : Source) (ask : Ask) → front ++ source_text source ++ request_text ask ++ object_text ask ≡ front ++ asked_text source ask
unfolding append_all
asked_behind front source ask = all_behind front (source_text source) (request_text ask ∷ object_text ask ∷ [])

line_by_pieces : (d : Denial) → line_text d ≡ with_end d (with_object d (with_request d (with_source d)))
unfolding line_text with_source with_request with_object with_end
line_by_pieces d = refl

pub line_pieces : (d : Denial) → line_text d ≡ pieces_text d
unfolding with_source with_request with_object with_end
line_pieces d =
    let sourced : with_source d ≡ counts_text d ++ source_text d.source = source_behind (counts_text d) d.source in
    let asked : with_request d (with_source d) ≡ counts_text d ++ source_text d.source ++ request_text d.ask =
    ap (with_request d) sourced ∙ request_behind (counts_text d ++ source_text d.source) d.ask in
    let whole : with_object d (with_request d (with_source d)) ≡ counts_text d ++ asked_text d.source d.ask =
    ap (with_object d) asked ∙ object_behind (counts_text d ++ source_text d.source ++ request_text d.ask) d.ask
    ∙ asked_behind (counts_text d) d.source d.ask in
    line_by_pieces d ∙ ap (with_end d) whole ∙ end_behind d (counts_text d ++ asked_text d.source d.ask)

-- ---- what was asked

-- what was asked, up to a piece
asked_request : Ask → List ℕ → List ℕ
asked_request ask front =
    front ++ codes " " ++ operation_word (is_some ask.sender) ask.operation ++ codes " dst=" ++ field_text ask.destination_network ++ codes " svc=" ++ field_text ask.service

asked_object : Ask → List ℕ → List ℕ
asked_object ask front =
    front ++ codes " obj=" ++ field_text ask.object_type ++ codes "," ++ field_text ask.instance ++ codes " prop=" ++ field_text ask.property ++ codes " prio=" ++ field_text ask.priority

asked_stations : Ask → List ℕ → List ℕ
asked_stations ask front = front ++ stations_text (stations_of ask)

ask_by_pieces : (source : Source) (ask : Ask) → ask_text source ask ≡ asked_stations ask (asked_object ask (asked_request ask (source_text source)))
unfolding ask_text asked_request asked_object asked_stations
ask_by_pieces source ask = refl

pub ask_pieces : (source : Source) (ask : Ask) → ask_text source ask ≡ asked_text source ask ++ stations_text (stations_of ask)
unfolding asked_request asked_object asked_stations
ask_pieces source ask =
    let asked : asked_request ask (source_text source) ≡ source_text source ++ request_text ask = request_behind (source_text source) ask in
    ask_by_pieces source ask
    ∙ ap (asked_stations ask) (ap (asked_object ask) asked ∙ object_behind (source_text source ++ request_text ask) ask)
