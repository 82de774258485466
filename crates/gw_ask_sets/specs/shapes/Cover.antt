-- Whether a rule matches whatever another one matches of some shapes.
use Rattle.std.specs.Prelude.{Bool, true, not, ◌&&◌, ◌||◌, ◌==◌, nat_le, if◌then◌else◌, List, length}
use Rattle.std.specs.List.{list_all, list_any}
use Rattle.gw_rules.specs.Ask.{Ask}
use Rattle.gw_rules.specs.Fields.{value_of}
use Rattle.gw_rules.specs.Rule.{Matches, each_field, ranges_of}
use Rattle.gw_rules.specs.declared.range.Range.{Range}
use Rattle.gw_rules.specs.declared.rule.Rule.{Rule}
use Rattle.gw_ask_sets.specs.shapes.Meeting.{meets, overlaps}
use Rattle.gw_ask_sets.specs.shapes.Shape.{LiesInOne, Shape}
use Rattle.gw_ask_sets.specs.declared.shapes.side.Side.{Side}

-- ---- in words

-- of the asks of these shapes the rule matches none
abbrev pub MatchesNothing : List Shape → Rule → Type 0
MatchesNothing shapes rule = (ask : Ask) → LiesInOne shapes ask → ¬ Matches rule ask

-- of the asks of these shapes one rule matches whatever another one matches
abbrev pub TakesAll : List Shape → Rule → Rule → Type 0
TakesAll shapes earlier later = (ask : Ask) → LiesInOne shapes ask → Matches later ask → Matches earlier ask

-- ---- tests of it

-- a range lies in another, and in one of several
abbrev pub lies_in : Range → Range → Bool
lies_in outer inner = nat_le outer.low inner.low && nat_le inner.high outer.high

abbrev pub lies_in_any : List Range → Range → Bool
lies_in_any outer inner = list_any (λ range. lies_in range inner) outer

-- the earlier ranges hold what the later range holds of the side
abbrev pub takes_range : Side → List Range → Range → Bool
takes_range side earlier range =
    not (overlaps side.range range) || lies_in_any earlier side.range || lies_in_any earlier range

-- the earlier ranges admit what the later ones admit of the side
abbrev pub takes_side : Side → List Range → List Range → Bool
takes_side side earlier later =
    if length earlier == 0 then true
    else if length later == 0 then not side.absent && lies_in_any earlier side.range
    else list_all (takes_range side earlier) later

abbrev pub takes_shape : Rule → Rule → Shape → Bool
takes_shape earlier later shape =
    not (meets shape later)
    || each_field (λ field. takes_side (value_of field shape) (ranges_of field earlier) (ranges_of field later))

-- one of the shapes meets the rule
abbrev pub is_met : List Shape → Rule → Bool
is_met shapes rule = list_any (λ shape. meets shape rule) shapes

-- in each shape one rule is seen to match whatever another one matches
abbrev pub takes_all : List Shape → Rule → Rule → Bool
takes_all shapes earlier later = list_all (takes_shape earlier later) shapes
