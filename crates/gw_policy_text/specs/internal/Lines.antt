-- A text that is read octet by octet, as contracts see it.
use Rattle.gw_policy_text.specs.Lines.{Cutting}
use Rattle.gw_policy_text.specs.declared.lines.Cut.{Cut}

abbrev pub seen : Cut → Cutting
seen cut = record {
  key = cut.key.now;
  line = cut.line;
  is_blank = cut.is_blank;
  piece = cut.piece.items;
  began = cut.began;
  looked_at = cut.looked_at;
  found = cut.found.items;
}
