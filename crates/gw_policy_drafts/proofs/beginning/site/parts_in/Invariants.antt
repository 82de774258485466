use Rattle.std.proofs.Common.{◌≡◌, length, map, take, string_bytes}
use Rattle.gw_policy_drafts.specs.beginning.Part.{word_of}
use Rattle.gw_policy_drafts.proofs.beginning.site.parts_in.Given as goal

abbrev pub invariant-loop-word : goal.invariant-loop-word
invariant-loop-word l = record {
  count : length l.parts.items ≡ l.word-index;
  says : map (word_of l.option) l.parts.items ≡ map string_bytes (take l.word-index l.list);
}
