use Rattle.std.proofs.Common.{◌≡◌, ◌++◌, drop}
use Rattle.json.specs.Tree.{items_tokens, members_tokens}
use Rattle.gw_json.specs.Document.{items_of}
use Rattle.gw_json.specs.internal.View.{object_view, values_view}
use Rattle.gw_json.proofs.value.+write.Given as goal

abbrev pub invariant-write_items-loop-value : goal.invariant-write_items-loop-value
invariant-write_items-loop-value l =
    (l.writer.before ≡ l.initial.writer.before)
    × (l.writer.tokens ++ items_tokens (items_of (values_view (drop l.value-index l.value-items))) ≡ l.initial.writer.tokens ++ items_tokens (items_of (values_view l.value-items)))

abbrev pub invariant-write_members-loop-member : goal.invariant-write_members-loop-member
invariant-write_members-loop-member l =
    (l.writer.before ≡ l.initial.writer.before)
    × (l.writer.tokens ++ members_tokens (object_view (drop l.member-index l.member-items)) ≡ l.initial.writer.tokens ++ members_tokens (object_view l.member-items))
