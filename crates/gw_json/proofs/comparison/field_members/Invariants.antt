use Rattle.std.proofs.Common.{◌≡◌, map, take}
use Rattle.gw_json.specs.Comparison.{field_member}
use Rattle.gw_json.specs.internal.View.{members_view}
use Rattle.gw_json.proofs.comparison.field_members.Given as goal

abbrev pub invariant-loop-field : goal.invariant-loop-field
invariant-loop-field l = members_view l.members.items ≡ map (field_member l.fn.region) (take l.field-index l.fn.fields)
