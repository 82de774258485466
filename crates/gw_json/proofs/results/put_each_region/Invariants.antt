use Rattle.std.proofs.Common.{◌≡◌, ◌++◌, take}
use Rattle.std.specs.List.{flat_map}
use Rattle.gw_ask_sets.specs.declared.regions.comparison.Found.{Found}
use Rattle.gw_json.specs.Comparison.{found_value}
use Rattle.gw_json.specs.Document.{line_of}
use Rattle.gw_json.proofs.results.put_each_region.Given as goal

abbrev pub invariant-loop-each : goal.invariant-loop-each
invariant-loop-each l =
    l.out.items ≡ l.fn.out.items
    ++ flat_map (λ (f : Found). line_of (found_value l.listing.old.now l.listing.new.now f)) (take l.each-index l.found)
