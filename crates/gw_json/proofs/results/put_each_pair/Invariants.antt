use Rattle.std.proofs.Common.{◌≡◌, ◌++◌, take}
use Rattle.std.specs.List.{flat_map}
use Rattle.gw_ask_sets.specs.declared.regions.pairs.ShownPair.{ShownPair}
use Rattle.gw_json.specs.Document.{line_of}
use Rattle.gw_json.specs.Results.{pair_value}
use Rattle.gw_json.proofs.results.put_each_pair.Given as goal

abbrev pub invariant-loop-each : goal.invariant-loop-each
invariant-loop-each l =
    l.out.items ≡ l.fn.out.items
    ++ flat_map (λ (shown : ShownPair). line_of (pair_value l.listing.old.now l.listing.new.now shown)) (take l.each-index l.found)
