use Rattle.std.proofs.Common.{length, true}
use Rattle.gw_json.specs.Comparison.{summary_value}
use Rattle.gw_json.specs.Document.{line_of}
use Rattle.gw_json.specs.Results.{regions_lines}
use Rattle.gw_policy_review.proofs.comparison_lemmas.Appending.{two}
use Rattle.gw_json.proofs.results.put_by_regions.Goals as goal

pub returns : goal.returns
returns c =
    let listing = c.args.listing.now in
    let found = c.args.found.now in
    two c.put_summary.result c.args.out.now.items c.put_regions.new.out.items c.put_summary.new.out.items
    (regions_lines listing.old.now listing.new.now listing.most found) (line_of (summary_value (length found) true c.args.steps))
    c.in_ok-put_regions.ensures c.put_summary.ensures.ok
