use Rattle.std.proofs.Common.{map}
use Rattle.toml.specs.View.{view}
use Rattle.gw_policy_text.specs.internal.Listing.{listing_view}
use Rattle.gw_policy_text.proofs.Steps.{IsListedTo}
use Rattle.gw_policy_text.proofs.listing.listing_at.Given as goal

abbrev pub invariant-loop-table : goal.invariant-loop-table
invariant-loop-table l = IsListedTo l.format (map view l.sets) l.values l.table (listing_view l.all)
