-- Reading the rules of the list as a loop does.
use Rattle.std.proofs.Common.{◌≡◌, ◌≢◌, ◌∙◌, ◌+◌, ◌<◌, ◌≤◌, ◌∷◌, ◌++◌, [], ℕ, List, true, length, map, get_or, refl, ap, arith, sym, Option, Some, None, Ok, Err, length-append}
use Rattle.std.specs.List.{list_all}
use Rattle.toml.specs.Data.{Data}
use Rattle.toml.specs.View.{view}
use Rattle.toml.specs.declared.value.Value.{Value}
use Rattle.gw_addr.specs.Reading.{◌>>=◌}
use Rattle.gw_rules.specs.declared.format.Format.{Format}
use Rattle.gw_rules.specs.declared.rule.Rule.{Rule}
use Rattle.gw_configuration.specs.declared.fault.ConfigFault.TheVariants.{Memory}
use Rattle.gw_configuration.specs.declared.located.Located.{Located as Lent}
use Rattle.gw_configuration.specs.Located.{Find, located_view}
use Rattle.gw_policy_text.specs.declared.written.Written.{Written}
use Rattle.gw_policy_text.specs.Policy.{Listing, crowd, listing_at, listing_of, rule_in, rules_behind, rules_of}
use Rattle.gw_policy_text.specs.internal.Listing.{IsListed, is_listable, with_written}
use Rattle.gw_policy_text.proofs.Behind.{IsReadBehind, crowded_behind, ends_behind, goes_on_behind, stops_behind}
use Rattle.gw_policy_text.proofs.Limits.{all_more}
use Rattle.gw_policy_text.proofs.Listed.{listing_more}

-- the list of what a loop has read up to a place
pub record IsListedTo (format : Format) (sets : List Data) (values : List Value) (place : ℕ) (all : Listing) : Type 0 where
  pub written : List Written
  pub read : IsReadBehind format sets values place written
  pub listing : all ≡ listing_of written
  pub count : length written ≡ place
  pub listable : list_all (is_listable format) written ≡ true

pub begins_listed : (format : Format) (sets : List Data) (values : List Value) (listing : Listing) → listing ≡ listing_of [] → IsListedTo format sets values 0 listing
begins_listed format sets values listing is = record { written = []; read = refl; listing = is; count = refl; listable = refl }

pub goes_on_listed : (format : Format) (sets : List Data) (values : List Value) (place : ℕ) (all more : Listing) (value : Value) (w : Written) → place < length values → value ≡ get_or values place value
    → rule_in format sets place (view value) ≡ Ok w → is_listable format w ≡ true → more ≡ with_written place w all → crowd format place more.rules ≡ None
    → IsListedTo format sets values place all → IsListedTo format sets values (place + 1) more
goes_on_listed format sets values place all more value w h is e can added few so_far =
    let ws = so_far.written in
    let listing : more ≡ listing_of (ws ++ w ∷ []) = added ∙ ap (with_written place w) so_far.listing ∙ sym (listing_more ws w place so_far.count) in
    let none : crowd format place (rules_of (ws ++ w ∷ [])) ≡ None = ap (λ (l : Listing). crowd format place l.rules) (sym listing) ∙ few in
    record {
      written = ws ++ w ∷ [];
      read = goes_on_behind format sets values place ws value w h is e none so_far.read;
      listing = listing;
      count = omega (arith, length-append ws (w ∷ []), so_far.count);
      listable = all_more (is_listable format) ws w so_far.listable can;
    }

pub stops_listed : (format : Format) (sets : List Data) (values : List Value) (place : ℕ) (all : Listing) (value : Value) (located : Lent) → place < length values → value ≡ get_or values place value
    → (located.fault ≢ Memory → rule_in format sets place (view value) ≡ Err (located_view located))
    → IsListedTo format sets values place all → located.fault ≢ Memory → listing_at format sets (map view values) ≡ Err (located_view located)
stops_listed format sets values place all value located h is e so_far other =
    ap (λ (r : Find (List Written)). r >>= λ all. Ok (listing_of all)) (stops_behind format sets values place so_far.written value located h is e so_far.read other)

pub crowded_listed : (format : Format) (sets : List Data) (values : List Value) (place : ℕ) (all more : Listing) (value : Value) (w : Written) (located : Lent) → place < length values → value ≡ get_or values place value
    → rule_in format sets place (view value) ≡ Ok w → more ≡ with_written place w all → crowd format place more.rules ≡ Some (located_view located)
    → IsListedTo format sets values place all → listing_at format sets (map view values) ≡ Err (located_view located)
crowded_listed format sets values place all more value w located h is e added many so_far =
    let ws = so_far.written in
    let listing : more ≡ listing_of (ws ++ w ∷ []) = added ∙ ap (with_written place w) so_far.listing ∙ sym (listing_more ws w place so_far.count) in
    let some : crowd format place (rules_of (ws ++ w ∷ [])) ≡ Some (located_view located) = ap (λ (l : Listing). crowd format place l.rules) (sym listing) ∙ many in
    ap (λ (r : Find (List Written)). r >>= λ all. Ok (listing_of all)) (crowded_behind format sets values place ws value w located h is e some so_far.read)

pub ends_listed : (format : Format) (sets : List Data) (values : List Value) (place : ℕ) (all : Listing) → length values ≤ place
    → IsListedTo format sets values place all → listing_at format sets (map view values) ≡ Ok all
ends_listed format sets values place all h so_far =
    ap (λ (r : Find (List Written)). r >>= λ all. Ok (listing_of all)) (ends_behind format sets values place so_far.written h so_far.read)
    ∙ ap (λ (l : Listing). Ok l) (sym so_far.listing)

pub listed_all : (format : Format) (sets : List Data) (values : List Value) (place : ℕ) (all : Listing) → place ≡ length values
    → IsListedTo format sets values place all → IsListed format (length values) all
listed_all format sets values place all end so_far =
    record { written = so_far.written; listing = so_far.listing; count = so_far.count ∙ end; listable = so_far.listable }
