-- The policy that is read keeps the limits.
use Rattle.std.proofs.Common.{◌≡◌, ◌≤◌, ◌&&◌, ◌||◌, ◌==◌, ◌∙◌, [], ℕ, Bool, List, true, false, not, length, refl, ap, arith, sym, nat_le}
use Rattle.std.specs.List.{list_all}
use Rattle.std.proofs.lemmas.Bool.{and_from, eq-eqb, le-leb}
use Rattle.gw_rules.specs.Format.{names_stations}
use Rattle.gw_rules.specs.RuleList.{has_no_quiet, keeps_counts as has_short_fields}
use Rattle.gw_rules.specs.declared.format.Format.{Format}
use Rattle.gw_rules.specs.declared.format.Format.TheVariants as formats
use Rattle.gw_configuration.specs.declared.policing.Policing.{Policing}
use Rattle.gw_configuration.specs.Configuration.{are_counted, are_places, is_configurable, is_plain, keeps_rules}
use Rattle.gw_policy_text.specs.Policy.{Listing, audits_for, listing_of, notes_for, stands_for, tables_from}
use Rattle.gw_policy_text.specs.internal.Listing.{IsListed, is_listable}
use Rattle.gw_policy_text.proofs.Listed.{all_plain, audits_counted, flat_counted, in_order, list_configurable, notes_counted, plain_list, tables_counted}

-- the policy that has this list, of so many tables
pub record HasList (policy : Policing) (count : ℕ) (listing : Listing) : Type 0 where
  pub rules : policy.rules ≡ listing.rules
  pub tables : policy.tables ≡ listing.tables
  pub notes : policy.notes ≡ listing.notes
  pub audits : policy.audits ≡ listing.audits
  pub written : policy.written ≡ count

pub rules_kept : (format : Format) (count : ℕ) (listing : Listing) (policy : Policing) → count ≤ 512 → IsListed format count listing → HasList policy count listing → keeps_rules format policy ≡ true
rules_kept format count listing policy few is has =
    let ws = is.written in
    let all = is.listing in
    let rules : policy.rules ≡ (listing_of ws).rules = has.rules ∙ ap (λ (l : Listing). l.rules) all in
    let tables : policy.tables ≡ (listing_of ws).tables = has.tables ∙ ap (λ (l : Listing). l.tables) all in
    let notes : policy.notes ≡ (listing_of ws).notes = has.notes ∙ ap (λ (l : Listing). l.notes) all in
    let audits : policy.audits ≡ (listing_of ws).audits = has.audits ∙ ap (λ (l : Listing). l.audits) all in
    let placed : are_places count 0 (tables_from 0 ws) ≡ true = in_order count 0 0 ws (omega arith) (omega (arith, is.count)) in
    let one : length (tables_from 0 ws) ≡ length (listing_of ws).rules = tables_counted 0 ws in
    let two : length (listing_of ws).notes ≡ length (listing_of ws).rules = flat_counted notes_for stands_for notes_counted ws in
    let three : length (listing_of ws).audits ≡ length (listing_of ws).rules = flat_counted audits_for stands_for audits_counted ws in
    rw (rules, tables, notes, audits, has.written)
    (and_from _ _ (eq-eqb _ _ one) (and_from _ _ (eq-eqb _ _ two) (and_from _ _ (eq-eqb _ _ three)
    (and_from _ _ (list_configurable format ws is.listable) (and_from _ _ (le-leb count 512 few) placed)))))

-- formats 1 and 2

pub plain_kept : (format : Format) (count : ℕ) (listing : Listing) (policy : Policing) → IsListed format count listing → HasList policy count listing
    → (names_stations format || has_short_fields policy.rules) ≡ true → (names_stations format || (length policy.sets == 0)) ≡ true
    → (names_stations format || (length policy.assertions == 0)) ≡ true → (names_stations format || is_plain [] policy) ≡ true
plain_kept format count listing policy is has short no_sets no_assertions = on (names_stations format) refl short no_sets no_assertions
  where
    on : (b : Bool) → names_stations format ≡ b → (b || has_short_fields policy.rules) ≡ true → (b || (length policy.sets == 0)) ≡ true → (b || (length policy.assertions == 0)) ≡ true → (b || is_plain [] policy) ≡ true
    on true e s n a = refl
    on false e s n a =
        let ws = is.written in
        let all = is.listing in
        let plain = plain_list 0 ws (all_plain format e ws is.listable) in
        let rules : policy.rules ≡ (listing_of ws).rules = has.rules ∙ ap (λ (l : Listing). l.rules) all in
        let tables : policy.tables ≡ (listing_of ws).tables = has.tables ∙ ap (λ (l : Listing). l.tables) all in
        let notes : policy.notes ≡ (listing_of ws).notes = has.notes ∙ ap (λ (l : Listing). l.notes) all in
        let audits : policy.audits ≡ (listing_of ws).audits = has.audits ∙ ap (λ (l : Listing). l.audits) all in
        let loud : has_no_quiet policy.rules ≡ true = ap has_no_quiet rules ∙ plain.loud in
        let unnoted : list_all (λ note. length note == 0) policy.notes ≡ true = ap (λ (ns : List (List ℕ)). list_all (λ note. length note == 0) ns) notes ∙ plain.unnoted in
        let unaudited : list_all not policy.audits ≡ true = ap (λ (bs : List Bool). list_all not bs) audits ∙ plain.unaudited in
        let count_is : (policy.written == length policy.tables) ≡ true = eq-eqb _ _ (has.written ∙ sym is.count ∙ sym plain.count ∙ sym (ap length tables)) in
        let counted : are_counted 0 policy.tables ≡ true = ap (are_counted 0) tables ∙ plain.counted in
        and_from (has_short_fields policy.rules) _ s (and_from (has_no_quiet policy.rules) _ loud (and_from _ _ unnoted (and_from _ _ unaudited (and_from _ _ n (and_from _ _ a (and_from _ _ count_is counted))))))
