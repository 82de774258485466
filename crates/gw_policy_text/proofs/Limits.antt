-- Parts that keep the limits.
use Rattle.std.proofs.Common.{◌≡◌, ◌≤◌, ◌&&◌, ◌||◌, ◌==◌, ◌∷◌, ◌++◌, [], ℕ, Bool, List, true, false, not, length, refl, ap, sym, ◌∙◌, Option, Some, None, if◌then◌else◌}
use Rattle.std.proofs.lemmas.Bool.{and_from, eq-eqb, le-leb}
use Rattle.std.proofs.lemmas.List.Folds.{list_all-append}
use Rattle.std.specs.List.{list_all}
use Rattle.gw_addr.specs.declared.TheConstants.{MAX_PORTS}
use Rattle.gw_rules.specs.declared.format.Format.{Format}
use Rattle.gw_rules.specs.Format.{names_stations}
use Rattle.gw_configuration.specs.declared.port.Port.{Port}
use Rattle.gw_configuration.specs.declared.policing.Policing.{Policing}
use Rattle.gw_configuration.specs.Configuration.{Configuration, are_named, is_by, is_managed, is_plain, is_plain_port, keeps_assertions, keeps_counts, keeps_limits, keeps_rules, policing_of}
use Rattle.gw_policy_text.specs.Parts.{is_plain_in}

-- one more that passes a test, as a loop adds it
pub all_more : {X : Type 0} (test : X → Bool) (xs : List X) (x : X) → list_all test xs ≡ true → test x ≡ true → list_all test (xs ++ x ∷ []) ≡ true
all_more test xs x front last = list_all-append test xs (x ∷ []) ∙ rw (front, last) refl

pub counts_kept : (c : Configuration) → 1 ≤ length c.ports → length c.ports ≤ MAX_PORTS → length c.routes ≤ 512 → length c.objects ≤ 256
    → list_all (is_by (length c.ports)) c.routes ≡ true → keeps_counts c ≡ true
counts_kept c some most routes objects by =
    rw (le-leb _ _ some, le-leb _ _ most, le-leb _ _ routes, le-leb _ _ objects, by) refl

-- what each passes or all are spared, all pass or are spared
each_or : {X : Type 0} (spared : Bool) (test : X → Bool) (xs : List X) → list_all (λ x. spared || test x) xs ≡ true → (spared || list_all test xs) ≡ true
each_or true test xs all = refl
each_or false test xs all = all

both_or : (spared a b : Bool) → (spared || a) ≡ true → (spared || b) ≡ true → (spared || (a && b)) ≡ true
both_or true a b first second = refl
both_or false a b first second = and_from a b first second

-- and in the ports and the top table
pub plain_parts : (format : Format) (announce : Bool) (ports : List Port) (policy : Policing)
    → (names_stations format || not announce) ≡ true → list_all (is_plain_in format) ports ≡ true
    → (names_stations format || is_plain [] policy) ≡ true → (names_stations format || (not announce && is_plain ports policy)) ≡ true
plain_parts format announce ports policy silent none plain =
    both_or (names_stations format) (not announce) (is_plain ports policy) silent
    (both_or (names_stations format) (list_all is_plain_port ports) (is_plain [] policy)
    (each_or (names_stations format) is_plain_port ports none) plain)

limits_kept : (c : Configuration) → keeps_counts c ≡ true → are_named c.device c.objects ≡ true → list_all is_managed c.ports ≡ true
    → keeps_rules c.format (policing_of c) ≡ true → keeps_assertions c.assertions ≡ true
    → (names_stations c.format || (not c.announce && is_plain c.ports (policing_of c))) ≡ true → keeps_limits c ≡ true
limits_kept c counts named managed rules asserted plain = rw (counts, named, managed, rules, asserted, plain) refl

-- so they are made
pub within_limits : (c : Configuration) (made : Option Configuration) → made ≡ (if keeps_limits c then Some c else None) → keeps_counts c ≡ true
    → are_named c.device c.objects ≡ true → list_all is_managed c.ports ≡ true → keeps_rules c.format (policing_of c) ≡ true
    → keeps_assertions c.assertions ≡ true
    → (names_stations c.format || (not c.announce && is_plain c.ports (policing_of c))) ≡ true → made ≡ Some c
within_limits c made is counts named managed rules asserted plain = is ∙ ap (λ b. if b then Some c else None) (limits_kept c counts named managed rules asserted plain)
