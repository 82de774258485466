-- The parts of a site, one after the other.
use Rattle.std.proofs.Common.{◌≡◌, ◌∙◌, sym, ap, refl, ℕ, ◌+◌, ◌*◌, ◌%◌, ◌^◌, ◌<◌, ◌≤◌, true, nat_le, List, [], ◌∷◌, ◌++◌, None, length, take, drop, get_or, arith, add-one, append_assoc}
use Rattle.std.proofs.Math.Seq.{take-suc}
use Rattle.std.proofs.lemmas.Bool.{agree_below_at, leb-true}
use Rattle.std.proofs.lemmas.List.{drop_more, length-take}
use Rattle.gw_configuration.specs.declared.port.Port.{Port}
use Rattle.gw_policy_drafts.specs.beginning.Flaws.{flaw_of, wrong_from, wrong_or}
use Rattle.gw_policy_drafts.specs.beginning.Ports.{port_of, ports_from}
use Rattle.gw_policy_drafts.specs.beginning.Site.{Site}
use Rattle.gw_policy_drafts.specs.declared.beginning.part.SitePart.{SitePart}
use Rattle.gw_policy_drafts.specs.declared.beginning.part.SiteOption.{SiteOption}

-- a subnet has no more addresses than there are
pub few_addresses : (bits : ℕ) → bits < 33 → 1 * 2 ^ bits % 18446744073709551616 ≤ 4294967296
few_addresses bits small =
    leb-true (1 * 2 ^ bits % 18446744073709551616) 4294967296
    (agree_below_at (λ k. nat_le (1 * 2 ^ k % 18446744073709551616) 4294967296) (λ k. true) 33 bits refl small)

-- the part at a place is the next to be judged
pub wrong_next : (s : Site) (option : SiteOption) (parts : List SitePart) (place : ℕ) (d : SitePart) → place < length parts
    → wrong_from s option (take place parts) (drop place parts)
    ≡ wrong_or (flaw_of s option (take place parts) (get_or parts place d)) option place
    (wrong_from s option (take (place + 1) parts) (drop (place + 1) parts))
unfolding wrong_from
wrong_next s option parts place d within =
    let part = get_or parts place d in
    let rest : drop place parts ≡ part ∷ drop (place + 1) parts = drop_more parts place d within in
    let front : take place parts ++ part ∷ [] ≡ take (place + 1) parts =
    sym (ap (λ n. take n parts) (add-one place) ∙ take-suc parts place d within) in
    let long : length (take place parts) ≡ place = omega (arith, length-take place parts, within) in
    ap (wrong_from s option (take place parts)) rest
    ∙ ap (λ n. wrong_or (flaw_of s option (take place parts) part) option n (wrong_from s option (take place parts ++ part ∷ []) (drop (place + 1) parts))) long
    ∙ ap (λ (before : List SitePart). wrong_or (flaw_of s option (take place parts) part) option place (wrong_from s option before (drop (place + 1) parts))) front

-- the port of the part at a place is the next one
pub port_next : (s : Site) (parts : List SitePart) (place : ℕ) (part : SitePart) (ports : List Port) (all : List Port) → place < length parts → get_or parts place part ≡ part
    → ports ++ ports_from s (place + 1) (drop place parts) ≡ all
    → (ports ++ port_of s (place + 1) part ∷ []) ++ ports_from s (place + 1 + 1) (drop (place + 1) parts) ≡ all
unfolding ports_from
port_next s parts place part ports all within at so_far =
    let rest : drop place parts ≡ part ∷ drop (place + 1) parts =
    drop_more parts place part within ∙ ap (λ (x : SitePart). x ∷ drop (place + 1) parts) at in
    append_assoc ports (port_of s (place + 1) part ∷ []) (ports_from s (place + 1 + 1) (drop (place + 1) parts))
    ∙ sym (ap (λ (xs : List SitePart). ports ++ ports_from s (place + 1) xs) rest)
    ∙ so_far

-- after the last part none is wrong, and before the first no port is made
pub wrong_last : (s : Site) (option : SiteOption) (before parts : List SitePart) → parts ≡ [] → wrong_from s option before parts ≡ None
unfolding wrong_from
wrong_last s option before parts e = ap (wrong_from s option before) e

pub no_port : (s : Site) (number : ℕ) (parts : List SitePart) → parts ≡ [] → ports_from s number parts ≡ []
unfolding ports_from
no_port s number parts e = ap (ports_from s number) e
