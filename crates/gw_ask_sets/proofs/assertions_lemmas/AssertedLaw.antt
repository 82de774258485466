-- The rules that match what no event raises.
use Rattle.std.proofs.Common.{◌≡◌, ◌∙◌, sym, ap, refl, ℕ, Bool, true, false, ◌&&◌, ◌||◌, ◌==◌, List, [], ◌∷◌, length, map, Option, Some, None}
use Rattle.std.specs.Prelude.{not}
use Rattle.std.specs.List.{list_any}
use Rattle.std.specs.Option.{option_map_or}
use Rattle.gw_addr.specs.Address.{big_endian, octets_of}
use Rattle.gw_configuration.specs.Configuration.{Configuration}
use Rattle.gw_configuration.specs.Subnet.{Subnet, keys_of}
use Rattle.gw_configuration.specs.declared.port.Port.{Port}
use Rattle.gw_rules.specs.Ask.{Ask}
use Rattle.gw_rules.specs.Operation.{operation_number}
use Rattle.gw_rules.specs.Range.{admits, holds}
use Rattle.gw_rules.specs.Rule.{matches}
use Rattle.gw_rules.specs.declared.operation.Operation.TheVariants.{Enter, Route}
use Rattle.gw_rules.specs.declared.range.Range.{Range}
use Rattle.gw_rules.specs.declared.rule.Rule.{Rule}
use Rattle.gw_ask_sets.specs.assertions.Asserted.{belongs_by, enters_at, enters_home, host_keys, is_home, is_homeward, is_number, is_unraised}
use Rattle.gw_ask_sets.specs.assertions.internal.Unraised.{enter_rule, exactly, homeward_rule, reserved_keys, station_keys}
use Rattle.gw_ask_sets.specs.regions.Ranges.{between}
use Rattle.gw_ask_sets.specs.regions.Regions.{Region, lies_in_one}
use Rattle.gw_ask_sets.specs.shapes.Regions.{region_of}
use Rattle.gw_ask_sets.specs.shapes.Shapes.{shapes}
use Rattle.gw_ask_sets.proofs.assertions_lemmas.NumberLaw.{holds_one, only_admits}
use Rattle.gw_ask_sets.proofs.regions_lemmas.RangeLaw.{and_all, and_none, or_none, without_law}

pub homeward_law : (device : ℕ) (ask : Ask) → matches (homeward_rule device) ask ≡ is_homeward device ask
unfolding matches
homeward_law device ask =
    ap (λ b. b && (admits (exactly device) ask.destination_network && true)) (only_admits (operation_number Route) ask.operation)
    ∙ ap (λ b. is_number (operation_number Route) ask.operation && b)
    (and_all (admits (exactly device) ask.destination_network) ∙ only_admits device ask.destination_network)

enter_law : (number : ℕ) (keys : List Range) (ask : Ask)
    → matches (enter_rule number keys) ask
    ≡ (is_number (operation_number Enter) ask.operation && (is_number number ask.port && admits keys ask.source_key))
unfolding matches
enter_law number keys ask =
    ap (λ b. b && (admits (exactly number) ask.port && (admits keys ask.source_key && true))) (only_admits (operation_number Enter) ask.operation)
    ∙ ap (λ b. is_number (operation_number Enter) ask.operation && (b && (admits keys ask.source_key && true))) (only_admits number ask.port)
    ∙ ap (λ b. is_number (operation_number Enter) ask.operation && (is_number number ask.port && b)) (and_all (admits keys ask.source_key))

-- ---- by a port

same_home : (number : ℕ) (port : Port) (keys : List Range) (ask : Ask) → admits keys ask.source_key ≡ is_home port ask.source_key
    → matches (enter_rule number keys) ask ≡ enters_at number port ask
same_home number port keys ask same =
    enter_law number keys ask
    ∙ ap (λ b. is_number (operation_number Enter) ask.operation && (is_number number ask.port && b)) same

-- everyone belongs to it
pub all_home : (number : ℕ) (port : Port) → (length port.stations == 0) ≡ true → (ask : Ask)
    → matches (enter_rule number []) ask ≡ enters_at number port ask
all_home number port none ask =
    same_home number port [] ask (sym (ap (λ b. b || option_map_or (belongs_by port) ask.source_key false) none))

any_key : (n : ℕ) (stations : List Subnet) → list_any (holds n) (map keys_of stations) ≡ list_any (λ s. holds n (keys_of s)) stations
any_key n [] = refl
any_key n (s ∷ stations) = ap (λ b. holds n (keys_of s) || b) (any_key n stations)

-- the keys of its stations
keyed : (port : Port) (n : ℕ) → list_any (holds n) (station_keys port) ≡ belongs_by port n
keyed port n =
    without_law n (map keys_of port.stations) (reserved_keys port)
    ∙ ap (λ b. b && not (list_any (holds n) (reserved_keys port))) (any_key n port.stations)
    ∙ ap (λ b. list_any (λ s. holds n (keys_of s)) port.stations && not b) (
    ap (λ b. holds n (between own own) || b) (or_none (holds n (host_keys port.broadcast)))
    ∙ ap (λ b. b || holds n (host_keys port.broadcast)) (holds_one own n)
    )
  where
    own : ℕ
    own = big_endian (octets_of port.address)

home : (port : Port) (x : Option ℕ) → (length port.stations == 0) ≡ false
    → option_map_or (λ n. list_any (holds n) (station_keys port)) x false ≡ is_home port x
home port x some = by x ∙ sym (ap (λ b. b || option_map_or (belongs_by port) x false) some)
  where
    by : (x : Option ℕ) → option_map_or (λ n. list_any (holds n) (station_keys port)) x false ≡ option_map_or (belongs_by port) x false
    by None = refl
    by (Some n) = keyed port n

pub some_home : (number : ℕ) (port : Port) → (length port.stations == 0) ≡ false → (length (station_keys port) == 0) ≡ false → (ask : Ask)
    → matches (enter_rule number (station_keys port)) ask ≡ enters_at number port ask
some_home number port some keys ask =
    same_home number port (station_keys port) ask
    (ap (λ b. b || option_map_or (λ n. list_any (holds n) (station_keys port)) ask.source_key false) keys ∙ home port ask.source_key some)

pub none_home : (number : ℕ) (port : Port) → (length port.stations == 0) ≡ false → station_keys port ≡ [] → (ask : Ask)
    → false ≡ enters_at number port ask
none_home number port some none ask =
    sym (ap (λ b. is_number (operation_number Enter) ask.operation && (is_number number ask.port && b))
    (sym (home port ask.source_key some)
    ∙ ap (λ (keys : List Range). option_map_or (λ n. list_any (holds n) keys) ask.source_key false) none ∙ nothing ask.source_key)
    ∙ fails (is_number (operation_number Enter) ask.operation) (is_number number ask.port))
  where
    nothing : (x : Option ℕ) → option_map_or (λ n. list_any (holds n) []) x false ≡ false
    nothing None = refl
    nothing (Some n) = refl

    fails : (a b : Bool) → (a && (b && false)) ≡ false
    fails true b = and_none b
    fails false b = refl

-- ---- all of it

-- the asks of the shapes, without those that the rules match
pub asserted_of : (c : Configuration) (made rest regions : List Region) (home : Rule) (ask : Ask) → regions ≡ map region_of (shapes c)
    → home ≡ homeward_rule c.device.network → lies_in_one rest ask ≡ (lies_in_one regions ask && not (matches home ask))
    → lies_in_one made ask ≡ (lies_in_one rest ask && not (enters_home 1 c.ports ask))
    → lies_in_one made ask ≡ (lies_in_one (map region_of (shapes c)) ask && not (is_unraised c ask))
asserted_of c made rest regions home ask are is less least =
    least ∙ ap (λ b. b && not (enters_home 1 c.ports ask)) less
    ∙ ap (λ (rs : List Region). (lies_in_one rs ask && not (matches home ask)) && not (enters_home 1 c.ports ask)) are
    ∙ ap (λ b. (lies_in_one (map region_of (shapes c)) ask && not b) && not (enters_home 1 c.ports ask))
    (ap (λ (r : Rule). matches r ask) is ∙ homeward_law c.device.network ask)
    ∙ by (lies_in_one (map region_of (shapes c)) ask) (is_homeward c.device.network ask) (enters_home 1 c.ports ask)
  where
    by : (a h e : Bool) → ((a && not h) && not e) ≡ (a && not (h || e))
    by true true e = refl
    by true false e = refl
    by false h e = refl
