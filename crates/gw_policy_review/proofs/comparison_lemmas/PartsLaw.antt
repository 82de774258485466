-- The parts that differ are named, and no other.
use Rattle.std.proofs.Common.{◌≡◌, ◌∙◌, ap, append_assoc, arith, refl, subst, sym, ℕ, ◌+◌, ◌<◌, Bool, true, false, List, [], ◌∷◌, ◌++◌, length, map, Some, slice_get, suc, zero}
use Rattle.std.proofs.lemmas.List.{append-nil, length-append}
use Rattle.std.specs.Prelude.{◌-◌, ◌*◌, ◌&&◌, ◌==◌, ◌||◌, IsTrue, Option, None, if◌then◌else◌}
use Rattle.std.proofs.lemmas.Bool.{both_ways, eqb-true, le-leb}
use Rattle.std.proofs.lemmas.Nat.{pow_pos}
use Rattle.std.specs.List.{list_all, list_any}
use Rattle.gw_ask_sets.specs.regions.Tidying.{tidy}
use Rattle.gw_ask_sets.proofs.regions_lemmas.OneTidyLaw.{tidy_is_one}
use Rattle.gw_ask_sets.proofs.regions_lemmas.TidyLaw.{tidy_has_the_same, tidy_is_tidy}
use Rattle.gw_ask_sets.specs.regions.Pairs.{Findings}
use Rattle.gw_configuration.specs.Subnet.{Subnet, keys_of, size_of}
use Rattle.gw_configuration.specs.declared.port.Port.{Port}
use Rattle.gw_rules.specs.Range.{holds, is_ordered}
use Rattle.gw_rules.specs.declared.range.Range.{Range}
use Rattle.gw_rules.specs.declared.rule.Rule.{Rule}
use Rattle.gw_policy_review.specs.comparison.Comparison.{judged_by}
use Rattle.gw_policy_review.specs.comparison.Laws.{AlikeIsLike, LikeHasNone, NoneDiffers}
use Rattle.gw_policy_review.specs.comparison.Parts.{AreDifferences, AreLikePorts, ArePortParts, HaveSameNames, HaveSameStations, IsPortSameness, frame_parts, has_key, parts_of_port, port_parts, rest_parts, unless}
use Rattle.gw_policy_review.specs.declared.comparison.parts.Part.{Part}
use Rattle.gw_policy_review.specs.declared.comparison.parts.Part.TheVariants as parts
use Rattle.gw_policy_review.specs.declared.comparison.parts.PortPart.TheVariants as of_port
use Rattle.gw_policy_review.specs.declared.comparison.parts.PortSameness.{PortSameness}
use Rattle.gw_policy_review.specs.declared.comparison.parts.Sameness.{Sameness}
use Rattle.gw_policy_review.specs.declared.comparison.comparison.Compared.{Compared}
use Rattle.gw_policy_review.specs.declared.comparison.comparison.Compared.TheVariants as compared

-- ---- stations

keyed : (stations : List Subnet) (key : ℕ) → has_key stations key ≡ list_any (holds key) (map keys_of stations)
keyed [] key = refl
keyed (s ∷ stations) key = ap (λ (b : Bool). holds key (keys_of s) || b) (keyed stations key)

-- by the same keys in order two ports have the same stations
pub same_stations : (stations others : List Subnet) → (length stations == 0) ≡ (length others == 0)
    → tidy (map keys_of stations) ≡ tidy (map keys_of others) → HaveSameStations stations others
same_stations stations others named e = record {
  named = named;
  addresses = λ key. keyed stations key ∙ sym (tidy_has_the_same (map keys_of stations) key)
      ∙ ap (λ (ranges : List Range). list_any (holds key) ranges) e
      ∙ tidy_has_the_same (map keys_of others) key ∙ sym (keyed others key);
}

ordered : (s : Subnet) → is_ordered (keys_of s) ≡ true
ordered s =
    let some = pow_pos (32 - s.prefix) in
    le-leb (s.network * 65536) ((s.network + size_of s.prefix) * 65536 - 1) (omega (arith, some))

all_ordered : (stations : List Subnet) → list_all is_ordered (map keys_of stations) ≡ true
all_ordered [] = refl
all_ordered (s ∷ stations) = ap (λ b. b && list_all is_ordered (map keys_of stations)) (ordered s) ∙ all_ordered stations

-- ports that have the same stations have the same keys in order
pub same_keys : (stations others : List Subnet) → HaveSameStations stations others → tidy (map keys_of stations) ≡ tidy (map keys_of others)
same_keys stations others same =
    tidy_is_one (tidy (map keys_of stations)) (tidy (map keys_of others))
    (tidy_is_tidy (map keys_of stations) (all_ordered stations)) (tidy_is_tidy (map keys_of others) (all_ordered others))
    (λ key. tidy_has_the_same (map keys_of stations) key ∙ sym (keyed stations key) ∙ same.addresses key ∙ keyed others key
    ∙ sym (tidy_has_the_same (map keys_of others) key))

-- ---- names

-- where two policies have the same names, two rules at one place do
pub same_name : (rules others : List Rule) (place : ℕ) (a b : Rule) → HaveSameNames rules others
    → slice_get rules place ≡ Some a → slice_get others place ≡ Some b → a.name ≡ b.name
same_name [] others place a b same here there = absurd cc
same_name (r ∷ rules) [] place a b same here there = absurd cc
same_name (r ∷ rules) (o ∷ others) zero a b same here there =
    let one : r ≡ a = cc in
    let two : o ≡ b = cc in
    let head : r.name ≡ o.name = cc in
    ap (λ (rule : Rule). rule.name) (sym one) ∙ head ∙ ap (λ (rule : Rule). rule.name) two
same_name (r ∷ rules) (o ∷ others) (suc place) a b same here there =
    let rest : map (λ (rule : Rule). rule.name) rules ≡ map (λ (rule : Rule). rule.name) others = cc in
    same_name rules others place a b rest here there

-- ---- no part

front_none : {A : Type 0} (xs ys : List A) → xs ++ ys ≡ [] → xs ≡ []
front_none [] ys e = refl
front_none (x ∷ xs) ys e = absurd cc

rest_none : {A : Type 0} (xs ys : List A) → xs ++ ys ≡ [] → ys ≡ []
rest_none [] ys e = e
rest_none (x ∷ xs) ys e = absurd cc

is_same : (same : Bool) (part : Part) → unless same part ≡ [] → IsTrue same
is_same true part e = refl
is_same false part e = absurd cc

-- ---- the frame and the rest

record FrameSame (same : Sameness) : Type 0 where
  format : IsTrue same.format
  announce : IsTrue same.announce
  device : IsTrue same.device
  count : IsTrue same.count

frame_same : (same : Sameness) → frame_parts same ≡ [] → FrameSame same
frame_same same e =
    let format = unless same.format parts.Format in
    let announce = unless same.announce parts.Announce in
    let device = unless same.device parts.Device in
    let count = unless same.count parts.Ports in
    let f = rest_none format (announce ++ (device ++ count)) e in
    let g = rest_none announce (device ++ count) f in
    record {
      format = is_same same.format parts.Format (front_none format (announce ++ (device ++ count)) e);
      announce = is_same same.announce parts.Announce (front_none announce (device ++ count) f);
      device = is_same same.device parts.Device (front_none device count g);
      count = is_same same.count parts.Ports (rest_none device count g);
    }

record RestSame (same : Sameness) : Type 0 where
  routes : IsTrue same.routes
  objects : IsTrue same.objects
  audits : IsTrue same.audits
  notes : IsTrue same.notes
  names : IsTrue same.names
  quiets : IsTrue same.quiets

rest_same : (same : Sameness) → rest_parts same ≡ [] → RestSame same
rest_same same e =
    let routes = unless same.routes parts.Routes in
    let objects = unless same.objects parts.Objects in
    let audits = unless same.audits parts.Audits in
    let notes = unless same.notes parts.Notes in
    let names = unless same.names parts.RuleNames in
    let quiets = unless same.quiets parts.Quiets in
    let f = rest_none routes (objects ++ (audits ++ (notes ++ (names ++ quiets)))) e in
    let g = rest_none objects (audits ++ (notes ++ (names ++ quiets))) f in
    let h = rest_none audits (notes ++ (names ++ quiets)) g in
    let i = rest_none notes (names ++ quiets) h in
    record {
      routes = is_same same.routes parts.Routes (front_none routes (objects ++ (audits ++ (notes ++ (names ++ quiets)))) e);
      objects = is_same same.objects parts.Objects (front_none objects (audits ++ (notes ++ (names ++ quiets))) f);
      audits = is_same same.audits parts.Audits (front_none audits (notes ++ (names ++ quiets)) g);
      notes = is_same same.notes parts.Notes (front_none notes (names ++ quiets) h);
      names = is_same same.names parts.RuleNames (front_none names quiets i);
      quiets = is_same same.quiets parts.Quiets (rest_none names quiets i);
    }

-- ---- ports

like_ports : (number : ℕ) (a b : Port) (same : PortSameness) → parts_of_port number same ≡ [] → IsPortSameness a b same → AreLikePorts a b
like_ports number a b same e is =
    let network = unless same.network (parts.OfPort number of_port.Network) in
    let address = unless same.address (parts.OfPort number of_port.Address) in
    let broadcast = unless same.broadcast (parts.OfPort number of_port.Broadcast) in
    let stations = unless same.stations (parts.OfPort number of_port.Stations) in
    let manager = unless same.manager (parts.OfPort number of_port.Manager) in
    let peers = unless same.peers (parts.OfPort number of_port.Peers) in
    let links = front_none (network ++ (address ++ broadcast)) (stations ++ (manager ++ peers)) e in
    let others = rest_none (network ++ (address ++ broadcast)) (stations ++ (manager ++ peers)) e in
    let after_network = rest_none network (address ++ broadcast) links in
    let after_stations = rest_none stations (manager ++ peers) others in
    record {
      network = is.network.0 (is_same same.network _ (front_none network (address ++ broadcast) links));
      address = is.address.0 (is_same same.address _ (front_none address broadcast after_network));
      broadcast = is.broadcast.0 (is_same same.broadcast _ (rest_none address broadcast after_network));
      stations = is.stations.0 (is_same same.stations _ (front_none stations (manager ++ peers) others));
      manager = is.manager.0 (is_same same.manager _ (front_none manager peers after_stations));
      peers = is.peers.0 (is_same same.peers _ (rest_none manager peers after_stations));
    }

-- the number of a port whose parts are none
record NoPart (same : PortSameness) : Type 0 where
  number : ℕ
  none : parts_of_port number same ≡ []

no_part : (number : ℕ) (sames : List PortSameness) (place : ℕ) (same : PortSameness) → port_parts number sames ≡ []
    → slice_get sames place ≡ Some same → NoPart same
no_part number [] place same e there = absurd cc
no_part number (s ∷ sames) zero same e there =
    let is : s ≡ same = cc in
    record { number = number; none = subst (λ (x : PortSameness). parts_of_port number x ≡ []) is (front_none (parts_of_port number s) (port_parts (number + 1) sames) e) }
no_part number (s ∷ sames) (suc place) same e there =
    no_part (number + 1) sames place same (rest_none (parts_of_port number s) (port_parts (number + 1) sames) e) there

some_at : {A : Type 0} (xs : List A) (place : ℕ) → place < length xs → (x : A) × (slice_get xs place ≡ Some x)
some_at [] place within = absurd (omega (arith, within))
some_at (x ∷ xs) zero within = (x, refl)
some_at (x ∷ xs) (suc place) within = some_at xs place (omega (arith, within))

within_at : {A : Type 0} (xs : List A) (place : ℕ) (x : A) → slice_get xs place ≡ Some x → place < length xs
within_at [] place x e = absurd cc
within_at (y ∷ xs) zero x e = omega arith
within_at (y ∷ xs) (suc place) x e = omega (arith, within_at xs place x e)

each_like : (olds news : List Port) (before after : List Part) → (are : ArePortParts olds news before after) → port_parts 1 are.sames ≡ []
    → (place : ℕ) (a b : Port) → slice_get olds place ≡ Some a → slice_get news place ≡ Some b → AreLikePorts a b
each_like olds news before after are none place a b here there =
    let first = within_at olds place a here in
    let second = within_at news place b there in
    let within : place < length are.sames = omega (arith, first, second, are.count) in
    let same = some_at are.sames place within in
    let no = no_part 1 are.sames place same.0 none same.1 in
    like_ports no.number a b same.0 no.none (are.each place a b same.0 here there same.1)

-- ---- all

pub none_differs : NoneDiffers
none_differs old new are =
    let both = sym are.listed in
    let ahead = front_none are.ahead (rest_parts are.same) both in
    let ports = sym are.ports.listed ∙ ahead in
    let frame = frame_same are.same (front_none (frame_parts are.same) (port_parts 1 are.ports.sames) ports) in
    let rest = rest_same are.same (rest_none are.ahead (rest_parts are.same) both) in
    record {
      format = are.is_so.format.0 frame.format;
      announce = are.is_so.announce.0 frame.announce;
      device = are.is_so.device.0 frame.device;
      count = are.is_so.count.0 frame.count;
      ports = each_like old.ports new.ports (frame_parts are.same) are.ahead are.ports
          (rest_none (frame_parts are.same) (port_parts 1 are.ports.sames) ports);
      routes = are.is_so.routes.0 rest.routes;
      objects = are.is_so.objects.0 rest.objects;
      audits = (are.is_so.audits rest.names).0 rest.audits;
      notes = (are.is_so.notes rest.names).0 rest.notes;
      names = are.is_so.names.0 rest.names;
      quiets = are.is_so.quiets.0 rest.quiets;
    }

-- ---- a part that is named differs

both_none : {A : Type 0} (xs ys : List A) → xs ≡ [] → ys ≡ [] → xs ++ ys ≡ []
both_none [] ys e f = f
both_none (x ∷ xs) ys e f = absurd cc

not_named : (same : Bool) (part : Part) → IsTrue same → unless same part ≡ []
not_named true part e = refl
not_named false part e = absurd cc

no_port_part : (number : ℕ) (a b : Port) (same : PortSameness) → AreLikePorts a b → IsPortSameness a b same → parts_of_port number same ≡ []
no_port_part number a b same like is =
    let network = not_named same.network (parts.OfPort number of_port.Network) (is.network.1 like.network) in
    let address = not_named same.address (parts.OfPort number of_port.Address) (is.address.1 like.address) in
    let broadcast = not_named same.broadcast (parts.OfPort number of_port.Broadcast) (is.broadcast.1 like.broadcast) in
    let stations = not_named same.stations (parts.OfPort number of_port.Stations) (is.stations.1 like.stations) in
    let manager = not_named same.manager (parts.OfPort number of_port.Manager) (is.manager.1 like.manager) in
    let peers = not_named same.peers (parts.OfPort number of_port.Peers) (is.peers.1 like.peers) in
    both_none _ _ (both_none _ _ network (both_none _ _ address broadcast)) (both_none _ _ stations (both_none _ _ manager peers))

no_port_parts : (number : ℕ) (sames : List PortSameness)
    → ((place : ℕ) (same : PortSameness) → slice_get sames place ≡ Some same → (n : ℕ) → parts_of_port n same ≡ [])
    → port_parts number sames ≡ []
no_port_parts number [] each = refl
no_port_parts number (same ∷ sames) each =
    both_none (parts_of_port number same) (port_parts (number + 1) sames) (each zero same refl number)
    (no_port_parts (number + 1) sames (λ place s e. each (suc place) s e))

pub like_has_none : LikeHasNone
like_has_none old new differ like are =
    let same = are.same in
    let is = are.is_so in
    let names = is.names.1 like.names in
    let format = not_named same.format parts.Format (is.format.1 like.format) in
    let announce = not_named same.announce parts.Announce (is.announce.1 like.announce) in
    let device = not_named same.device parts.Device (is.device.1 like.device) in
    let count = not_named same.count parts.Ports (is.count.1 like.count) in
    let frame = both_none _ _ format (both_none _ _ announce (both_none _ _ device count)) in
    let of_ports = no_port_parts 1 are.ports.sames (λ place s e n.
    let within = within_at are.ports.sames place s e in
    let here = some_at old.ports place (omega (arith, within, are.ports.count, like.count)) in
    let there = some_at new.ports place (omega (arith, within, are.ports.count, like.count)) in
    no_port_part n here.0 there.0 s (like.ports place here.0 there.0 here.1 there.1) (are.ports.each place here.0 there.0 s here.1 there.1 e)) in
    let routes = not_named same.routes parts.Routes (is.routes.1 like.routes) in
    let objects = not_named same.objects parts.Objects (is.objects.1 like.objects) in
    let audits = not_named same.audits parts.Audits ((is.audits names).1 like.audits) in
    let notes = not_named same.notes parts.Notes ((is.notes names).1 like.notes) in
    let no_names = not_named same.names parts.RuleNames names in
    let quiets = not_named same.quiets parts.Quiets (is.quiets.1 like.quiets) in
    let rest = both_none _ _ routes (both_none _ _ objects (both_none _ _ audits (both_none _ _ notes (both_none _ _ no_names quiets)))) in
    are.listed ∙ both_none are.ahead (rest_parts same) (are.ports.listed ∙ both_none (frame_parts same) (port_parts 1 are.ports.sames) frame of_ports) rest

none_by_length : {A : Type 0} (xs : List A) → length xs ≡ 0 → xs ≡ []
none_by_length [] e = refl
none_by_length (x ∷ xs) e = absurd cc

-- by the words of a comparison
abbrev is_alike : Compared → Bool
is_alike compared.Alike = true
is_alike _ = false

no_differ : (differ found left : ℕ) (pairs : Option Findings) → compared.Alike ≡ judged_by differ found left pairs → differ ≡ 0
no_differ differ found left None e = by (left == 0) (found == 0) (differ == 0) refl (ap is_alike (sym e))
  where
    by : (b c d : Bool) → (differ == 0) ≡ d → is_alike (if b then (if c then (if d then compared.Alike else compared.OtherParts) else compared.Different) else compared.Unfinished) ≡ true → differ ≡ 0
    by true true true is all = eqb-true differ 0 is
    by true true false is all = absurd (both_ways false refl all)
    by true false d is all = absurd (both_ways false refl all)
    by false c d is all = absurd (both_ways false refl all)
no_differ differ found left (Some known) e = by (length known.given_up == 0) (length known.found == 0) (differ == 0) refl (ap is_alike (sym e))
  where
    by : (b c d : Bool) → (differ == 0) ≡ d → is_alike (if b then (if c then (if d then compared.Alike else compared.OtherParts) else compared.Paired) else compared.Unfinished) ≡ true → differ ≡ 0
    by true true true is all = eqb-true differ 0 is
    by true true false is all = absurd (both_ways false refl all)
    by true false d is all = absurd (both_ways false refl all)
    by false c d is all = absurd (both_ways false refl all)

pub alike_is_like : AlikeIsLike
alike_is_like old new most text written =
    none_differs old new (subst (λ (differ : List Part). AreDifferences old new differ)
    (none_by_length written.differ (no_differ (length written.differ) (length written.found) (length written.left) written.pairs written.verdict))
    written.are_differences)

-- ---- the parts of one port more

each_more : (sames : List PortSameness) (same : PortSameness) (P : ℕ → PortSameness → Type 0)
    → ((place : ℕ) (s : PortSameness) → slice_get sames place ≡ Some s → P place s) → P (length sames) same
    → (place : ℕ) (s : PortSameness) → slice_get (sames ++ same ∷ []) place ≡ Some s → P place s
each_more [] same P front last zero s e =
    let is : same ≡ s = cc in
    subst (P 0) is last
each_more [] same P front last (suc place) s e = absurd cc
each_more (x ∷ sames) same P front last zero s e = front zero s e
each_more (x ∷ sames) same P front last (suc place) s e =
    each_more sames same (λ n. P (suc n)) (λ n. front (suc n)) last place s e

parts_more : (number : ℕ) (sames : List PortSameness) (same : PortSameness)
    → port_parts number (sames ++ same ∷ []) ≡ port_parts number sames ++ parts_of_port (length sames + number) same
parts_more number [] same =
    let same_number : number ≡ 0 + number = omega arith in
    append-nil (parts_of_port number same) ∙ ap (λ n. parts_of_port n same) same_number
parts_more number (x ∷ sames) same =
    let next : length sames + (number + 1) ≡ suc (length sames) + number = omega arith in
    ap (λ (xs : List Part). parts_of_port number x ++ xs) (parts_more (number + 1) sames same
    ∙ ap (λ n. port_parts (number + 1) sames ++ parts_of_port n same) next)
    ∙ sym (append_assoc (parts_of_port number x) (port_parts (number + 1) sames) (parts_of_port (suc (length sames) + number) same))

abbrev pub Listed : List Port → List Port → List Part → ℕ → List Part → Type 0
Listed olds news start place out =
    (sames : List PortSameness) × (length sames ≡ place)
    × ((at : ℕ) (a b : Port) (same : PortSameness) → slice_get olds at ≡ Some a → slice_get news at ≡ Some b
    → slice_get sames at ≡ Some same → IsPortSameness a b same)
    × (out ≡ start ++ port_parts 1 sames)

pub listed_more : (olds news : List Port) (start out more : List Part) (place : ℕ) (a b : Port) (same : PortSameness)
    → slice_get olds place ≡ Some a → slice_get news place ≡ Some b → IsPortSameness a b same
    → more ≡ out ++ parts_of_port (place + 1) same → Listed olds news start place out → Listed olds news start (place + 1) more
listed_more olds news start out more place a b same here there is grown (sames, count, each, listed) = (
  sames ++ same ∷ [],
  omega (arith, count, length-append sames (same ∷ [])),
  λ at x y s first second e.
      each_more sames same (λ n s. (x y : Port) → slice_get olds n ≡ Some x → slice_get news n ≡ Some y → IsPortSameness x y s)
      (λ n s e x y first second. each n x y s first second e)
      (λ x y first second.
      let one : Some a ≡ Some x = sym here ∙ ap (slice_get olds) (sym count) ∙ first in
      let two : Some b ≡ Some y = sym there ∙ ap (slice_get news) (sym count) ∙ second in
      let is_a : a ≡ x = cc in
      let is_b : b ≡ y = cc in
      subst (λ (z : Port). IsPortSameness z y same) is_a (subst (λ (z : Port). IsPortSameness a z same) is_b is))
      at s e x y first second,
  grown ∙ ap (λ (xs : List Part). xs ++ parts_of_port (place + 1) same) listed
      ∙ append_assoc start (port_parts 1 sames) (parts_of_port (place + 1) same)
      ∙ ap (λ (xs : List Part). start ++ xs) (sym (parts_more 1 sames same ∙ ap (λ n. port_parts 1 sames ++ parts_of_port (n + 1) same) count)),
)
