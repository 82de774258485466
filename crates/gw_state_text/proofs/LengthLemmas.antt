-- How many octets each line has at most.
use Rattle.std.proofs.Common.{◌≡◌, ℕ, ◌+◌, ◌*◌, ◌^◌, ◌<◌, ◌≤◌, true, List, [], ◌∷◌, ◌++◌, length, get_or, ap, arith, Option, Some, None}
use Rattle.std.specs.Prelude.{codes, nat_le, ◌&&◌}
use Rattle.std.proofs.lemmas.Bool.{leb-true}
use Rattle.gw_addr.proofs.Reading.{both_true}
use Rattle.std.specs.Fmt.{decimal}
use Rattle.std.specs.List.{flat_map}
use Rattle.std.proofs.lemmas.Fmt.{length-decimal-le}
use Rattle.std.proofs.lemmas.List.{length-append}
use Rattle.std.proofs.lemmas.List.Concat.{flat_map-cons}
use Rattle.gw_addr.specs.declared.bip.BipAddr.{BipAddr}
use Rattle.gw_addr.specs.declared.entry.BdtEntry.{BdtEntry}
use Rattle.gw_addr.specs.Address.{IsAddress, text_of}
use Rattle.gw_addr.specs.Reading.{AreOctets}
use Rattle.gw_addr.specs.Text.{four_text}
use Rattle.gw_tables.specs.declared.bdt_fdt.kept.KeptDevice.{KeptDevice}
use Rattle.gw_configuration.specs.declared.object.ObjectKind.{ObjectKind}
use Rattle.gw_objects.specs.declared.value.PropertyValue.{PropertyValue}
use Rattle.gw_tables.specs.declared.routes.route.Route.{Route}
use Rattle.gw_state.specs.declared.counts.SavedCounts.{SavedCounts}
use Rattle.gw_state.specs.declared.port.SavedPort.{SavedPort}
use Rattle.gw_state.specs.Saved.{SavedObject, are_countable}
use Rattle.gw_state_text.specs.Fit.{AreOfKind, FitsDevices, FitsEntries, FitsKind, FitsObjects, FitsPorts, FitsRoutes}
use Rattle.gw_state_text.specs.Items.{AllFit, AreItems}
use Rattle.gw_state_text.specs.Laws.{TextsAreShort}
use Rattle.gw_state_text.specs.Text.{counts_line, device_line, end_line, entry_line, entry_word, first_line, object_text, object_line, peer_word, port_line, port_text, route_line, slot_text, slots_text, value_text}
use Rattle.gw_state_text.proofs.ValueLemmas.{digits_few}

decimal_8 : (n : ℕ) → n < 2 ^ 8 → length (decimal n) ≤ 3
decimal_8 n small = length-decimal-le 3 n (omega arith) (omega arith) (omega arith)

decimal_16 : (n : ℕ) → n < 2 ^ 16 → length (decimal n) ≤ 5
decimal_16 n small = length-decimal-le 5 n (omega arith) (omega arith) (omega arith)

decimal_64 : (n : ℕ) → n < 2 ^ 64 → length (decimal n) ≤ 20
decimal_64 n small = length-decimal-le 20 n (omega arith) (omega arith) (omega arith)

-- ---- lines

two_words : (w a b : List ℕ) (i j k : ℕ) → length w ≤ i → length a ≤ j → length b ≤ k → length (w ++ (a ++ 32 ∷ (b ++ 10 ∷ []))) ≤ i + j + k + 2
two_words w a b i j k p q r =
    omega (arith, p, q, r, length-append w (a ++ 32 ∷ (b ++ 10 ∷ [])), length-append a (32 ∷ (b ++ 10 ∷ [])), length-append b (10 ∷ []))

three_words : (w a b d : List ℕ) (i j k l : ℕ) → length w ≤ i → length a ≤ j → length b ≤ k → length d ≤ l
    → length (w ++ (a ++ 32 ∷ (b ++ 32 ∷ (d ++ 10 ∷ [])))) ≤ i + j + k + l + 3
three_words w a b d i j k l p q r s =
    omega (
      arith,
      p,
      q,
      r,
      s,
      length-append w (a ++ 32 ∷ (b ++ 32 ∷ (d ++ 10 ∷ []))),
      length-append a (32 ∷ (b ++ 32 ∷ (d ++ 10 ∷ []))),
      length-append b (32 ∷ (d ++ 10 ∷ [])),
      length-append d (10 ∷ []),
    )

four_few : (octets : List ℕ) → AreOctets octets → length (four_text octets) ≤ 15
unfolding four_text
four_few octets are =
    let a = decimal (get_or octets 0 0) in
    let b = decimal (get_or octets 1 0) in
    let c = decimal (get_or octets 2 0) in
    let d = decimal (get_or octets 3 0) in
    omega (
      arith,
      decimal_8 (get_or octets 0 0) (are 0),
      decimal_8 (get_or octets 1 0) (are 1),
      decimal_8 (get_or octets 2 0) (are 2),
      decimal_8 (get_or octets 3 0) (are 3),
      length-append a (46 ∷ (b ++ 46 ∷ (c ++ 46 ∷ d))),
      length-append b (46 ∷ (c ++ 46 ∷ d)),
      length-append c (46 ∷ d),
    )

address_few : (x : BipAddr) → IsAddress x → length (text_of x) ≤ 21
address_few x is =
    let a = decimal (get_or x.ip 0 0) in
    let b = decimal (get_or x.ip 1 0) in
    let c = decimal (get_or x.ip 2 0) in
    let d = decimal (get_or x.ip 3 0) in
    let e = decimal x.udp in
    omega (
      arith,
      decimal_8 (get_or x.ip 0 0) (is.octets 0),
      decimal_8 (get_or x.ip 1 0) (is.octets 1),
      decimal_8 (get_or x.ip 2 0) (is.octets 2),
      decimal_8 (get_or x.ip 3 0) (is.octets 3),
      decimal_16 x.udp is.udp,
      length-append a (46 ∷ (b ++ 46 ∷ (c ++ 46 ∷ (d ++ 58 ∷ e)))),
      length-append b (46 ∷ (c ++ 46 ∷ (d ++ 58 ∷ e))),
      length-append c (46 ∷ (d ++ 58 ∷ e)),
      length-append d (58 ∷ e),
    )

-- ---- lists

-- each item that fits has a text of at most so many octets
items_few : {A : Type 0} (line : A → List ℕ) (Fits : List A → A → Type 0) (most : ℕ) (before items : List A)
    → ((before : List A) (item : A) → Fits before item → length (line item) ≤ most) → AllFit Fits before items
    → length (flat_map line items) ≤ length items * most
unfolding AllFit
items_few line Fits most before [] few fit = omega arith
items_few line Fits most before (item ∷ items) few fit =
    let later = items_few line Fits most (before ++ item ∷ []) items few fit.1 in
    let one = few before item fit.0 in
    let parts = ap length (flat_map-cons line item items) in
    omega (arith, later, one, parts, length-append (line item) (flat_map line items))

all_few : {A : Type 0} (line : A → List ℕ) (Fits : List A → A → Type 0) (most count : ℕ) (items : List A)
    → ((before : List A) (item : A) → Fits before item → length (line item) ≤ most) → AreItems Fits count items
    → length (flat_map line items) ≤ count * most
all_few line Fits most count items few are =
    let each = items_few line Fits most [] items few are.fit in
    scaled (length (flat_map line items)) (length items) count most each are.few
  where
    scaled : (n k count most : ℕ) → n ≤ k * most → k ≤ count → n ≤ count * most
    scaled n k count most a b = grind (arith)

-- ---- each kind

peer_few : (before : List BdtEntry) (e : BdtEntry) → FitsEntries before e → length (entry_line peer_word e) ≤ 43
peer_few before e fits =
    two_words peer_word (text_of e.address) (four_text e.mask) 5 21 15 (omega arith) (address_few e.address fits.is.address) (four_few e.mask fits.is.octets)

entry_few : (before : List BdtEntry) (e : BdtEntry) → FitsEntries before e → length (entry_line entry_word e) ≤ 44
entry_few before e fits =
    two_words entry_word (text_of e.address) (four_text e.mask) 6 21 15 (omega arith) (address_few e.address fits.is.address) (four_few e.mask fits.is.octets)

device_few : (before : List KeptDevice) (d : KeptDevice) → FitsDevices before d → length (device_line d) ≤ 56
device_few before d fits =
    three_words (codes "device ") (text_of d.address) (decimal d.time_to_live) (decimal d.left) 7 21 5 20 (omega arith)
    (address_few d.address fits.is.address) (decimal_16 d.time_to_live fits.is.time_to_live) (decimal_64 d.left fits.is.left)

route_few : (ports : ℕ) (before : List (ℕ × Route)) (r : ℕ × Route) → FitsRoutes ports before r → length (route_line r) ≤ 38
route_few ports before r fits =
    three_words (codes "route ") (decimal r.0) (decimal r.1.port) (text_of r.1.next) 6 5 3 21 (omega arith)
    (decimal_16 r.0 (omega (arith, fits.is.network.high))) (decimal_8 r.1.port fits.is.port) (address_few r.1.next fits.is.network.address)

port_few : (before : List SavedPort) (p : SavedPort) → FitsPorts before p → length (port_text p) ≤ 12769
port_few before p fits =
    let line = two_words (codes "port ") (decimal p.network) (text_of p.address) 5 5 21 (omega arith)
    (decimal_16 p.network (omega (arith, fits.is.high))) (address_few p.address fits.is.address) in
    let peers = all_few (entry_line peer_word) FitsEntries 43 64 p.peers peer_few fits.peers in
    let entries = all_few (entry_line entry_word) FitsEntries 44 64 p.entries entry_few fits.entries in
    let devices = all_few device_line FitsDevices 56 128 p.devices device_few fits.devices in
    sum (port_line p.network p.address) (flat_map (entry_line peer_word) p.peers) (flat_map (entry_line entry_word) p.entries)
    (flat_map device_line p.devices) line peers entries devices
  where
    sum : (a b c d : List ℕ) → length a ≤ 33 → length b ≤ 2752 → length c ≤ 2816 → length d ≤ 7168 → length (a ++ (b ++ (c ++ d))) ≤ 12769
    sum a b c d p q r s = omega (arith, p, q, r, s, length-append a (b ++ (c ++ d)), length-append b (c ++ d), length-append c d)

-- ---- objects

slot_few : (kind : ObjectKind) (n : ℕ) (value : PropertyValue) → n < 100 → FitsKind kind value → length (slot_text n (Some value)) ≤ 529
slot_few kind n value small fits =
    two_words (codes "slot ") (decimal n) (value_text value) 5 2 520 (omega arith) (length-decimal-le 2 n (omega arith) (omega arith) (omega arith))
    (digits_few kind value fits)

slots_few : (kind : ObjectKind) (n : ℕ) (slots : List (Option PropertyValue)) → n + length slots ≤ 17 → AreOfKind kind slots
    → length (slots_text n slots) ≤ length slots * 529
unfolding slots_text AreOfKind
slots_few kind n [] few are = omega arith
slots_few kind n (None ∷ slots) few are = omega (arith, slots_few kind (n + 1) slots (omega (arith, few)) are)
slots_few kind n (Some value ∷ slots) few are =
    let one = slot_few kind n value (omega (arith, few)) are.0 in
    let later = slots_few kind (n + 1) slots (omega (arith, few)) are.1 in
    omega (arith, one, later, length-append (slot_text n (Some value)) (slots_text (n + 1) slots))

object_few : (before : List SavedObject) (o : SavedObject) → FitsObjects before o → length (object_text o) ≤ 9526
object_few before o fits =
    let line = four_words (codes "object ") (decimal o.object.kind) (decimal o.object.instance) (value_text o.configured) (value_text o.slots.default)
    (length-decimal-le 4 o.object.kind (omega arith) (omega (arith, fits.is.kind)) (omega (arith, fits.is.kind)))
    (length-decimal-le 7 o.object.instance (omega arith) (omega (arith, fits.is.instance)) (omega (arith, fits.is.instance)))
    (digits_few fits.kind o.configured fits.configured) (digits_few fits.kind o.slots.default fits.default) in
    let slots = slots_few fits.kind 1 o.slots.slots (omega (arith, fits.sixteen)) fits.slots in
    omega (arith, line, slots, fits.sixteen, length-append (object_line o.object o.configured o.slots.default) (slots_text 1 o.slots.slots))
  where
    four_words : (w a b c d : List ℕ) → length a ≤ 4 → length b ≤ 7 → length c ≤ 520 → length d ≤ 520
        → length ((w ++ (a ++ 32 ∷ (b ++ 32 ∷ []))) ++ (c ++ 32 ∷ (d ++ 10 ∷ []))) ≤ length w + 1055
    four_words w a b c d p q r s =
        omega (
          arith,
          p,
          q,
          r,
          s,
          length-append (w ++ (a ++ 32 ∷ (b ++ 32 ∷ []))) (c ++ 32 ∷ (d ++ 10 ∷ [])),
          length-append w (a ++ 32 ∷ (b ++ 32 ∷ [])),
          length-append a (32 ∷ (b ++ 32 ∷ [])),
          length-append b (32 ∷ []),
          length-append c (32 ∷ (d ++ 10 ∷ [])),
          length-append d (10 ∷ []),
        )

-- ---- the text

count_small : (n : ℕ) → n ≤ 2 ^ 63 → length (decimal n) ≤ 20
count_small n le = decimal_64 n (omega (arith, le))

counts_few : (c : SavedCounts) → are_countable c ≡ true → length (counts_line c) ≤ 70
counts_few c are =
    let parts = countable c are in
    three_words (codes "counts ") (decimal c.since) (decimal c.ticks) (decimal c.denials) 7 20 20 20 (omega arith)
    (count_small c.since (omega (arith, parts.0, parts.1))) (count_small c.ticks parts.1) (count_small c.denials parts.2)
  where
    countable : (c : SavedCounts) → are_countable c ≡ true → (c.since ≤ c.ticks) × (c.ticks ≤ 2 ^ 63) × (c.denials ≤ 2 ^ 63)
    countable c are =
        let first = both_true (nat_le c.since c.ticks) (nat_le c.ticks (2 ^ 63) && nat_le c.denials (2 ^ 63)) are in
        let last = both_true (nat_le c.ticks (2 ^ 63)) (nat_le c.denials (2 ^ 63)) first.1 in
        (leb-true c.since c.ticks first.0, leb-true c.ticks (2 ^ 63) last.0, leb-true c.denials (2 ^ 63) last.1)

pub texts_are_short : TextsAreShort
texts_are_short saved fit =
    sum first_line (counts_line saved.counts) (flat_map port_text saved.ports) (flat_map route_line saved.routes) (flat_map object_text saved.objects) end_line
    (omega arith) (counts_few saved.counts fit.counts) (all_few port_text FitsPorts 12769 8 saved.ports port_few fit.ports)
    (all_few route_line (FitsRoutes (length saved.ports)) 38 512 saved.routes (route_few (length saved.ports)) fit.routes)
    (all_few object_text FitsObjects 9526 256 saved.objects object_few fit.objects) (omega arith)
  where
    sum : (a b c d e f : List ℕ) → length a ≤ 14 → length b ≤ 70 → length c ≤ 102152 → length d ≤ 19456 → length e ≤ 2438656 → length f ≤ 4
        → length (a ++ (b ++ (c ++ (d ++ (e ++ f))))) ≤ 2560352
    sum a b c d e f p q r s t u =
        omega (
          arith,
          p,
          q,
          r,
          s,
          t,
          u,
          length-append a (b ++ (c ++ (d ++ (e ++ f)))),
          length-append b (c ++ (d ++ (e ++ f))),
          length-append c (d ++ (e ++ f)),
          length-append d (e ++ f),
          length-append e f,
        )
