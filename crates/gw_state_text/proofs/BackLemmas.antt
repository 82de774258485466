-- The text of each state that fits is read, as that state.
use Rattle.std.proofs.Common.{◌≡◌, ◌≢◌, ◌∙◌, ℕ, zero, suc, ◌+◌, ◌^◌, ◌<◌, ◌≤◌, Bool, true, false, List, [], ◌∷◌, ◌++◌, length, get_or, Option, Some, None, Result, Ok, Err, refl, sym, ap, subst, arith, append_assoc, append-nil}
use Rattle.std.specs.Prelude.{codes, nat_eq, nat_le, nat_lt, ◌==◌, ◌&&◌, ⊤}
use Rattle.std.specs.Char.{IsAsciiDigit}
use Rattle.std.specs.Fmt.{decimal}
use Rattle.std.specs.List.{flat_map, starts_with}
use Rattle.std.proofs.lemmas.Bool.{and_parts, eq-eqb, le-ltb, leb-true, lt-ltb}
use Rattle.std.proofs.lemmas.List.{length-append}
use Rattle.std.proofs.lemmas.List.Concat.{flat_map-cons}
use Rattle.gw_addr.specs.declared.entry.BdtEntry.{BdtEntry}
use Rattle.gw_tables.specs.declared.bdt_fdt.kept.KeptDevice.{KeptDevice}
use Rattle.gw_configuration.specs.declared.object.ObjectKind.{ObjectKind}
use Rattle.gw_objects.specs.declared.value.PropertyValue.{PropertyValue}
use Rattle.gw_tables.specs.declared.routes.route.Route.{Route}
use Rattle.gw_state.specs.declared.counts.SavedCounts.{SavedCounts}
use Rattle.gw_state.specs.declared.port.SavedPort.{SavedPort}
use Rattle.gw_state.specs.Saved.{Saved, SavedObject, are_countable}
use Rattle.gw_codecs.specs.tags.Object.{Object}
use Rattle.gw_state_text.specs.declared.fault.Stop.{Stop}
use Rattle.gw_state_text.specs.Fit.{AreCounts, AreFit, AreOfKind, FitsDevices, FitsEntries, FitsKind, FitsObjects, FitsPorts, FitsRoutes}
use Rattle.gw_state_text.specs.Items.{AllFit, AreItems}
use Rattle.gw_state_text.specs.Lines.{priority_at}
use Rattle.gw_state_text.specs.Reading.{ObjectLine, all_at, device_after, entry_after, identifier_at, lines_of, object_after, object_at, port_after, route_after, slot_at, slot_of, slots_after, state_of, value_to}
use Rattle.gw_state_text.specs.Text.{counts_line, device_line, end_line, entry_line, entry_word, first_line, object_line, object_text, peer_word, port_line, port_text, route_line, slot_text, slots_text, state_text, value_text}
use Rattle.gw_state_text.specs.Words.{after_word}
use Rattle.gw_state_text.specs.internal.Lines.{port_on}
use Rattle.gw_state_text.proofs.BlockLemmas.{Reader, goes_on, stopped}
use Rattle.gw_state_text.proofs.LineLemmas.{counts_then, device_then, entry_then, route_then, two_words}
use Rattle.gw_state_text.proofs.PortLemmas.{port_whole}
use Rattle.gw_state_text.proofs.ReadLemmas.{after_again, counts_again, device_again, entry_again, parted_again, port_again, route_again, small_again}
use Rattle.gw_state_text.proofs.ValueReadLemmas.{value_in_again, value_lacks}
use Rattle.gw_state_text.proofs.WordLemmas.{other_character, some}

-- ---- items

-- Each item that fits is read from the front of its text, if what comes after it doesn't belong to it.
record IsRead {A : Type 0} (read : Reader A) (line : A → List ℕ) (word : List ℕ) (Fits : List A → A → Type 0)
    (Ends : List ℕ → Type 0) : Type 0 where
  starts : (item : A) (more : List ℕ) → starts_with nat_eq (line item ++ more) word ≡ true
  again : (before : List A) (item : A) (more : List ℕ) → Fits before item → Ends more → read before (line item ++ more) ≡ Ok (item, more)
  ends : (item : A) (more : List ℕ) → Ends (line item ++ more)

first_item : {A : Type 0} (line : A → List ℕ) (item : A) (items : List A) (rest : List ℕ)
    → flat_map line (item ∷ items) ++ rest ≡ line item ++ (flat_map line items ++ rest)
first_item line item items rest =
    ap (λ (t : List ℕ). t ++ rest) (flat_map-cons line item items) ∙ append_assoc (line item) (flat_map line items) rest

-- what is so of each item and of what comes after the last is so of the text of items
on_items : {A : Type 0} (P : List ℕ → Type 0) (line : A → List ℕ) → ((item : A) (more : List ℕ) → P (line item ++ more))
    → (items : List A) (rest : List ℕ) → P rest → P (flat_map line items ++ rest)
on_items P line each [] rest last = last
on_items P line each (item ∷ items) rest last = subst P (sym (first_item line item items rest)) (each item (flat_map line items ++ rest))

abbrev okay : {A : Type 0} → List ℕ → List A → Result (List A × List ℕ) Stop
okay rest items = Ok (items, rest)

all_again : {A : Type 0} (read : Reader A) (line : A → List ℕ) (word : List ℕ) (Fits : List A → A → Type 0) (Ends : List ℕ → Type 0)
    → IsRead read line word Fits Ends → (n : ℕ) (before items : List A) (rest : List ℕ) → AllFit Fits before items → length items ≤ n
    → Ends rest → starts_with nat_eq rest word ≡ false → all_at read word n before (flat_map line items ++ rest) ≡ Ok (before ++ items, rest)
unfolding AllFit
all_again read line word Fits Ends is n before [] rest fit few last other =
    stopped read word n before rest other ∙ ap (okay rest) (sym (append-nil before))
all_again read line word Fits Ends is zero before (item ∷ items) rest fit few last other = absurd (omega (arith, few))
all_again read line word Fits Ends is (suc n) before (item ∷ items) rest fit few last other =
    let later = flat_map line items ++ rest in
    ap (λ (t : List ℕ). all_at read word (suc n) before t) (first_item line item items rest)
    ∙ goes_on read word n before (line item ++ later) item later (is.starts item later)
    (is.again before item later fit.0 (on_items Ends line is.ends items rest last))
    ∙ all_again read line word Fits Ends is n (before ++ item ∷ []) items rest fit.1 (omega (arith, few)) last other
    ∙ ap (okay rest) (append_assoc before (item ∷ []) items)

-- ---- the tables of a port, and the routes

abbrev Any : List ℕ → Type 0
Any text = ⊤

entry_after_again : (word : List ℕ) (before : List BdtEntry) (e : BdtEntry) (more : List ℕ) → FitsEntries before e
    → entry_after word before (entry_line word e ++ more) ≡ Ok (e, more)
unfolding entry_after
entry_after_again word before e more fits =
    rw (entry_again word (entry_line word e ++ more) e more fits.is (entry_then word e more), fits.once) refl

peers_read : IsRead (entry_after peer_word) (entry_line peer_word) peer_word FitsEntries Any
peers_read = record {
  starts = λ item more. refl;
  again = λ before item more fits ends. entry_after_again peer_word before item more fits;
  ends = λ item more. tt;
}

entries_read : IsRead (entry_after entry_word) (entry_line entry_word) entry_word FitsEntries Any
entries_read = record {
  starts = λ item more. refl;
  again = λ before item more fits ends. entry_after_again entry_word before item more fits;
  ends = λ item more. tt;
}

device_after_again : (before : List KeptDevice) (d : KeptDevice) (more : List ℕ) → FitsDevices before d
    → device_after before (device_line d ++ more) ≡ Ok (d, more)
unfolding device_after
device_after_again before d more fits =
    rw (device_again (device_line d ++ more) d more fits.is (device_then d more), fits.due, fits.once) refl

devices_read : IsRead device_after device_line (codes "device ") FitsDevices Any
devices_read = record {
  starts = λ item more. refl;
  again = λ before item more fits ends. device_after_again before item more fits;
  ends = λ item more. tt;
}

route_after_again : (ports : ℕ) (before : List (ℕ × Route)) (r : ℕ × Route) (more : List ℕ) → FitsRoutes ports before r
    → route_after ports before (route_line r ++ more) ≡ Ok (r, more)
unfolding route_after
route_after_again ports before r more fits =
    let some : (r.1.port == 0) ≡ false = other_character r.1.port 0 (λ e. absurd (omega (arith, e, fits.low))) in
    let within : nat_lt ports r.1.port ≡ false = le-ltb ports r.1.port fits.high in
    rw (route_again (route_line r ++ more) r.0 r.1 more fits.is (route_then r more), some, within, fits.once) refl

routes_read : (ports : ℕ) → IsRead (route_after ports) route_line (codes "route ") (FitsRoutes ports) Any
routes_read ports = record {
  starts = λ item more. refl;
  again = λ before item more fits ends. route_after_again ports before item more fits;
  ends = λ item more. tt;
}

-- ---- ports

-- a text doesn't go on with a line of a port's tables
record EndsPort (text : List ℕ) : Type 0 where
  peers : starts_with nat_eq text peer_word ≡ false
  entries : starts_with nat_eq text entry_word ≡ false
  devices : starts_with nat_eq text (codes "device ") ≡ false

port_after_again : (before : List SavedPort) (p : SavedPort) (more : List ℕ) → FitsPorts before p → EndsPort more
    → port_after before (port_text p ++ more) ≡ Ok (p, more)
unfolding port_after
port_after_again before p more fits ends =
    let third = flat_map device_line p.devices ++ more in
    let second = flat_map (entry_line entry_word) p.entries ++ third in
    let first = flat_map (entry_line peer_word) p.peers ++ second in
    let text = port_on p.network p.address first in
    let whole : text ≡ port_text p ++ more =
    port_whole text first second third more p.network p.address p.peers p.entries p.devices refl refl refl refl in
    let starts = λ (word t : List ℕ). starts_with nat_eq t word ≡ false in
    let no_peers : starts peer_word second =
    on_items (starts peer_word) (entry_line entry_word) (λ item rest. refl) p.entries third
    (on_items (starts peer_word) device_line (λ item rest. refl) p.devices more ends.peers) in
    let no_entries : starts entry_word third =
    on_items (starts entry_word) device_line (λ item rest. refl) p.devices more ends.entries in
    let line = port_again text p.network p.address first fits.is refl in
    let peers = all_again (entry_after peer_word) (entry_line peer_word) peer_word FitsEntries Any peers_read 64 [] p.peers second
    fits.peers.fit fits.peers.few tt no_peers in
    let entries = all_again (entry_after entry_word) (entry_line entry_word) entry_word FitsEntries Any entries_read 64 [] p.entries third
    fits.entries.fit fits.entries.few tt no_entries in
    let devices = all_again device_after device_line (codes "device ") FitsDevices Any devices_read 128 [] p.devices more
    fits.devices.fit fits.devices.few tt ends.devices in
    ap (port_after before) (sym whole) ∙ rw (line, fits.once, peers, entries, devices) refl

ports_read : IsRead port_after port_text (codes "port ") FitsPorts EndsPort
ports_read = record {
  starts = λ item more. refl;
  again = port_after_again;
  ends = λ item more. record { peers = refl; entries = refl; devices = refl };
}

-- ---- slots

-- slot 6 is empty
Free : ℕ → List (Option PropertyValue) → Type 0
Free priority [] = ⊤
Free priority (slot ∷ slots) = (priority ≡ 6 → slot ≡ None) × Free (priority + 1) slots

free_after : (priority : ℕ) (slots : List (Option PropertyValue)) → 7 ≤ priority → Free priority slots
unfolding Free
free_after priority [] later = tt
free_after priority (slot ∷ slots) later =
    (λ e. absurd (omega (arith, e, later)), free_after (priority + 1) slots (omega (arith, later)))

free_of : (slots : List (Option PropertyValue)) → length slots ≡ 16 → get_or slots 5 None ≡ None → Free 1 slots
unfolding Free
free_of [] len sixth = absurd (omega (arith, len))
free_of (a ∷ []) len sixth = absurd (omega (arith, len))
free_of (a ∷ b ∷ []) len sixth = absurd (omega (arith, len))
free_of (a ∷ b ∷ c ∷ []) len sixth = absurd (omega (arith, len))
free_of (a ∷ b ∷ c ∷ d ∷ []) len sixth = absurd (omega (arith, len))
free_of (a ∷ b ∷ c ∷ d ∷ e ∷ []) len sixth = absurd (omega (arith, len))
free_of (a ∷ b ∷ c ∷ d ∷ e ∷ f ∷ slots) len sixth = (
  λ h. absurd (omega (arith, h)),
  (
    λ h. absurd (omega (arith, h)),
    (
      λ h. absurd (omega (arith, h)),
      (
        λ h. absurd (omega (arith, h)),
        (
          λ h. absurd (omega (arith, h)),
          (λ h. sixth, free_after 7 slots (omega arith)),
        ),
      ),
    ),
  ),
)

value_to_again : (kind : ObjectKind) (c : ℕ) (v : PropertyValue) (rest : List ℕ) → c < 48 → FitsKind kind v
    → value_to kind c (value_text v ++ c ∷ rest) ≡ Ok (v, rest)
unfolding value_to
value_to_again kind c v rest low fits =
    rw (parted_again c (value_text v ++ c ∷ rest) (value_text v) rest (value_lacks c low kind v fits) refl, value_in_again kind v fits) refl

space : ¬ (IsAsciiDigit 32)
space h = absurd (omega arith)

-- the line of a slot names its priority
priority_again : (priority : ℕ) (v : PropertyValue) (more : List ℕ) → priority < 2 ^ 8
    → priority_at (slot_text priority (Some v) ++ more) ≡ Some (priority, value_text v ++ 10 ∷ more)
unfolding priority_at
priority_again priority v more small =
    let last = value_text v ++ 10 ∷ more in
    let first = decimal priority ++ 32 ∷ last in
    rw (
      after_again (codes "slot ") (slot_text priority (Some v) ++ more) first
          (two_words (codes "slot ") (decimal priority) (value_text v) more),
      small_again (2 ^ 8) 32 first priority last space small (omega (arith, small)) refl,
    ) refl

-- a line of a slot that comes next is of this priority or a later one, and never of the sixth
NextIs : ℕ → Option (ℕ × List ℕ) → Type 0
NextIs priority None = ⊤
NextIs priority (Some named) = (priority ≤ named.0) × (named.0 ≢ 6)

next_later : (priority : ℕ) (named : Option (ℕ × List ℕ)) → NextIs (priority + 1) named → NextIs priority named
unfolding NextIs
next_later priority None is = tt
next_later priority (Some named) is = (omega (arith, is.0), is.1)

taken : (priority : ℕ) (v : PropertyValue) → (priority ≡ 6 → some v ≡ None) → priority ≢ 6
taken priority v free e = absurd (let empty = free e in cc)

next_is : (priority : ℕ) (slots : List (Option PropertyValue)) (more : List ℕ) → priority_at more ≡ None → priority + length slots ≤ 17
    → Free priority slots → NextIs priority (priority_at (slots_text priority slots ++ more))
unfolding Free NextIs slots_text
next_is priority [] more last few free = subst (NextIs priority) (sym last) tt
next_is priority (None ∷ slots) more last few free =
    next_later priority (priority_at (slots_text (priority + 1) slots ++ more))
    (next_is (priority + 1) slots more last (omega (arith, few)) free.1)
next_is priority (Some v ∷ slots) more last few free =
    let later = slots_text (priority + 1) slots ++ more in
    let text : slots_text priority (Some v ∷ slots) ++ more ≡ slot_text priority (Some v) ++ later =
    append_assoc (slot_text priority (Some v)) (slots_text (priority + 1) slots) more in
    subst (NextIs priority) (sym (ap priority_at text ∙ priority_again priority v later (omega (arith, few))))
    (omega arith, taken priority v free.0)

later_slot : (kind : ObjectKind) (priority : ℕ) (text : List ℕ) (named : Option (ℕ × List ℕ)) → NextIs (priority + 1) named
    → slot_of kind priority text named ≡ Ok (None, text)
unfolding NextIs
later_slot kind priority text None is = refl
later_slot kind priority text (Some named) is =
    let six : (named.0 == 6) ≡ false = other_character named.0 6 is.1 in
    let later : (named.0 == priority) ≡ false = other_character named.0 priority (λ e. absurd (omega (arith, e, is.0))) in
    rw (six, later) refl

-- a slot is empty if the next line is of a later one
empty_slot : (kind : ObjectKind) (priority : ℕ) (text : List ℕ) → NextIs (priority + 1) (priority_at text)
    → slot_at kind priority text ≡ Ok (None, text)
unfolding slot_at
empty_slot kind priority text is = later_slot kind priority text (priority_at text) is

full_slot : (kind : ObjectKind) (priority : ℕ) (v : PropertyValue) (more : List ℕ) → priority < 2 ^ 8 → priority ≢ 6 → FitsKind kind v
    → slot_at kind priority (slot_text priority (Some v) ++ more) ≡ Ok (Some v, more)
unfolding slot_at
full_slot kind priority v more small other fits =
    let six : (priority == 6) ≡ false = other_character priority 6 other in
    let own : (priority == priority) ≡ true = eq-eqb priority priority refl in
    rw (priority_again priority v more small, six, own, value_to_again kind 10 v more (omega arith) fits) refl

pub one_slot : (kind : ObjectKind) (n : ℕ) (before : List (Option PropertyValue)) (text : List ℕ) (slot : Option PropertyValue)
    (rest : List ℕ) → slot_at kind (length before + 1) text ≡ Ok (slot, rest)
    → slots_after kind (suc n) before text ≡ slots_after kind n (before ++ slot ∷ []) rest
unfolding slots_after
one_slot kind n before text slot rest e = rw e refl

no_slot : (kind : ObjectKind) (before : List (Option PropertyValue)) (text : List ℕ) → priority_at text ≡ None
    → slots_after kind 0 before text ≡ Ok (before, text)
unfolding slots_after
no_slot kind before text none = rw none refl

slots_again : (kind : ObjectKind) (n : ℕ) (before later : List (Option PropertyValue)) (more : List ℕ) → priority_at more ≡ None
    → length before ≡ n → n + length later ≤ 16 → AreOfKind kind later → Free (n + 1) later
    → slots_after kind (length later) before (slots_text (n + 1) later ++ more) ≡ Ok (before ++ later, more)
unfolding slots_text AreOfKind Free
slots_again kind n before [] more last len few are free =
    no_slot kind before more last ∙ ap (okay more) (sym (append-nil before))
slots_again kind n before (None ∷ later) more last len few are free =
    let text = slots_text (n + 1 + 1) later ++ more in
    let slot : slot_at kind (length before + 1) text ≡ Ok (None, text) =
    subst (λ (k : ℕ). slot_at kind (k + 1) text ≡ Ok (None, text)) (sym len)
    (empty_slot kind (n + 1) text (next_is (n + 1 + 1) later more last (omega (arith, few)) free.1)) in
    let longer : length (before ++ None ∷ []) ≡ n + 1 = omega (arith, len, length-append before (None ∷ [])) in
    one_slot kind (length later) before text None text slot
    ∙ slots_again kind (n + 1) (before ++ None ∷ []) later more last longer (omega (arith, few)) are free.1
    ∙ ap (okay more) (append_assoc before (None ∷ []) later)
slots_again kind n before (Some v ∷ later) more last len few are free =
    let rest = slots_text (n + 1 + 1) later ++ more in
    let text : slots_text (n + 1) (Some v ∷ later) ++ more ≡ slot_text (n + 1) (Some v) ++ rest =
    append_assoc (slot_text (n + 1) (Some v)) (slots_text (n + 1 + 1) later) more in
    let full = full_slot kind (n + 1) v rest (omega (arith, few)) (taken (n + 1) v free.0) are.0 in
    let slot : slot_at kind (length before + 1) (slot_text (n + 1) (Some v) ++ rest) ≡ Ok (Some v, rest) =
    subst (λ (k : ℕ). slot_at kind (k + 1) (slot_text (n + 1) (Some v) ++ rest) ≡ Ok (Some v, rest)) (sym len) full in
    let longer : length (before ++ Some v ∷ []) ≡ n + 1 = omega (arith, len, length-append before (Some v ∷ [])) in
    ap (slots_after kind (suc (length later)) before) text
    ∙ one_slot kind (length later) before (slot_text (n + 1) (Some v) ++ rest) (Some v) rest slot
    ∙ slots_again kind (n + 1) (before ++ Some v ∷ []) later more last longer (omega (arith, few)) are.1 free.1
    ∙ ap (okay more) (append_assoc before (Some v ∷ []) later)

-- ---- objects

object_then : (o : Object) (configured default : PropertyValue) (rest : List ℕ) → object_line o configured default ++ rest
    ≡ codes "object " ++ (decimal o.kind ++ 32 ∷ (decimal o.instance ++ 32 ∷ (value_text configured ++ 32 ∷ (value_text default ++ 10 ∷ rest))))
object_then o configured default rest =
    parts (codes "object ") (decimal o.kind) (decimal o.instance) (value_text configured) (value_text default)
  where
    parts : (w k i c d : List ℕ) → ((w ++ (k ++ 32 ∷ (i ++ 32 ∷ []))) ++ (c ++ 32 ∷ (d ++ 10 ∷ []))) ++ rest
        ≡ w ++ (k ++ 32 ∷ (i ++ 32 ∷ (c ++ 32 ∷ (d ++ 10 ∷ rest))))
    parts w k i c d =
        append_assoc (w ++ (k ++ 32 ∷ (i ++ 32 ∷ []))) (c ++ 32 ∷ (d ++ 10 ∷ [])) rest
        ∙ ap (λ (t : List ℕ). (w ++ (k ++ 32 ∷ (i ++ 32 ∷ []))) ++ t) (append_assoc c (32 ∷ (d ++ 10 ∷ [])) rest
        ∙ ap (λ (t : List ℕ). c ++ 32 ∷ t) (append_assoc d (10 ∷ []) rest))
        ∙ append_assoc w (k ++ 32 ∷ (i ++ 32 ∷ [])) (c ++ 32 ∷ (d ++ 10 ∷ rest))
        ∙ ap (λ (t : List ℕ). w ++ t) (append_assoc k (32 ∷ (i ++ 32 ∷ [])) (c ++ 32 ∷ (d ++ 10 ∷ rest))
        ∙ ap (λ (t : List ℕ). k ++ 32 ∷ t) (append_assoc i (32 ∷ []) (c ++ 32 ∷ (d ++ 10 ∷ rest))))

abbrev line_is : Object → ObjectKind → PropertyValue → PropertyValue → ObjectLine
line_is o kind configured default = record { object = o; kind = kind; configured = configured; default = default }

object_at_again : (before : List SavedObject) (o : SavedObject) (rest : List ℕ) (fits : FitsObjects before o)
    → object_at (object_line o.object o.configured o.slots.default ++ rest) ≡ Ok (line_is o.object fits.kind o.configured o.slots.default, rest)
unfolding identifier_at object_at
object_at_again before o rest fits =
    let fifth = value_text o.slots.default ++ 10 ∷ rest in
    let fourth = value_text o.configured ++ 32 ∷ fifth in
    let third = decimal o.object.instance ++ 32 ∷ fourth in
    let second = decimal o.object.kind ++ 32 ∷ third in
    rw (
      after_again (codes "object ") (object_line o.object o.configured o.slots.default ++ rest) second
          (object_then o.object o.configured o.slots.default rest),
      small_again (2 ^ 16) 32 second o.object.kind third space (omega (arith, fits.is.kind)) (omega (arith, fits.is.kind)) refl,
      small_again (2 ^ 32) 32 third o.object.instance fourth space (omega (arith, fits.is.instance)) (omega (arith, fits.is.instance)) refl,
      lt-ltb o.object.kind (2 ^ 10) fits.is.kind,
      lt-ltb o.object.instance (2 ^ 22) fits.is.instance,
      fits.known,
      value_to_again fits.kind 32 o.configured fifth (omega arith) fits.configured,
      value_to_again fits.kind 10 o.slots.default rest (omega arith) fits.default,
    ) refl

-- a text doesn't go on with a slot
abbrev EndsObject : List ℕ → Type 0
EndsObject text = priority_at text ≡ None

object_after_again : (before : List SavedObject) (o : SavedObject) (more : List ℕ) → FitsObjects before o → EndsObject more
    → object_after before (object_text o ++ more) ≡ Ok (o, more)
unfolding object_after
object_after_again before o more fits ends =
    let rest = slots_text 1 o.slots.slots ++ more in
    let line = object_at_again before o rest fits in
    let slots : slots_after fits.kind 16 [] rest ≡ Ok (o.slots.slots, more) =
    subst (λ (n : ℕ). slots_after fits.kind n [] rest ≡ Ok (o.slots.slots, more)) fits.sixteen
    (slots_again fits.kind 0 [] o.slots.slots more ends refl (omega (arith, fits.sixteen)) fits.slots
    (free_of o.slots.slots fits.sixteen fits.sixth)) in
    ap (object_after before) (append_assoc (object_line o.object o.configured o.slots.default) (slots_text 1 o.slots.slots) more)
    ∙ rw (line, fits.once, slots) refl

objects_read : IsRead object_after object_text (codes "object ") FitsObjects EndsObject
unfolding priority_at after_word
objects_read = record {
  starts = λ item more. refl;
  again = object_after_again;
  ends = λ item more. refl;
}

-- ---- a state

end_ends : EndsObject end_line
unfolding priority_at after_word
end_ends = refl

are_counts : (c : SavedCounts) → are_countable c ≡ true → AreCounts c
are_counts c are =
    let first = and_parts (nat_le c.since c.ticks) (nat_le c.ticks (2 ^ 63) && nat_le c.denials (2 ^ 63)) are in
    let last = and_parts (nat_le c.ticks (2 ^ 63)) (nat_le c.denials (2 ^ 63)) first.1 in
    let since : c.since ≤ c.ticks = leb-true c.since c.ticks first.0 in
    let ticks : c.ticks ≤ 2 ^ 63 = leb-true c.ticks (2 ^ 63) last.0 in
    let denials : c.denials ≤ 2 ^ 63 = leb-true c.denials (2 ^ 63) last.1 in
    record { since = omega (arith, since, ticks); ticks = omega (arith, ticks); denials = omega (arith, denials) }

lines_again : (s : Saved) → AreFit s → lines_of (state_text s) ≡ Ok s
unfolding lines_of
lines_again s fit =
    let o = flat_map object_text s.objects ++ end_line in
    let r = flat_map route_line s.routes ++ o in
    let p = flat_map port_text s.ports ++ r in
    let c = counts_line s.counts ++ p in
    let other = λ (word t : List ℕ). starts_with nat_eq t word ≡ false in
    let r_other = λ (word : List ℕ) (routes : (item : ℕ × Route) (more : List ℕ) → other word (route_line item ++ more))
    (objects : (item : SavedObject) (more : List ℕ) → other word (object_text item ++ more)) (last : other word end_line).
    on_items (other word) route_line routes s.routes o (on_items (other word) object_text objects s.objects end_line last) in
    let ends : EndsPort r = record {
      peers = r_other peer_word (λ item more. refl) (λ item more. refl) refl;
      entries = r_other entry_word (λ item more. refl) (λ item more. refl) refl;
      devices = r_other (codes "device ") (λ item more. refl) (λ item more. refl) refl;
    } in
    let ports = all_again port_after port_text (codes "port ") FitsPorts EndsPort ports_read 8 [] s.ports r fit.ports.fit fit.ports.few ends
    (r_other (codes "port ") (λ item more. refl) (λ item more. refl) refl) in
    let routes = all_again (route_after (length s.ports)) route_line (codes "route ") (FitsRoutes (length s.ports)) Any
    (routes_read (length s.ports)) 512 [] s.routes o fit.routes.fit fit.routes.few tt
    (on_items (other (codes "route ")) object_text (λ item more. refl) s.objects end_line refl) in
    let objects = all_again object_after object_text (codes "object ") FitsObjects EndsObject objects_read 256 [] s.objects end_line
    fit.objects.fit fit.objects.few end_ends refl in
    rw (
      after_again first_line (state_text s) c refl,
      counts_again c s.counts p (are_counts s.counts fit.counts) (counts_then s.counts p),
      fit.counts,
      ports,
      routes,
      objects,
      after_again end_line end_line [] refl,
    ) refl

-- the text of each state that fits is read, as that state
pub state_again : (s : Saved) → AreFit s → state_of (state_text s) ≡ Ok s
state_again s fit = rw (lines_again s fit) refl
