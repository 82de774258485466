-- A port, an object and a state, read part by part.
use Rattle.std.proofs.Common.{◌≡◌, ◌≢◌, ◌∙◌, ℕ, suc, ◌+◌, ◌-◌, ◌<◌, ◌≤◌, Bool, true, false, List, [], ◌∷◌, ◌++◌, length, take, drop, Option, Some, None, Result, Ok, Err, refl, sym, ap, ap₂, subst, arith}
use Rattle.std.specs.Prelude.{codes, nat_eq, if◌then◌else◌, ◌==◌}
use Rattle.std.specs.List.{list_any}
use Rattle.std.proofs.lemmas.Bool.{le-leb}
use Rattle.std.proofs.lemmas.List.{length-set, length-take-le, take_all, take_more_set}
use Rattle.std.proofs.Math.ListN.{set}
use Rattle.gw_addr.proofs.Reading.{ok_is}
use Rattle.gw_addr.specs.declared.bip.BipAddr.{BipAddr}
use Rattle.gw_addr.specs.declared.entry.BdtEntry.{BdtEntry}
use Rattle.gw_tables.specs.declared.bdt_fdt.kept.KeptDevice.{KeptDevice}
use Rattle.gw_configuration.specs.declared.object.ObjectKind.{ObjectKind}
use Rattle.gw_objects.specs.declared.value.PropertyValue.{PropertyValue}
use Rattle.gw_tables.specs.declared.routes.route.Route.{Route}
use Rattle.gw_state.specs.declared.counts.SavedCounts.{SavedCounts}
use Rattle.gw_state.specs.declared.port.SavedPort.{SavedPort}
use Rattle.gw_state.specs.Saved.{Saved, SavedObject, are_countable, are_few}
use Rattle.gw_state_text.specs.declared.fault.FaultKind.{FaultKind}
use Rattle.gw_state_text.specs.declared.fault.FaultKind.TheVariants.{Version, Line, Range, Twice, TooMany, Cut, Memory}
use Rattle.gw_state_text.specs.declared.fault.StateFault.{StateFault}
use Rattle.gw_state_text.specs.declared.fault.Stop.{Stop}
use Rattle.gw_state_text.specs.Fit.{AreFit, is_at, is_object}
use Rattle.gw_state_text.specs.Lines.{counts_at, port_at, priority_at}
use Rattle.gw_state_text.specs.Reading.{IsReadAs, ObjectLine, ReadsState, all_at, at_end, device_after, entry_after, is_whole, kind_at, lines_of, located, object_after, object_at, object_of, port_after, route_after, slot_at, slot_fault, slots_after, state_of, stop_at}
use Rattle.gw_state_text.specs.Place.{line_count}
use Rattle.gw_state_text.specs.Text.{end_line, entry_word, first_line, peer_word, state_text}
use Rattle.gw_state_text.specs.Words.{after_word}
use Rattle.gw_state_text.proofs.BackLemmas.{one_slot, state_again}

-- ---- a port

abbrev peers_at : List ℕ → Result (List BdtEntry × List ℕ) Stop
peers_at text = all_at (entry_after peer_word) peer_word 64 [] text

abbrev entries_at : List ℕ → Result (List BdtEntry × List ℕ) Stop
entries_at text = all_at (entry_after entry_word) entry_word 64 [] text

abbrev devices_at : List ℕ → Result (List KeptDevice × List ℕ) Stop
devices_at text = all_at device_after (codes "device ") 128 [] text

pub port_missed : (before : List SavedPort) (text : List ℕ) → port_at text ≡ None → port_after before text ≡ Err (stop_at text Line)
unfolding port_after
port_missed before text line = rw line refl

pub port_twice : (before : List SavedPort) (text : List ℕ) (n : ℕ) (a : BipAddr) (lines : List ℕ) → port_at text ≡ Some (n, a, lines)
    → list_any (is_at n a) before ≡ true → port_after before text ≡ Err (stop_at text Twice)
unfolding port_after
port_twice before text n a lines line twice = rw (line, twice) refl

pub peers_fail : (before : List SavedPort) (text : List ℕ) (n : ℕ) (a : BipAddr) (lines : List ℕ) (stop : Stop)
    → port_at text ≡ Some (n, a, lines) → list_any (is_at n a) before ≡ false → peers_at lines ≡ Err stop
    → port_after before text ≡ Err stop
unfolding port_after
peers_fail before text n a lines stop line once peers = rw (line, once, peers) refl

pub entries_fail : (before : List SavedPort) (text : List ℕ) (n : ℕ) (a : BipAddr) (lines second : List ℕ) (ps : List BdtEntry) (stop : Stop)
    → port_at text ≡ Some (n, a, lines) → list_any (is_at n a) before ≡ false → peers_at lines ≡ Ok (ps, second)
    → entries_at second ≡ Err stop → port_after before text ≡ Err stop
unfolding port_after
entries_fail before text n a lines second ps stop line once peers entries = rw (line, once, peers, entries) refl

pub devices_fail : (before : List SavedPort) (text : List ℕ) (n : ℕ) (a : BipAddr) (lines second third : List ℕ) (ps es : List BdtEntry)
    (stop : Stop) → port_at text ≡ Some (n, a, lines) → list_any (is_at n a) before ≡ false → peers_at lines ≡ Ok (ps, second)
    → entries_at second ≡ Ok (es, third) → devices_at third ≡ Err stop → port_after before text ≡ Err stop
unfolding port_after
devices_fail before text n a lines second third ps es stop line once peers entries devices = rw (line, once, peers, entries, devices) refl

abbrev port : ℕ → BipAddr → List BdtEntry → List BdtEntry → List KeptDevice → SavedPort
port n a ps es ds = record { network = n; address = a; peers = ps; entries = es; devices = ds }

pub port_read_so : (before : List SavedPort) (text : List ℕ) (n : ℕ) (a : BipAddr) (lines second third rest : List ℕ)
    (ps es : List BdtEntry) (ds : List KeptDevice) (peers entries : List BdtEntry) (devices : List KeptDevice)
    → port_at text ≡ Some (n, a, lines) → list_any (is_at n a) before ≡ false → peers_at lines ≡ Ok (ps, second)
    → entries_at second ≡ Ok (es, third) → devices_at third ≡ Ok (ds, rest) → peers ≡ ps → entries ≡ es → devices ≡ ds
    → port_after before text ≡ Ok (port n a peers entries devices, rest)
unfolding port_after
port_read_so before text n a lines second third rest ps es ds peers entries devices line once e f g p q r =
    rw (line, once, e, f, g, p, q, r) refl

-- ---- slots and objects

-- so many slots are read
pub record SlotSteps (kind : ObjectKind) (text : List ℕ) (place : ℕ) (slots : List (Option PropertyValue)) (rest : List ℕ) : Type 0 where
  pub same : slots_after kind 16 [] text ≡ slots_after kind (16 - place) (take place slots) rest

pub no_slots : (kind : ObjectKind) (text : List ℕ) (slots : List (Option PropertyValue)) → SlotSteps kind text 0 slots text
no_slots kind text slots = record { same = refl }

pub next_slot : (kind : ObjectKind) (text now rest : List ℕ) (place : ℕ) (slots : List (Option PropertyValue)) (slot : Option PropertyValue)
    → place < 16 → length slots ≡ 16 → SlotSteps kind text place slots now → slot_at kind (place + 1) now ≡ Ok (slot, rest)
    → SlotSteps kind text (place + 1) (set slots place slot) rest
next_slot kind text now rest place slots slot lt len so_far e =
    let within : place < length slots = omega (arith, lt, len) in
    let more : take (place + 1) (set slots place slot) ≡ take place slots ++ slot ∷ [] = take_more_set slots place slot within in
    let count : length (take place slots) ≡ place = length-take-le place slots (omega (arith, within)) in
    let left : 16 - place ≡ suc (16 - (place + 1)) = omega (arith, lt) in
    let read : slot_at kind (length (take place slots) + 1) now ≡ Ok (slot, rest) =
    subst (λ (k : ℕ). slot_at kind (k + 1) now ≡ Ok (slot, rest)) (sym count) e in
    record {
      same =
          so_far.same ∙ ap (λ (k : ℕ). slots_after kind k (take place slots) now) left
          ∙ one_slot kind (16 - (place + 1)) (take place slots) now slot rest read
          ∙ ap (λ (xs : List (Option PropertyValue)). slots_after kind (16 - (place + 1)) xs rest) (sym more);
    }

pub slot_fails : (kind : ObjectKind) (text now : List ℕ) (place : ℕ) (slots : List (Option PropertyValue)) (fault : FaultKind)
    → place < 16 → length slots ≡ 16 → SlotSteps kind text place slots now → slot_at kind (place + 1) now ≡ Err fault
    → slots_after kind 16 [] text ≡ Err (stop_at now fault)
unfolding slots_after
slot_fails kind text now place slots fault lt len so_far e =
    let count : length (take place slots) ≡ place = length-take-le place slots (omega (arith, lt, len)) in
    let left : 16 - place ≡ suc (16 - (place + 1)) = omega (arith, lt) in
    let read : slot_at kind (length (take place slots) + 1) now ≡ Err fault =
    subst (λ (k : ℕ). slot_at kind (k + 1) now ≡ Err fault) (sym count) e in
    so_far.same ∙ ap (λ (k : ℕ). slots_after kind k (take place slots) now) left ∙ failed (16 - (place + 1)) read
  where
    failed : (n : ℕ) → slot_at kind (length (take place slots) + 1) now ≡ Err fault
        → slots_after kind (suc n) (take place slots) now ≡ Err (stop_at now fault)
    failed n e = rw e refl

all_taken : (place : ℕ) (slots : List (Option PropertyValue)) → 16 ≤ place → length slots ≡ 16 → take place slots ≡ slots
all_taken place slots all len = take_all place slots (omega (arith, all, len))

pub slots_end : (kind : ObjectKind) (text now : List ℕ) (place : ℕ) (slots : List (Option PropertyValue)) → 16 ≤ place → length slots ≡ 16
    → SlotSteps kind text place slots now → priority_at now ≡ None → slots_after kind 16 [] text ≡ Ok (slots, now)
unfolding slots_after
slots_end kind text now place slots all len so_far none =
    let left : 16 - place ≡ 0 = omega (arith, all) in
    so_far.same ∙ rw (left, all_taken place slots all len, none) refl

pub slots_over : (kind : ObjectKind) (text now : List ℕ) (place : ℕ) (slots : List (Option PropertyValue)) (named : ℕ) (rest : List ℕ)
    → 16 ≤ place → length slots ≡ 16 → SlotSteps kind text place slots now → priority_at now ≡ Some (named, rest)
    → slots_after kind 16 [] text ≡ Err (stop_at now (slot_fault slots named))
unfolding slots_after
slots_over kind text now place slots named rest all len so_far more =
    let left : 16 - place ≡ 0 = omega (arith, all) in
    so_far.same ∙ rw (left, all_taken place slots all len, more) refl

pub object_missed : (before : List SavedObject) (text : List ℕ) (kind : FaultKind) → object_at text ≡ Err kind
    → object_after before text ≡ Err (stop_at text kind)
unfolding object_after
object_missed before text kind line = rw line refl

pub object_twice : (before : List SavedObject) (text : List ℕ) (line : ObjectLine) (rest : List ℕ) → object_at text ≡ Ok (line, rest)
    → list_any (is_object line.object) before ≡ true → object_after before text ≡ Err (stop_at text Twice)
unfolding object_after
object_twice before text line rest e twice = rw (e, twice) refl

pub slots_fail : (before : List SavedObject) (text : List ℕ) (line : ObjectLine) (rest : List ℕ) (stop : Stop) → object_at text ≡ Ok (line, rest)
    → list_any (is_object line.object) before ≡ false → slots_after line.kind 16 [] rest ≡ Err stop → object_after before text ≡ Err stop
unfolding object_after
slots_fail before text line rest stop e once slots = rw (e, once, slots) refl

pub object_read_so : (before : List SavedObject) (text : List ℕ) (line : ObjectLine) (rest last : List ℕ) (slots : List (Option PropertyValue))
    (object : SavedObject) → object_at text ≡ Ok (line, rest) → list_any (is_object line.object) before ≡ false
    → slots_after line.kind 16 [] rest ≡ Ok (slots, last) → object ≡ object_of line slots → object_after before text ≡ Ok (object, last)
unfolding object_after
object_read_so before text line rest last slots object e once read is = rw (e, once, read, is) refl

-- ---- a state

pub version_missed : (text : List ℕ) → after_word first_line text ≡ None → lines_of text ≡ Err (stop_at text Version)
unfolding lines_of
version_missed text first = rw first refl

pub counts_missed : (text lines : List ℕ) → after_word first_line text ≡ Some lines → counts_at lines ≡ None
    → lines_of text ≡ Err (stop_at lines Line)
unfolding lines_of
counts_missed text lines first none = rw (first, none) refl

pub counts_range : (text lines rest : List ℕ) (c : SavedCounts) → after_word first_line text ≡ Some lines → counts_at lines ≡ Some (c, rest)
    → are_countable c ≡ false → lines_of text ≡ Err (stop_at lines Range)
unfolding lines_of
counts_range text lines rest c first counts are = rw (first, counts, are) refl

-- the lines up to the ports
pub record Counted (text : List ℕ) (c : SavedCounts) (rest : List ℕ) : Type 0 where
  pub lines : List ℕ
  pub first : after_word first_line text ≡ Some lines
  pub counts : counts_at lines ≡ Some (c, rest)
  pub are : are_countable c ≡ true

abbrev ports_at : List ℕ → Result (List SavedPort × List ℕ) Stop
ports_at text = all_at port_after (codes "port ") 8 [] text

abbrev routes_at : ℕ → List ℕ → Result (List (ℕ × Route) × List ℕ) Stop
routes_at ports text = all_at (route_after ports) (codes "route ") 512 [] text

abbrev objects_at : List ℕ → Result (List SavedObject × List ℕ) Stop
objects_at text = all_at object_after (codes "object ") 256 [] text

pub ports_fail : (text rest : List ℕ) (c : SavedCounts) (stop : Stop) → Counted text c rest → ports_at rest ≡ Err stop → lines_of text ≡ Err stop
unfolding lines_of
ports_fail text rest c stop so e = rw (so.first, so.counts, so.are, e) refl

pub routes_fail : (text rest second : List ℕ) (c : SavedCounts) (ports : List SavedPort) (count : ℕ) (stop : Stop) → Counted text c rest
    → ports_at rest ≡ Ok (ports, second) → count ≡ length ports → routes_at count second ≡ Err stop → lines_of text ≡ Err stop
unfolding lines_of
routes_fail text rest second c ports count stop so e n f =
    let f' : routes_at (length ports) second ≡ Err stop = subst (λ (k : ℕ). routes_at k second ≡ Err stop) n f in
    rw (so.first, so.counts, so.are, e, f') refl

pub objects_fail : (text rest second third : List ℕ) (c : SavedCounts) (ports : List SavedPort) (routes : List (ℕ × Route)) (count : ℕ)
    (stop : Stop) → Counted text c rest → ports_at rest ≡ Ok (ports, second) → count ≡ length ports
    → routes_at count second ≡ Ok (routes, third) → objects_at third ≡ Err stop → lines_of text ≡ Err stop
unfolding lines_of
objects_fail text rest second third c ports routes count stop so e n f g =
    let f' : routes_at (length ports) second ≡ Ok (routes, third) = subst (λ (k : ℕ). routes_at k second ≡ Ok (routes, third)) n f in
    rw (so.first, so.counts, so.are, e, f', g) refl

-- the lines up to the last
pub record Whole (text : List ℕ) (s : Saved) (last : List ℕ) : Type 0 where
  pub rest : List ℕ
  pub second : List ℕ
  pub third : List ℕ
  pub counted : Counted text s.counts rest
  pub ports : ports_at rest ≡ Ok (s.ports, second)
  pub routes : routes_at (length s.ports) second ≡ Ok (s.routes, third)
  pub objects : objects_at third ≡ Ok (s.objects, last)

abbrev state : SavedCounts → List SavedPort → List (ℕ × Route) → List SavedObject → Saved
state counts ports routes objects = record { ports = ports; routes = routes; objects = objects; counts = counts }

pub whole_of : (text rest second third last : List ℕ) (c : SavedCounts) (ports : List SavedPort) (routes : List (ℕ × Route))
    (objects : List SavedObject) (count : ℕ) → Counted text c rest → ports_at rest ≡ Ok (ports, second) → count ≡ length ports
    → routes_at count second ≡ Ok (routes, third) → objects_at third ≡ Ok (objects, last) → Whole text (state c ports routes objects) last
whole_of text rest second third last c ports routes objects count so e n f g = record {
  rest = rest;
  second = second;
  third = third;
  counted = so;
  ports = e;
  routes = subst (λ (k : ℕ). routes_at k second ≡ Ok (routes, third)) n f;
  objects = g;
}

-- a state is its parts
pub saved_is : (s : Saved) (c : SavedCounts) (ports : List SavedPort) (routes : List (ℕ × Route)) (objects : List SavedObject)
    → s.ports ≡ ports → s.routes ≡ routes → s.objects ≡ objects → s.counts ≡ c → s ≡ state c ports routes objects
saved_is s c ports routes objects e f g h =
    ap (λ (x : List SavedPort). state s.counts x s.routes s.objects) e
    ∙ ap (λ (x : List (ℕ × Route)). state s.counts ports x s.objects) f
    ∙ ap (λ (x : List SavedObject). state s.counts ports routes x) g
    ∙ ap (λ (x : SavedCounts). state x ports routes objects) h

-- as few parts as a state has
pub few_parts : (ports : List SavedPort) (routes : List (ℕ × Route)) (objects : List SavedObject) → length ports ≤ 8 → length routes ≤ 512
    → length objects ≤ 256 → are_few ports routes objects ≡ true
few_parts ports routes objects p r o =
    rw (le-leb (length ports) 8 p, le-leb (length routes) 512 r, le-leb (length objects) 256 o) refl

whole_is : (text last : List ℕ) (s : Saved) → Whole text s last → lines_of text ≡ at_end s last
unfolding lines_of
whole_is text last s so = rw (so.counted.first, so.counted.counts, so.counted.are, so.ports, so.routes, so.objects) refl

pub end_missed : (text last : List ℕ) (s : Saved) → Whole text s last → after_word end_line last ≡ None
    → lines_of text ≡ Err (stop_at last Line)
end_missed text last s so e = whole_is text last s so ∙ rw e refl

pub more_after : (text last after : List ℕ) (s : Saved) → Whole text s last → after_word end_line last ≡ Some after
    → (length after == 0) ≡ false → lines_of text ≡ Err (stop_at after Line)
more_after text last after s so e some = whole_is text last s so ∙ rw (e, some) refl

pub state_read_so : (text last after : List ℕ) (s : Saved) → Whole text s last → after_word end_line last ≡ Some after
    → (length after == 0) ≡ true → lines_of text ≡ Ok s
state_read_so text last after s so e none = whole_is text last s so ∙ rw (e, none) refl

-- ---- what is answered

abbrev pub no_memory : FaultKind → Type 0
no_memory kind = kind ≢ Memory

pub memory_by : (kind : FaultKind) → (kind ≢ Memory → ⊥) → kind ≡ Memory
memory_by Version other = absurd (other (λ e. absurd cc))
memory_by Line other = absurd (other (λ e. absurd cc))
memory_by Range other = absurd (other (λ e. absurd cc))
memory_by Twice other = absurd (other (λ e. absurd cc))
memory_by TooMany other = absurd (other (λ e. absurd cc))
memory_by Cut other = absurd (other (λ e. absurd cc))
memory_by Memory other = refl

-- a lack of memory is answered as one
pub memory_stays : (whole : Bool) (kind : FaultKind) → kind_at whole kind ≢ Memory → kind ≢ Memory
memory_stays whole kind other e = other (ap (kind_at whole) e)

-- the kind of a fault, of a line that is whole or cut
pub kind_so : (a b front rest : List ℕ) (whole test : Bool) (kind : FaultKind) → front ≡ a → rest ≡ b → whole ≡ is_whole front rest
    → whole ≡ test → kind ≢ Memory → (if test then kind else Cut) ≡ kind_at (is_whole a b) kind
kind_so a b front rest whole test kind f g w t other =
    let is : is_whole a b ≡ test = ap₂ is_whole (sym f) (sym g) ∙ sym w ∙ t in
    by kind other ∙ ap (λ (x : Bool). kind_at x kind) (sym is)
  where
    by : (kind : FaultKind) → kind ≢ Memory → (if test then kind else Cut) ≡ kind_at test kind
    by Version other = refl
    by Line other = refl
    by Range other = refl
    by Twice other = refl
    by TooMany other = refl
    by Cut other = refl
    by Memory other = absurd (other refl)

abbrev pub fault_is : ℕ → FaultKind → StateFault
fault_is line kind = record { line = line; kind = kind }

abbrev failed_so : ℕ → FaultKind → Result Saved StateFault
failed_so line kind = Err (fault_is line kind)

pub fault_so : (text : List ℕ) (stop : Stop) (line : ℕ) (kind : FaultKind) → (stop.kind ≢ Memory → lines_of text ≡ Err stop)
    → line ≡ line_count (take (length text - stop.left) text) + 1
    → kind ≡ kind_at (is_whole (take (length text - stop.left) text) (drop (length text - stop.left) text)) stop.kind
    → kind ≢ Memory → state_of text ≡ failed_so line kind
fault_so text stop line kind exact l k other =
    let whole = is_whole (take (length text - stop.left) text) (drop (length text - stop.left) text) in
    let known = memory_stays whole stop.kind (λ e. other (k ∙ e)) in
    ap (located text) (exact known) ∙ ap₂ failed_so (sym l) (sym k)

pub state_so : (text : List ℕ) (s : Saved) → lines_of text ≡ Ok s → state_of text ≡ Ok s
state_so text s e = ap (located text) e

pub read_back : (text : List ℕ) (result : Result Saved StateFault) → ReadsState (λ s. s) result (state_of text)
    → (s : Saved) → AreFit s → text ≡ state_text s → IsReadAs s result
read_back text (Ok read) exact s fit e = ok_is {F = StateFault} read s (sym exact ∙ ap state_of e ∙ state_again s fit)
read_back text (Err fault) exact s fit e = memory_by fault.kind (λ other. absurd (let both = sym (exact other) ∙ ap state_of e ∙ state_again s fit in cc))
