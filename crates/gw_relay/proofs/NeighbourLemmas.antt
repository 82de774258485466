-- A port beside another broadcast manager, and announcements that end.
use Rattle.std.proofs.Common.{◌≡◌, ◌∙◌, sym, ap, refl, subst, true≢false, ℕ, zero, suc, ◌+◌, ◌-◌, Bool, true, false, ◌&&◌, ◌||◌, not, cond, List, [], ◌∷◌, ◌++◌, map, length, nat_eq, nat_le, append-nil, append_assoc, arith, Option, Some, None}
use Rattle.std.specs.Prelude.{◌==◌, if◌then◌else◌, is_some, slice_get, filter, filter_map}
use Rattle.std.specs.List.{flat_map, list_all, list_any, AllByRecursion, IsDistinct}
use Rattle.std.specs.Map.{keys_of}
use Rattle.std.specs.Option.{option_map, option_map_or}
use Rattle.std.proofs.Math.Seq.{drop-length}
use Rattle.std.proofs.lemmas.Bool.{and_from, and_parts, not-true}
use Rattle.std.proofs.lemmas.List.Folds.{list_any-append}
use Rattle.std.proofs.lemmas.Map.Keys.{IsDistinct-head, IsDistinct-push, IsDistinct-tail}
use Rattle.std.specs.Cmp.{nat_eq_equiv}
use Rattle.std.specs.Map.{lookup}
use Rattle.gw_addr.specs.declared.bip.BipAddr.{BipAddr}
use Rattle.gw_addr.specs.declared.entry.BdtEntry.{BdtEntry}
use Rattle.gw_configuration.specs.declared.port.Port.{Port as ConfiguredPort}
use Rattle.gw_frames.specs.bvll.Bvll.{Message as Frame}
use Rattle.gw_frames.specs.bvll.Bvll as bvll
use Rattle.gw_frames.specs.declared.bvll.writing.TheConstants.{MAX_LEN}
use Rattle.gw_frames.specs.npdu.Npdu.{Fields}
use Rattle.gw_frames.specs.npdu.Numbers.{max_len}
use Rattle.gw_tables.specs.bdt_fdt.Registrations.{Registered, emptied, row_later}
use Rattle.gw_tables.specs.declared.bdt_fdt.tables.PortTables.{PortTables}
use Rattle.gw_tables.specs.routes.Table.{Routed, Table, is_fixed, is_learned, new_networks, route_by}
use Rattle.gw_tables.proofs.routes_lemmas.Learning.{equal_of, own}
use Rattle.gw_tables.proofs.routes_lemmas.News.{go_last, new_named, new_once, new_unknown}
use Rattle.gw_rules.specs.Allowed.{NoneAllowed}
use Rattle.gw_rules.specs.Ask.{Ask, IsFor}
use Rattle.gw_rules.specs.RuleList.{allows}
use Rattle.gw_rules.specs.declared.format.Format.{Format}
use Rattle.gw_rules.specs.declared.operation.Operation.{Operation}
use Rattle.gw_rules.specs.declared.operation.Operation.TheVariants as operations
use Rattle.gw_rules.specs.declared.rule.Rule.{Rule}
use Rattle.gw_relay.specs.Asks.{management_of}
use Rattle.gw_relay.specs.Cast.{accepts, cast_asks, is_unregistered, cast_sends, devices, managers, spread}
use Rattle.gw_relay.specs.Initial.{port_states_from, port_states_with}
use Rattle.gw_relay.specs.Link.{answer_to, change_of, link_change, link_grants, refused}
use Rattle.gw_relay.specs.Manage.{announced_but, first_learned, i_am_router, is_i_am_router, keep_allowed, learn_ask, manage_asks, named_networks, onward_sends}
use Rattle.gw_relay.specs.Message.{Message}
use Rattle.gw_relay.specs.Neighbours as laws
use Rattle.gw_relay.specs.Neighbours.{IsRefused, all_first_learned, are_bare, first_learned_by, is_bare, refusal_of}
use Rattle.gw_relay.specs.Route.{others}
use Rattle.gw_relay.specs.Sends.{Sending, sendings, sent}
use Rattle.gw_relay.specs.State.{Commit, Move, Relay, changed_at, changed_of, deleted, is_manager, later, moved, moved_by, port_at, port_later, ports_after, registered}
use Rattle.gw_relay.specs.State as move
use Rattle.gw_relay.specs.Steps.{broadcast, npdu_octets}
use Rattle.gw_relay.specs.declared.change.Change.{Change}
use Rattle.gw_relay.specs.declared.change.Change.TheVariants.{Deletion, Entries, Learnings, Registration}
use Rattle.gw_relay.specs.declared.port.Port.{Port}
use Rattle.gw_relay.specs.declared.port.PortState.{PortState}
use Rattle.gw_relay.proofs.Claims.{none_learned}
use Rattle.gw_relay.proofs.Learning.{learned_asks, none_onward}
use Rattle.gw_relay.proofs.Asking.{misplaced_answer, misplaced_asks, misplaced_change, sent_nowhere, unmanaged_answer, unmanaged_asks, unmanaged_change}

-- ---- a port beside another broadcast manager

refused_by : (rules : List Rule) (format : Format) (on : PortState) (from : BipAddr) (frame : Frame) (op : Option Operation)
    → management_of frame ≡ op → is_manager on.port ≡ false → IsRefused rules format on from frame
refused_by rules format on from frame None is other = record {
  asks = unmanaged_asks format on from frame is;
  sends = unmanaged_answer rules format on from frame is ∙ sym (ap (λ (o : Option Operation). if is_some o then map (answer_to on.port from) (refused frame) else []) is);
  change = unmanaged_change rules format on from frame is;
}
refused_by rules format on from frame (Some op) is other = record {
  asks = misplaced_asks format on from frame op is other;
  sends = misplaced_answer rules format on from frame op is other
      ∙ sym (ap (λ (o : Option Operation). if is_some o then map (answer_to on.port from) (refused frame) else []) is);
  change = misplaced_change rules format on from frame op is other;
}

pub no_tables_beside : laws.NoTablesBeside
no_tables_beside rules format on from frame other = refused_by rules format on from frame (management_of frame) refl other

-- a message on a port that has this broadcast manager beside it
beside : BipAddr → Message → Message
beside manager m = record m { here = record m.here { port = record m.here.port { bbmd = Some manager } } }

unasked_and : (b : Bool) (asks : List Ask) → (if b && false then asks else []) ≡ []
unasked_and true asks = refl
unasked_and false asks = refl

distributes_none : (manager : BipAddr) (rules : List Rule) (format : Format) (m : Message)
    → cast_asks format (beside manager m) ≡ []
unfolding cast_asks beside
distributes_none manager rules format m = unasked_and _ _

-- what is sent of a broadcast by cases: whether it is heard, whether its sender is registered, and whether it is allowed
by_cases : (heard strange denied : Bool) (refusal : List Sending) → List Sending
by_cases heard strange denied refusal = if not heard then [] else if strange || denied then refusal else []

none_either : (b : Bool) → ◌≡◌ {A = List Sending} (if not b then [] else []) []
none_either true = refl
none_either false = refl

cast_beside : (manager : BipAddr) (rules : List Rule) (format : Format) (m : Message) (frame : Frame) (asks : List Ask) → asks ≡ [] → m.frame ≡ frame
    → by_cases (accepts (beside manager m).here m.from frame) (is_unregistered (beside manager m).here m.from frame)
    (not (list_all (allows rules) asks)) (map (answer_to m.here.port m.from) (refused frame)) ≡ refusal_of m.here.port m.from frame
unfolding by_cases beside
cast_beside manager rules format m (bvll.result_code code) asks none is = rw none refl
cast_beside manager rules format m (bvll.write_bdt entries) asks none is = rw none refl
cast_beside manager rules format m bvll.read_bdt asks none is = rw none refl
cast_beside manager rules format m (bvll.read_bdt_ack entries) asks none is = rw none refl
cast_beside manager rules format m (bvll.forwarded originator npdu) asks none is = rw none (none_either _)
cast_beside manager rules format m (bvll.register time_to_live) asks none is = rw none refl
cast_beside manager rules format m bvll.read_fdt asks none is = rw none refl
cast_beside manager rules format m (bvll.read_fdt_ack entries) asks none is = rw none refl
cast_beside manager rules format m (bvll.delete address) asks none is = rw none refl
cast_beside manager rules format m (bvll.distribute npdu) asks none is = refl
cast_beside manager rules format m (bvll.original_unicast npdu) asks none is = rw none refl
cast_beside manager rules format m (bvll.original_broadcast npdu) asks none is = rw none refl

sends_beside : (manager : BipAddr) (rules : List Rule) (format : Format) (m : Message)
    → cast_sends rules format (beside manager m) ≡ refusal_of m.here.port m.from m.frame
unfolding cast_sends beside by_cases
sends_beside manager rules format m =
    cast_beside manager rules format m m.frame (cast_asks format (beside manager m)) (distributes_none manager rules format m) refl

nothing_by : (bbmd : Option BipAddr) (rules : List Rule) (format : Format) (m : Message) → m.here.port.bbmd ≡ bbmd → is_manager m.here.port ≡ false
    → (cast_asks format m ≡ []) × (cast_sends rules format m ≡ refusal_of m.here.port m.from m.frame)
unfolding beside
nothing_by None rules format m e other = absurd (true≢false (sym (ap (λ (b : Option BipAddr). not (is_some b)) e) ∙ other))
nothing_by (Some manager) rules format m e other =
    let same : m ≡ beside manager m = ap (λ (b : Option BipAddr). record m { here = record m.here { port = record m.here.port { bbmd = b } } }) e in
    (ap (cast_asks format) same ∙ distributes_none manager rules format m, ap (cast_sends rules format) same ∙ sends_beside manager rules format m)

pub nothing_is_distributed : laws.NothingIsDistributedBeside
nothing_is_distributed rules format m other = nothing_by m.here.port.bbmd rules format m refl other

-- ---- bare ports

some_same : (a b : PortState) → Some a ≡ Some b → a ≡ b
some_same a b e = ap (λ (o : Option PortState). option_map_or (λ x. x) o a) e

or_first : (a b : Bool) → a ≡ true → (a || b) ≡ true
or_first true b e = refl
or_first false b e = cc

first_bare : (number : ℕ) (ports : List ConfiguredPort) → are_bare number (port_states_from number ports) ≡ true
first_bare number [] = refl
first_bare number (p ∷ ports) = rw (own number, by (is_some p.bbmd)) (first_bare (number + 1) ports)
  where
    by : (b : Bool) → (not b || (length (if b then [] else p.peers) == 0 && true)) ≡ true
    by true = refl
    by false = refl

pub bare_at_first : laws.AreBareAtFirst
bare_at_first c = first_bare 1 c.ports

resumed_bare : (number : ℕ) (ports : List ConfiguredPort) (tables : List PortTables) → are_bare number (port_states_with number ports tables) ≡ true
resumed_bare number [] tables = refl
resumed_bare number (p ∷ ports) [] = refl
resumed_bare number (p ∷ ports) (t ∷ tables) = rw (own number, by (is_some p.bbmd)) (resumed_bare (number + 1) ports tables)
  where
    by : (b : Bool) → (not b || (length (if b then [] else t.bdt) == 0 && length (if b then emptied t.fdt else t.fdt).rows == 0)) ≡ true
    by true = refl
    by false = refl

pub bare_resumed : laws.AreBareResumed
bare_resumed c tables learned ticks = resumed_bare 1 c.ports tables

-- a tick leaves no row where there is none
no_rows : (rows : Registered) → (length rows == 0) ≡ true → (length (filter_map row_later rows) == 0) ≡ true
no_rows [] e = refl
no_rows (row ∷ rows) e = absurd (omega (arith, equal_of _ _ e))

later_one : (manager : Bool) (entries : List BdtEntry) (rows : Registered) → (manager || (length entries == 0 && length rows == 0)) ≡ true
    → (manager || (length entries == 0 && length (filter_map row_later rows) == 0)) ≡ true
later_one true entries rows e = refl
later_one false entries rows e =
    let parts = and_parts (length entries == 0) (length rows == 0) e in
    and_from (length entries == 0) _ parts.0 (no_rows rows parts.1)

later_bare : (number : ℕ) (ports : List PortState) → are_bare number ports ≡ true → are_bare number (map port_later ports) ≡ true
later_bare number [] e = refl
later_bare number (state ∷ ports) e =
    let all = and_parts (state.port.number == number && is_bare state) (are_bare (number + 1) ports) e in
    let here = and_parts (state.port.number == number) (is_bare state) all.0 in
    and_from _ _ (and_from _ _ here.0 (later_one (is_manager state.port) state.bdt state.fdt.rows here.1)) (later_bare (number + 1) ports all.1)

pub ticks_stay_bare : laws.TicksStayBare
ticks_stay_bare relay e = later_bare 1 relay.ports e

-- a change of a port that is the broadcast manager of its subnet
changed_bare : (i number : ℕ) (f : PortState → PortState) → ((state : PortState) → (f state).port ≡ state.port)
    → (ports : List PortState) (on : PortState) → slice_get ports i ≡ Some on → is_manager on.port ≡ true → are_bare number ports ≡ true
    → are_bare number (changed_at i f ports) ≡ true
changed_bare i number f keeps [] on there manager e = refl
changed_bare zero number f keeps (state ∷ ports) on there manager e =
    let all = and_parts (state.port.number == number && is_bare state) (are_bare (number + 1) ports) e in
    let here = and_parts (state.port.number == number) (is_bare state) all.0 in
    let same : state ≡ on = some_same state on there in
    let managed : is_manager (f state).port ≡ true = ap is_manager (keeps state) ∙ ap (λ (s : PortState). is_manager s.port) same ∙ manager in
    let numbered : ((f state).port.number == number) ≡ true = ap (λ (port : Port). port.number == number) (keeps state) ∙ here.0 in
    and_from _ _ (and_from _ _ numbered (or_first (is_manager (f state).port) _ managed)) all.1
changed_bare (suc i) number f keeps (state ∷ ports) on there manager e =
    let all = and_parts (state.port.number == number && is_bare state) (are_bare (number + 1) ports) e in
    and_from _ _ all.0 (changed_bare i (number + 1) f keeps ports on there manager all.1)

-- the port of a number has it
numbered_at : (i number : ℕ) (ports : List PortState) (on : PortState) → slice_get ports i ≡ Some on → are_bare number ports ≡ true → on.port.number ≡ number + i
numbered_at i number [] on there e = absurd cc
numbered_at zero number (state ∷ ports) on there e =
    let all = and_parts (state.port.number == number && is_bare state) (are_bare (number + 1) ports) e in
    let here = and_parts (state.port.number == number) (is_bare state) all.0 in
    let same : state ≡ on = some_same state on there in
    let equal : state.port.number ≡ number = equal_of state.port.number number here.0 in
    let moved_on : on.port.number ≡ state.port.number = ap (λ (s : PortState). s.port.number) (sym same) in
    omega (arith, equal, moved_on)
numbered_at (suc i) number (state ∷ ports) on there e =
    let all = and_parts (state.port.number == number && is_bare state) (are_bare (number + 1) ports) e in
    let rest : on.port.number ≡ number + 1 + i = numbered_at i (number + 1) ports on there all.1 in
    omega (arith, rest)

there_by : (b : Bool) (o : Option PortState) (on : PortState) → (if b then None else o) ≡ Some on → o ≡ Some on
there_by true o on e = cc
there_by false o on e = e

either_bare : (b : Bool) (xs ys : List PortState) → are_bare 1 xs ≡ true → are_bare 1 ys ≡ true → are_bare 1 (if b then xs else ys) ≡ true
either_bare true xs ys x y = x
either_bare false xs ys x y = y

of_bare : (number : ℕ) (f : PortState → PortState) → ((state : PortState) → (f state).port ≡ state.port) → (ports : List PortState) (on : PortState)
    → port_at ports number ≡ Some on → is_manager on.port ≡ true → are_bare 1 ports ≡ true → are_bare 1 (changed_of on.port.number f ports) ≡ true
of_bare number f keeps ports on at manager e =
    let there : slice_get ports (number - 1) ≡ Some on = there_by (number == 0) (slice_get ports (number - 1)) on at in
    let numbered : on.port.number ≡ 1 + (number - 1) = numbered_at (number - 1) 1 ports on there e in
    let place : on.port.number - 1 ≡ number - 1 = omega (arith, numbered) in
    either_bare (on.port.number == 0) ports (changed_at (on.port.number - 1) f ports) e
    (changed_bare (on.port.number - 1) 1 f keeps ports on (ap (slice_get ports) place ∙ there) manager e)

module _ (relay : Relay) (number : ℕ) (on : PortState) (from : BipAddr) (at : port_at relay.ports number ≡ Some on) (manager : is_manager on.port ≡ true) (e : are_bare 1 relay.ports ≡ true) where
  had_bare : (g : Bool) (frame : Frame) → are_bare 1 (moved (option_map Commit (if g then change_of on.port from frame else None)) relay).ports ≡ true
  had_bare false frame = e
  had_bare true (bvll.write_bdt entries) = of_bare number (λ state. record state { bdt = entries }) (λ state. refl) relay.ports on at manager e
  had_bare true (bvll.register time_to_live) =
      of_bare number (λ state. record state { fdt = registered from time_to_live state.fdt }) (λ state. refl) relay.ports on at manager e
  had_bare true (bvll.delete address) =
      of_bare number (λ state. record state { fdt = deleted address state.fdt }) (λ state. refl) relay.ports on at manager e
  had_bare true (bvll.result_code code) = e
  had_bare true bvll.read_bdt = e
  had_bare true (bvll.read_bdt_ack entries) = e
  had_bare true (bvll.forwarded originator npdu) = e
  had_bare true bvll.read_fdt = e
  had_bare true (bvll.read_fdt_ack entries) = e
  had_bare true (bvll.distribute npdu) = e
  had_bare true (bvll.original_unicast npdu) = e
  had_bare true (bvll.original_broadcast npdu) = e

tables_by : (rules : List Rule) (relay : Relay) (number : ℕ) (on : PortState) (from : BipAddr) (frame : Frame) (b : Bool) → is_manager on.port ≡ b
    → port_at relay.ports number ≡ Some on → are_bare 1 relay.ports ≡ true
    → are_bare 1 (moved (option_map Commit (link_change rules relay.format on from frame)) relay).ports ≡ true
unfolding link_change
tables_by rules relay number on from frame true manager at e =
    had_bare relay number on from at manager e (link_grants rules relay.format on from frame) frame
tables_by rules relay number on from frame false other at e =
    subst (λ (change : Option Change). are_bare 1 (moved (option_map Commit change) relay).ports ≡ true)
    (sym (no_tables_beside rules relay.format on from frame other).change) e

pub tables_stay_bare : laws.TablesStayBare
tables_stay_bare rules relay number on from frame at e = tables_by rules relay number on from frame (is_manager on.port) refl at e

pub learning_stays_bare : laws.LearningStaysBare
learning_stays_bare rules relay m e = by (is_i_am_router m.npdu)
  where
    by : (b : Bool) → are_bare 1 (moved (option_map Commit (if b then Some (Learnings m.here.port.number m.link
        (keep_allowed rules relay.format m (named_networks m))) else None)) relay).ports ≡ true
    by true = e
    by false = e

no_items : {A : Type 0} (xs : List A) → (length xs == 0) ≡ true → xs ≡ []
no_items [] e = refl
no_items (x ∷ xs) e = absurd (omega (arith, equal_of _ _ e))

bare_by : (state : PortState) (npdu : List ℕ) → state.bdt ≡ [] → state.fdt.rows ≡ []
    → spread state npdu ≡ (if nat_le (length npdu) max_len
    then sent state.port.number (state.port.broadcast ∷ []) (bvll.original_broadcast npdu) else [])
unfolding spread
bare_by state npdu entries rows = by (nat_le (length npdu) max_len)
  where
    nobody : managers state ++ devices state ≡ []
    nobody = rw (entries, rows) refl

    alone : sent state.port.number (state.port.broadcast ∷ []) (bvll.original_broadcast npdu)
        ++ sent state.port.number (managers state ++ devices state) (bvll.forwarded state.port.address npdu)
        ≡ sent state.port.number (state.port.broadcast ∷ []) (bvll.original_broadcast npdu)
    alone =
        ap (λ (all : List BipAddr). sent state.port.number (state.port.broadcast ∷ []) (bvll.original_broadcast npdu)
        ++ sent state.port.number all (bvll.forwarded state.port.address npdu)) nobody
        ∙ ap (λ (sends : List Sending). sent state.port.number (state.port.broadcast ∷ []) (bvll.original_broadcast npdu) ++ sends)
        (sent_nowhere state.port.number (bvll.forwarded state.port.address npdu))
        ∙ append-nil (sent state.port.number (state.port.broadcast ∷ []) (bvll.original_broadcast npdu))

    by : (b : Bool) → (if b then sent state.port.number (state.port.broadcast ∷ []) (bvll.original_broadcast npdu)
        ++ sent state.port.number (managers state ++ devices state) (bvll.forwarded state.port.address npdu) else [])
        ≡ (if b then sent state.port.number (state.port.broadcast ∷ []) (bvll.original_broadcast npdu) else [])
    by true = alone
    by false = refl

pub bare_broadcasts : laws.BareBroadcasts
bare_broadcasts state npdu other bare =
    let empty : (length state.bdt == 0 && length state.fdt.rows == 0) ≡ true =
    sym (ap (λ (b : Bool). b || (length state.bdt == 0 && length state.fdt.rows == 0)) other) ∙ bare in
    let parts = and_parts (length state.bdt == 0) (length state.fdt.rows == 0) empty in
    bare_by state npdu (no_items state.bdt parts.0) (no_items state.fdt.rows parts.1)

-- ---- what is announced

-- each send is on another port
abbrev Elsewhere : ℕ → List Sending → Type 0
Elsewhere number sends = AllByRecursion (λ s. (s.port == number) ≡ false) sends

elsewhere_both : (number : ℕ) (xs ys : List Sending) → Elsewhere number xs → Elsewhere number ys → Elsewhere number (xs ++ ys)
elsewhere_both number [] ys x y = y
elsewhere_both number (s ∷ xs) ys x y = (x.0, elsewhere_both number xs ys x.1 y)

elsewhere_each : (number port : ℕ) → (port == number) ≡ false → (octets : List ℕ) (targets : List BipAddr) → Elsewhere number (sendings port targets octets)
elsewhere_each number port e octets [] = tt
elsewhere_each number port e octets (to ∷ targets) = (e, elsewhere_each number port e octets targets)

elsewhere_if : (number : ℕ) (b : Bool) (sends : List Sending) → Elsewhere number sends → Elsewhere number (if b then sends else [])
elsewhere_if number true sends e = e
elsewhere_if number false sends e = tt

elsewhere_sent : (number port : ℕ) → (port == number) ≡ false → (targets : List BipAddr) (frame : Frame) → Elsewhere number (sent port targets frame)
elsewhere_sent number port e targets frame =
    elsewhere_if number (nat_le (length (bvll.encoding frame)) MAX_LEN) (sendings port targets (bvll.encoding frame))
    (elsewhere_each number port e (bvll.encoding frame) targets)

elsewhere_spread : (number : ℕ) (state : PortState) (npdu : List ℕ) → (state.port.number == number) ≡ false → Elsewhere number (spread state npdu)
unfolding spread
elsewhere_spread number state npdu e =
    let own = sent state.port.number (state.port.broadcast ∷ []) (bvll.original_broadcast npdu) in
    let all = sent state.port.number (managers state ++ devices state) (bvll.forwarded state.port.address npdu) in
    elsewhere_if number (nat_le (length npdu) max_len) (own ++ all)
    (elsewhere_both number own all (elsewhere_sent number state.port.number e (state.port.broadcast ∷ []) (bvll.original_broadcast npdu))
    (elsewhere_sent number state.port.number e (managers state ++ devices state) (bvll.forwarded state.port.address npdu)))

elsewhere_broadcast : (number : ℕ) (state : PortState) (octets : Option (List ℕ)) → (state.port.number == number) ≡ false
    → Elsewhere number (option_map_or (spread state) octets [])
elsewhere_broadcast number state None e = tt
elsewhere_broadcast number state (Some npdu) e = elsewhere_spread number state npdu e

elsewhere_others : (number : ℕ) (npdu : Fields) (ports : List PortState) → Elsewhere number (flat_map (broadcast npdu) (others number ports))
elsewhere_others number npdu [] = tt
elsewhere_others number npdu (state ∷ ports) = by (nat_eq state.port.number number) refl (elsewhere_others number npdu ports)
  where
    by : (b : Bool) → nat_eq state.port.number number ≡ b → Elsewhere number (flat_map (broadcast npdu) (others number ports))
        → Elsewhere number (flat_map (broadcast npdu) (if not b then state ∷ others number ports else others number ports))
    by true e rest = rest
    by false e rest = elsewhere_both number (broadcast npdu state) _ (elsewhere_broadcast number state (npdu_octets npdu) e) rest

elsewhere_but : (number : ℕ) (ports : List PortState) (networks : List ℕ) (b : Bool)
    → Elsewhere number (if b then [] else flat_map (broadcast (i_am_router networks)) (others number ports))
elsewhere_but number ports networks true = tt
elsewhere_but number ports networks false = elsewhere_others number (i_am_router networks) ports

pub onward_leaves : laws.OnwardLeavesThePort
unfolding onward_sends
onward_leaves rules relay m =
    elsewhere_if m.here.port.number (relay.announce && is_i_am_router m.npdu)
    (announced_but m.here.port.number relay.ports (first_learned rules relay m))
    (elsewhere_but m.here.port.number relay.ports (first_learned rules relay m) (length (first_learned rules relay m) == 0))

kept_passes : (p : ℕ → Bool) (xs : List ℕ) (n : ℕ) → list_any (nat_eq n) (filter p xs) ≡ true → p n ≡ true
kept_passes p [] n e = absurd (true≢false (sym e))
kept_passes p (x ∷ xs) n e = by (p x) refl (nat_eq n x) refl (kept_passes p xs n) e
  where
    by : (b : Bool) → p x ≡ b → (c : Bool) → nat_eq n x ≡ c → (list_any (nat_eq n) (filter p xs) ≡ true → p n ≡ true)
        → list_any (nat_eq n) (if b then x ∷ filter p xs else filter p xs) ≡ true → p n ≡ true
    by false q c is rest h = rest h
    by true q true is rest h = ap p (equal_of n x is) ∙ q
    by true q false is rest h = rest (sym (ap (λ (d : Bool). d || list_any (nat_eq n) (filter p xs)) is) ∙ h)

pub onward_is_granted : laws.OnwardIsGranted
onward_is_granted rules relay m net h =
    let networks : List ℕ = keep_allowed rules relay.format m (named_networks m) in (
      kept_passes (λ n. allows rules (learn_ask relay.format m n)) (named_networks m) net (new_named relay.routes networks (route_by m.here.port.number m.link) net h),
      new_unknown relay.routes networks (route_by m.here.port.number m.link) net h,
    )

none_new : (t : Table) (number : ℕ) (next : BipAddr) (networks : List ℕ) → networks ≡ [] → new_networks t networks (route_by number next) ≡ []
none_new t number next networks none = rw none (ap keys_of (drop-length t.learned))

none_by : (b : Bool) (rules : List Rule) (relay : Relay) (m : Message) → is_i_am_router m.npdu ≡ b
    → NoneAllowed (IsFor operations.Learn) rules (manage_asks relay m) → onward_sends rules relay m ≡ []
unfolding onward_sends
none_by false rules relay m is h = none_onward rules relay m is
none_by true rules relay m is h =
    let none = none_learned rules relay.format m (named_networks m) (subst (NoneAllowed (IsFor operations.Learn) rules) (learned_asks relay m is) h) in
    ap (λ (networks : List ℕ). if relay.announce && is_i_am_router m.npdu then announced_but m.here.port.number relay.ports networks else [])
    (none_new relay.routes m.here.port.number m.link (keep_allowed rules relay.format m (named_networks m)) none)
    ∙ by (relay.announce && is_i_am_router m.npdu)
  where
    by : (b : Bool) → ◌≡◌ {A = List Sending} (if b then [] else []) []
    by true = refl
    by false = refl

pub nothing_learned_nothing_sent : laws.NothingLearnedNothingSent
nothing_learned_nothing_sent rules relay m h = none_by (is_i_am_router m.npdu) rules relay m refl h

-- what a change makes the table learn for the first time
learned_of : Relay → Option Change → List ℕ
learned_of relay None = []
learned_of relay (Some change) = first_learned_by (Commit change) relay

onward_by : (b : Bool) (rules : List Rule) (relay : Relay) (m : Message) (change : Change)
    → (if b then Some (Learnings m.here.port.number m.link (keep_allowed rules relay.format m (named_networks m))) else None) ≡ Some change
    → first_learned rules relay m ≡ first_learned_by (Commit change) relay
unfolding learned_of
onward_by true rules relay m change e = ap (learned_of relay) e
onward_by false rules relay m change e = cc

pub onward_is_first_learned : laws.OnwardIsFirstLearned
onward_is_first_learned rules relay m port next networks e =
    onward_by (is_i_am_router m.npdu) rules relay m (Learnings port next networks) e

-- ---- over any moves

grown : (move : Move) (relay : Relay) → keys_of (moved (Some move) relay).routes.learned ≡ keys_of relay.routes.learned ++ first_learned_by move relay
grown (Commit (Learnings port next networks)) relay = go_last relay.routes (route_by port next) networks
grown (Commit (Entries port bdt)) relay = sym (append-nil (keys_of relay.routes.learned))
grown (Commit (Registration port address time_to_live)) relay = sym (append-nil (keys_of relay.routes.learned))
grown (Commit (Deletion port address)) relay = sym (append-nil (keys_of relay.routes.learned))
grown move.Tick relay = sym (append-nil (keys_of relay.routes.learned))

pub announcements_end : laws.AnnouncementsEnd
unfolding moved_by all_first_learned
announcements_end [] relay = sym (append-nil (keys_of relay.routes.learned))
announcements_end (move ∷ moves) relay =
    grown move (moved_by moves relay)
    ∙ ap (λ (nets : List ℕ). nets ++ first_learned_by move (moved_by moves relay)) (announcements_end moves relay)
    ∙ append_assoc (keys_of relay.routes.learned) (all_first_learned moves relay) (first_learned_by move (moved_by moves relay))

new_by : (move : Move) (relay : Relay) (n : ℕ) → list_any (nat_eq n) (first_learned_by move relay) ≡ true → is_learned relay.routes n ≡ false
new_by (Commit (Learnings port next networks)) relay n e =
    let parts = and_parts (not (is_fixed relay.routes n)) (not (is_learned relay.routes n)) (new_unknown relay.routes networks (route_by port next) n e) in
    not-true _ parts.1
new_by (Commit (Entries port bdt)) relay n e = absurd (true≢false (sym e))
new_by (Commit (Registration port address time_to_live)) relay n e = absurd (true≢false (sym e))
new_by (Commit (Deletion port address)) relay n e = absurd (true≢false (sym e))
new_by move.Tick relay n e = absurd (true≢false (sym e))

once_by : (move : Move) (relay : Relay) → IsDistinct nat_eq (first_learned_by move relay)
unfolding IsDistinct
once_by (Commit (Learnings port next networks)) relay = new_once relay.routes networks (route_by port next)
once_by (Commit (Entries port bdt)) relay = tt
once_by (Commit (Registration port address time_to_live)) relay = tt
once_by (Commit (Deletion port address)) relay = tt
once_by move.Tick relay = tt

among : (n : ℕ) (es : Routed) → is_some (lookup (nat_eq n) es) ≡ list_any (nat_eq n) (keys_of es)
among n [] = refl
among n (e ∷ es) = by (nat_eq n e.0) (among n es)
  where
    by : (b : Bool) → is_some (lookup (nat_eq n) es) ≡ list_any (nat_eq n) (keys_of es)
        → is_some (cond b (Some e.1) (lookup (nat_eq n) es)) ≡ (b || list_any (nat_eq n) (keys_of es))
    by true ih = refl
    by false ih = ih

or_second : (a b : Bool) → (a || b) ≡ false → b ≡ false
or_second true b e = cc
or_second false b e = e

none_equal : (n : ℕ) (nets : List ℕ) → AllByRecursion (λ m. nat_eq n m ≡ false) nets → list_any (nat_eq n) nets ≡ false
none_equal n [] a = refl
none_equal n (m ∷ nets) a = ap (λ (b : Bool). b || list_any (nat_eq n) nets) a.0 ∙ none_equal n nets a.1

-- what is new is none of those that were learned for the first time before
apart : (move : Move) (moves : List Move) (relay : Relay) (n : ℕ) → list_any (nat_eq n) (first_learned_by move (moved_by moves relay)) ≡ true
    → list_any (nat_eq n) (all_first_learned moves relay) ≡ false
apart move moves relay n e =
    let unknown : list_any (nat_eq n) (keys_of relay.routes.learned ++ all_first_learned moves relay) ≡ false =
    sym (among n (moved_by moves relay).routes.learned ∙ ap (list_any (nat_eq n)) (announcements_end moves relay)) ∙ new_by move (moved_by moves relay) n e in
    or_second (list_any (nat_eq n) (keys_of relay.routes.learned)) _
    (sym (list_any-append (nat_eq n) (keys_of relay.routes.learned) (all_first_learned moves relay)) ∙ unknown)

joined_once : (xs ys : List ℕ) → IsDistinct nat_eq xs → IsDistinct nat_eq ys
    → ((n : ℕ) → list_any (nat_eq n) ys ≡ true → list_any (nat_eq n) xs ≡ false) → IsDistinct nat_eq (xs ++ ys)
joined_once xs [] x y h = subst (IsDistinct nat_eq) (sym (append-nil xs)) x
joined_once xs (n ∷ ys) x y h =
    let first : list_any (nat_eq n) xs ≡ false = h n (ap (λ (b : Bool). b || list_any (nat_eq n) ys) (own n)) in
    subst (IsDistinct nat_eq) (append_assoc xs (n ∷ []) ys)
    (joined_once (xs ++ n ∷ []) ys (IsDistinct-push nat_eq_equiv xs n x first) (IsDistinct-tail nat_eq n ys y)
    (λ k e. list_any-append (nat_eq k) xs (n ∷ []) ∙ none k e))
  where
    both : (a b : Bool) → a ≡ false → b ≡ false → (a || (b || false)) ≡ false
    both false false p q = refl
    both true b p q = cc
    both false true p q = cc

    other : (k : ℕ) → list_any (nat_eq k) ys ≡ true → nat_eq k n ≡ false
    other k e = by (nat_eq k n) refl
      where
        by : (b : Bool) → nat_eq k n ≡ b → b ≡ false
        by false q = refl
        by true q = absurd (true≢false (sym e ∙ ap (λ (j : ℕ). list_any (nat_eq j) ys) (equal_of k n q) ∙ none_equal n ys (IsDistinct-head nat_eq n ys y)))

    none : (k : ℕ) → list_any (nat_eq k) ys ≡ true → (list_any (nat_eq k) xs || (nat_eq k n || false)) ≡ false
    none k e = both (list_any (nat_eq k) xs) (nat_eq k n) (h k (later (nat_eq k n) e)) (other k e)
      where
        later : (b : Bool) → list_any (nat_eq k) ys ≡ true → (b || list_any (nat_eq k) ys) ≡ true
        later true q = refl
        later false q = q

pub each_is_announced_once : laws.EachIsAnnouncedOnce
unfolding all_first_learned IsDistinct
each_is_announced_once [] relay = tt
each_is_announced_once (move ∷ moves) relay =
    joined_once (all_first_learned moves relay) (first_learned_by move (moved_by moves relay)) (each_is_announced_once moves relay)
    (once_by move (moved_by moves relay)) (apart move moves relay)
