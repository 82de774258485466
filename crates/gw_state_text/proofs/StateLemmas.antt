-- The text of a state, from its parts, and the place at which reading stops in it.
use Rattle.std.proofs.Common.{◌≡◌, ◌∙◌, ℕ, List, [], ◌++◌, length, refl, sym, ap, append-nil, append_assoc}
use Rattle.std.specs.List.{flat_map}
use Rattle.gw_tables.specs.declared.routes.route.Route.{Route}
use Rattle.gw_state.specs.declared.counts.SavedCounts.{SavedCounts}
use Rattle.gw_state.specs.declared.port.SavedPort.{SavedPort}
use Rattle.gw_state.specs.Saved.{Saved, SavedObject}
use Rattle.gw_state_text.specs.Text.{counts_line, end_line, first_line, object_text, port_text, route_line, state_text}
use Rattle.gw_state_text.specs.internal.Block.{StopsAfter}
use Rattle.gw_state_text.specs.internal.Lines.{counts_on}
use Rattle.gw_state_text.specs.internal.Stop.{StopsIn}
use Rattle.gw_state_text.proofs.LineLemmas.{counts_then}

-- what comes after a text begins so
pub after : (a t x rest : List ℕ) → t ≡ x ++ rest → a ++ t ≡ (a ++ x) ++ rest
after a t x rest e = ap (λ (u : List ℕ). a ++ u) e ∙ sym (append_assoc a x rest)

pub over : (a x e y : List ℕ) → x ++ e ≡ y → (a ++ x) ++ e ≡ a ++ y
over a x e y h = append_assoc a x e ∙ ap (λ (u : List ℕ). a ++ u) h

abbrev state : SavedCounts → List SavedPort → List (ℕ × Route) → List SavedObject → Saved
state counts ports routes objects = record { ports = ports; routes = routes; objects = objects; counts = counts }

abbrev nothing : Saved
nothing = state (record { since = 0; ticks = 0; denials = 0 }) [] [] []

-- at the first line
pub at_first : (text : List ℕ) → StopsIn text (length text)
at_first text = record {
  front = [];
  rest = text;
  parts = refl;
  begins = record { saved = nothing; more = state_text nothing; is = refl };
  is = refl;
}

abbrev after_first : List ℕ
after_first = counts_line nothing.counts ++ end_line

-- at the counts
pub at_counts : (text lines : List ℕ) → text ≡ first_line ++ lines → StopsIn text (length lines)
at_counts text lines e = record {
  front = first_line;
  rest = lines;
  parts = e;
  begins = record { saved = nothing; more = after_first; is = refl };
  is = refl;
}

-- the lines up to the ports
pub counted : (text lines ports : List ℕ) (c : SavedCounts) → text ≡ first_line ++ lines → lines ≡ counts_on c ports
    → text ≡ (first_line ++ counts_line c) ++ ports
counted text lines ports c e f = e ∙ after first_line lines (counts_line c) ports (f ∙ sym (counts_then c ports))

-- in the ports
pub in_ports : (text ports : List ℕ) (c : SavedCounts) (left : ℕ) → text ≡ (first_line ++ counts_line c) ++ ports
    → StopsAfter port_text ports left → StopsIn text left
in_ports text ports c left e stops =
    let p = flat_map port_text stops.items in record {
      front = (first_line ++ counts_line c) ++ p;
      rest = stops.rest;
      parts = e ∙ after (first_line ++ counts_line c) ports p stops.rest stops.parts;
      begins = record {
        saved = state c stops.items [] [];
        more = end_line;
        is =
            over (first_line ++ counts_line c) p end_line (p ++ end_line) refl
            ∙ append_assoc first_line (counts_line c) (p ++ end_line);
      };
      is = stops.is;
    }

-- in the routes
pub in_routes : (text routes : List ℕ) (c : SavedCounts) (ports : List SavedPort) (left : ℕ)
    → text ≡ ((first_line ++ counts_line c) ++ flat_map port_text ports) ++ routes
    → StopsAfter route_line routes left → StopsIn text left
in_routes text routes c ports left e stops =
    let head = first_line ++ counts_line c in
    let p = flat_map port_text ports in
    let r = flat_map route_line stops.items in record {
      front = (head ++ p) ++ r;
      rest = stops.rest;
      parts = e ∙ after (head ++ p) routes r stops.rest stops.parts;
      begins = record {
        saved = state c ports stops.items [];
        more = end_line;
        is =
            over (head ++ p) r end_line (r ++ end_line) refl ∙ append_assoc head p (r ++ end_line)
            ∙ append_assoc first_line (counts_line c) (p ++ (r ++ end_line));
      };
      is = stops.is;
    }

-- the text of the parts is that of the state
pub whole : (c : SavedCounts) (ports : List SavedPort) (routes : List (ℕ × Route)) (objects : List SavedObject) (more : List ℕ)
    → ((((first_line ++ counts_line c) ++ flat_map port_text ports) ++ flat_map route_line routes) ++ flat_map object_text objects) ++ more
    ≡ first_line ++ (counts_line c ++ (flat_map port_text ports ++ (flat_map route_line routes ++ (flat_map object_text objects ++ more))))
whole c ports routes objects more =
    let head = first_line ++ counts_line c in
    let p = flat_map port_text ports in
    let r = flat_map route_line routes in
    let o = flat_map object_text objects in
    append_assoc ((head ++ p) ++ r) o more ∙ append_assoc (head ++ p) r (o ++ more) ∙ append_assoc head p (r ++ (o ++ more))
    ∙ append_assoc first_line (counts_line c) (p ++ (r ++ (o ++ more)))

-- in the objects
pub in_objects : (text objects : List ℕ) (c : SavedCounts) (ports : List SavedPort) (routes : List (ℕ × Route)) (left : ℕ)
    → text ≡ (((first_line ++ counts_line c) ++ flat_map port_text ports) ++ flat_map route_line routes) ++ objects
    → StopsAfter object_text objects left → StopsIn text left
in_objects text objects c ports routes left e stops =
    let before = ((first_line ++ counts_line c) ++ flat_map port_text ports) ++ flat_map route_line routes in
    let o = flat_map object_text stops.items in record {
      front = before ++ o;
      rest = stops.rest;
      parts = e ∙ after before objects o stops.rest stops.parts;
      begins = record {
        saved = state c ports routes stops.items;
        more = end_line;
        is = whole c ports routes stops.items end_line;
      };
      is = stops.is;
    }

-- at the end
pub at_end : (text end : List ℕ) (c : SavedCounts) (ports : List SavedPort) (routes : List (ℕ × Route)) (objects : List SavedObject)
    → text ≡ ((((first_line ++ counts_line c) ++ flat_map port_text ports) ++ flat_map route_line routes) ++ flat_map object_text objects) ++ end
    → StopsIn text (length end)
at_end text end c ports routes objects e = record {
  front = (((first_line ++ counts_line c) ++ flat_map port_text ports) ++ flat_map route_line routes) ++ flat_map object_text objects;
  rest = end;
  parts = e;
  begins = record { saved = state c ports routes objects; more = end_line; is = whole c ports routes objects end_line };
  is = refl;
}

-- after the end
pub after_end : (text end remaining : List ℕ) (c : SavedCounts) (ports : List SavedPort) (routes : List (ℕ × Route)) (objects : List SavedObject)
    → text ≡ ((((first_line ++ counts_line c) ++ flat_map port_text ports) ++ flat_map route_line routes) ++ flat_map object_text objects) ++ end
    → end ≡ end_line ++ remaining → StopsIn text (length remaining)
after_end text end remaining c ports routes objects e f =
    let before = (((first_line ++ counts_line c) ++ flat_map port_text ports) ++ flat_map route_line routes) ++ flat_map object_text objects in record {
      front = before ++ end_line;
      rest = remaining;
      parts = e ∙ after before end end_line remaining f;
      begins = record {
        saved = state c ports routes objects;
        more = [];
        is = append-nil (before ++ end_line) ∙ whole c ports routes objects end_line;
      };
      is = refl;
    }

-- ---- what is read of the text so far

-- the octets that are left are counted so
pub stops_so : (text : List ℕ) (left other : ℕ) → left ≡ other → StopsIn text other → StopsIn text left
stops_so text left other e stops = record {
  front = stops.front;
  rest = stops.rest;
  parts = stops.parts;
  begins = stops.begins;
  is = e ∙ stops.is;
}

pub read_ports : (text ports routes : List ℕ) (c : SavedCounts) (items : List SavedPort) → text ≡ (first_line ++ counts_line c) ++ ports
    → ports ≡ flat_map port_text items ++ routes
    → text ≡ ((first_line ++ counts_line c) ++ flat_map port_text items) ++ routes
read_ports text ports routes c items e f = e ∙ after (first_line ++ counts_line c) ports (flat_map port_text items) routes f

pub read_routes : (text routes objects : List ℕ) (c : SavedCounts) (ports : List SavedPort) (items : List (ℕ × Route))
    → text ≡ ((first_line ++ counts_line c) ++ flat_map port_text ports) ++ routes → routes ≡ flat_map route_line items ++ objects
    → text ≡ (((first_line ++ counts_line c) ++ flat_map port_text ports) ++ flat_map route_line items) ++ objects
read_routes text routes objects c ports items e f =
    e ∙ after ((first_line ++ counts_line c) ++ flat_map port_text ports) routes (flat_map route_line items) objects f

pub read_objects : (text objects end : List ℕ) (c : SavedCounts) (ports : List SavedPort) (routes : List (ℕ × Route)) (items : List SavedObject)
    → text ≡ (((first_line ++ counts_line c) ++ flat_map port_text ports) ++ flat_map route_line routes) ++ objects
    → objects ≡ flat_map object_text items ++ end
    → text ≡ ((((first_line ++ counts_line c) ++ flat_map port_text ports) ++ flat_map route_line routes) ++ flat_map object_text items) ++ end
read_objects text objects end c ports routes items e f =
    e ∙ after (((first_line ++ counts_line c) ++ flat_map port_text ports) ++ flat_map route_line routes) objects (flat_map object_text items) end f

-- nothing comes after the end
pub state_found : (text end remaining : List ℕ) (c : SavedCounts) (ports : List SavedPort) (routes : List (ℕ × Route)) (objects : List SavedObject)
    (saved : Saved)
    → text ≡ ((((first_line ++ counts_line c) ++ flat_map port_text ports) ++ flat_map route_line routes) ++ flat_map object_text objects) ++ end
    → end ≡ end_line ++ remaining → remaining ≡ [] → saved.ports ≡ ports → saved.routes ≡ routes → saved.objects ≡ objects → saved.counts ≡ c
    → text ≡ state_text saved
state_found text end remaining c ports routes objects saved e f nothing_more is_ports is_routes is_objects is_counts =
    let last : end ≡ end_line = f ∙ ap (λ (t : List ℕ). end_line ++ t) nothing_more ∙ append-nil end_line in
    e ∙ ap (λ (t : List ℕ).
    ((((first_line ++ counts_line c) ++ flat_map port_text ports) ++ flat_map route_line routes) ++ flat_map object_text objects) ++ t) last
    ∙ whole c ports routes objects end_line
    ∙ ap (λ (x : SavedCounts).
    first_line ++ (counts_line x ++ (flat_map port_text ports ++ (flat_map route_line routes ++ (flat_map object_text objects ++ end_line))))) (sym is_counts)
    ∙ ap (λ (x : List SavedPort).
    first_line ++ (counts_line saved.counts ++ (flat_map port_text x ++ (flat_map route_line routes ++ (flat_map object_text objects ++ end_line))))) (sym is_ports)
    ∙ ap (λ (x : List (ℕ × Route)).
    first_line ++ (counts_line saved.counts ++ (flat_map port_text saved.ports ++ (flat_map route_line x ++ (flat_map object_text objects ++ end_line)))))
    (sym is_routes)
    ∙ ap (λ (x : List SavedObject).
    first_line ++ (counts_line saved.counts ++ (flat_map port_text saved.ports ++ (flat_map route_line saved.routes ++ (flat_map object_text x ++ end_line)))))
    (sym is_objects)
