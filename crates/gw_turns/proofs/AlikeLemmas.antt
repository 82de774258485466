-- That saved states of which the same lasts have equal lasting parts, and those with equal ones are alike.
use Rattle.std.proofs.Common.{◌≡◌, ◌∙◌, refl, sym, ap, ap₂, true≢false, ℕ, Bool, true, ◌&&◌, nat_eq, List, [], ◌∷◌, map, Option, Some, None}
use Rattle.std.specs.Cmp.{nat_eq_equiv}
use Rattle.std.specs.Cmp.Lexicographic.{pointwise, same_text}
use Rattle.std.proofs.lemmas.Bool.{and_from, and_parts, eqb-true}
use Rattle.std.proofs.lemmas.Cmp.{nat_list_eq_equiv}
use Rattle.gw_addr.specs.declared.bip.BipAddr.{BipAddr}
use Rattle.gw_addr.specs.declared.entry.BdtEntry.{BdtEntry}
use Rattle.gw_tables.specs.declared.bdt_fdt.kept.KeptDevice.{KeptDevice}
use Rattle.gw_tables.specs.bdt_fdt.Registrations.{same as same_address}
use Rattle.gw_objects.specs.declared.value.PropertyValue.{PropertyValue}
use Rattle.gw_objects.specs.Objects.{Slots}
use Rattle.gw_objects.specs.Values.{same_value}
use Rattle.gw_objects.proofs.SameValues.{same_values_are_equal}
use Rattle.gw_tables.specs.declared.routes.route.Route.{Route}
use Rattle.gw_tables.specs.routes.Table.{Routed}
use Rattle.gw_state.specs.declared.port.SavedPort.{SavedPort}
use Rattle.gw_state.specs.Carried.{same_entry}
use Rattle.gw_state.specs.Saved.{Saved, SavedObject}
use Rattle.gw_codecs.specs.tags.Object.{Object}
use Rattle.gw_turns.specs.Keeping.{AlikeButTicksIsEqual, AlikeIsEqual, EqualButTicksIsAlike, EqualIsAlike, are_ending_alike, but_ticks, ending, ending_port, ends_alike, is_same_device, is_same_object, is_same_port, is_same_route, is_same_slot, lasting_of, lasting_port, lasts_alike}

-- ---- lists

-- what is alike, one by one, has equal images
images_equal : {A B : Type 0} (E : A → A → Bool) (f : A → B) → ((x y : A) → E x y ≡ true → f x ≡ f y)
    → (xs ys : List A) → pointwise E xs ys ≡ true → map f xs ≡ map f ys
images_equal E f sound [] [] is = refl
images_equal E f sound [] (y ∷ ys) is = absurd (true≢false (sym is))
images_equal E f sound (x ∷ xs) [] is = absurd (true≢false (sym is))
images_equal E f sound (x ∷ xs) (y ∷ ys) is =
    let parts = and_parts (E x y) (pointwise E xs ys) is in
    ap₂ (λ a l. a ∷ l) (sound x y parts.0) (images_equal E f sound xs ys parts.1)

-- and is equal, if one by one it is
all_equal : {A : Type 0} (E : A → A → Bool) → ((x y : A) → E x y ≡ true → x ≡ y) → (xs ys : List A) → pointwise E xs ys ≡ true → xs ≡ ys
all_equal E sound [] [] is = refl
all_equal E sound [] (y ∷ ys) is = absurd (true≢false (sym is))
all_equal E sound (x ∷ xs) [] is = absurd (true≢false (sym is))
all_equal E sound (x ∷ xs) (y ∷ ys) is =
    let parts = and_parts (E x y) (pointwise E xs ys) is in
    ap₂ (λ a l. a ∷ l) (sound x y parts.0) (all_equal E sound xs ys parts.1)

-- a list is alike itself, if each of it is
all_alike : {A : Type 0} (E : A → A → Bool) → ((x : A) → E x x ≡ true) → (xs : List A) → pointwise E xs xs ≡ true
all_alike E same [] = refl
all_alike E same (x ∷ xs) = and_from (E x x) (pointwise E xs xs) (same x) (all_alike E same xs)

-- whether they are alike can be seen from images that keep it
same_of_images : {A : Type 0} (E : A → A → Bool) (f : A → A) → ((x y : A) → E (f x) (f y) ≡ E x y)
    → (xs ys : List A) → pointwise E (map f xs) (map f ys) ≡ pointwise E xs ys
same_of_images E f records [] [] = refl
same_of_images E f records [] (y ∷ ys) = refl
same_of_images E f records (x ∷ xs) [] = refl
same_of_images E f records (x ∷ xs) (y ∷ ys) = ap₂ (λ a b. a && b) (records x y) (same_of_images E f records xs ys)

-- ---- the parts

equal_address : (a b : BipAddr) → same_address a b ≡ true → a ≡ b
equal_address a b is =
    let parts = and_parts (pointwise nat_eq a.ip b.ip) (nat_eq a.udp b.udp) is in
    ap₂ (λ (ip : List ℕ) (udp : ℕ). record a { ip = ip; udp = udp }) (same_text a.ip b.ip (sym parts.0)) (eqb-true a.udp b.udp parts.1)

own_address : (a : BipAddr) → same_address a a ≡ true
own_address a = and_from (pointwise nat_eq a.ip a.ip) (nat_eq a.udp a.udp) (nat_list_eq_equiv.refl a.ip) (nat_eq_equiv.refl a.udp)

equal_entry : (a b : BdtEntry) → same_entry a b ≡ true → a ≡ b
equal_entry a b is =
    let parts = and_parts (same_address a.address b.address) (pointwise nat_eq a.mask b.mask) is in
    ap₂ (λ (address : BipAddr) (mask : List ℕ). record a { address = address; mask = mask }) (equal_address a.address b.address parts.0)
    (same_text a.mask b.mask (sym parts.1))

own_entry : (a : BdtEntry) → same_entry a a ≡ true
own_entry a = and_from (same_address a.address a.address) (pointwise nat_eq a.mask a.mask) (own_address a.address) (nat_list_eq_equiv.refl a.mask)

equal_port : (a b : SavedPort) → is_same_port a b ≡ true → lasting_port a ≡ lasting_port b
equal_port a b is =
    let one = and_parts (nat_eq a.network b.network) _ is in
    let two = and_parts (same_address a.address b.address) _ one.1 in
    let three = and_parts (pointwise same_entry a.peers b.peers) (pointwise same_entry a.entries b.entries) two.1 in
    ap₂ (λ (network : ℕ) (address : BipAddr). record (lasting_port a) { network = network; address = address })
    (eqb-true a.network b.network one.0) (equal_address a.address b.address two.0)
    ∙ ap₂ (λ (peers entries : List BdtEntry). record (lasting_port b) { peers = peers; entries = entries })
    (all_equal same_entry equal_entry a.peers b.peers three.0) (all_equal same_entry equal_entry a.entries b.entries three.1)

own_port : (a : SavedPort) → is_same_port a a ≡ true
own_port a =
    and_from (nat_eq a.network a.network) _ (nat_eq_equiv.refl a.network)
    (and_from (same_address a.address a.address) _ (own_address a.address)
    (and_from (pointwise same_entry a.peers a.peers) (pointwise same_entry a.entries a.entries) (all_alike same_entry own_entry a.peers)
    (all_alike same_entry own_entry a.entries)))

own_value : (a : PropertyValue) → same_value a a ≡ true
own_value a = (same_values_are_equal a a).1 refl

equal_slot : (a b : Option PropertyValue) → is_same_slot a b ≡ true → a ≡ b
equal_slot None None is = refl
equal_slot None (Some b) is = absurd (true≢false (sym is))
equal_slot (Some a) None is = absurd (true≢false (sym is))
equal_slot (Some a) (Some b) is = ap Some ((same_values_are_equal a b).0 is)

own_slot : (a : Option PropertyValue) → is_same_slot a a ≡ true
own_slot None = refl
own_slot (Some a) = own_value a

equal_object : (a b : SavedObject) → is_same_object a b ≡ true → a ≡ b
equal_object a b is =
    let one = and_parts (nat_eq a.object.kind b.object.kind) _ is in
    let two = and_parts (nat_eq a.object.instance b.object.instance) _ one.1 in
    let three = and_parts (same_value a.configured b.configured) _ two.1 in
    let four = and_parts (same_value a.slots.default b.slots.default) (pointwise is_same_slot a.slots.slots b.slots.slots) three.1 in
    let object : a.object ≡ b.object =
    ap₂ (λ (kind instance : ℕ). record a.object { kind = kind; instance = instance }) (eqb-true a.object.kind b.object.kind one.0)
    (eqb-true a.object.instance b.object.instance two.0) in
    let slots : a.slots ≡ b.slots =
    ap₂ (λ (slots : List (Option PropertyValue)) (default : PropertyValue). record a.slots { slots = slots; default = default })
    (all_equal is_same_slot equal_slot a.slots.slots b.slots.slots four.1) ((same_values_are_equal a.slots.default b.slots.default).0 four.0) in
    ap₂ (λ (o : Object) (value : PropertyValue). record a { object = o; configured = value }) object
    ((same_values_are_equal a.configured b.configured).0 three.0)
    ∙ ap (λ (s : Slots). record b { slots = s }) slots

own_object : (a : SavedObject) → is_same_object a a ≡ true
own_object a =
    and_from (nat_eq a.object.kind a.object.kind) _ (nat_eq_equiv.refl a.object.kind)
    (and_from (nat_eq a.object.instance a.object.instance) _ (nat_eq_equiv.refl a.object.instance)
    (and_from (same_value a.configured a.configured) _ (own_value a.configured)
    (and_from (same_value a.slots.default a.slots.default) (pointwise is_same_slot a.slots.slots a.slots.slots) (own_value a.slots.default)
    (all_alike is_same_slot own_slot a.slots.slots))))

-- ---- what lasts

pub alike_is_equal : AlikeIsEqual
alike_is_equal a b is =
    let parts = and_parts (pointwise is_same_port a.ports b.ports) (pointwise is_same_object a.objects b.objects) is in
    ap₂ (λ (ports : List SavedPort) (objects : List SavedObject). record (lasting_of a) { ports = ports; objects = objects })
    (images_equal is_same_port lasting_port equal_port a.ports b.ports parts.0) (all_equal is_same_object equal_object a.objects b.objects parts.1)

pub equal_is_alike : EqualIsAlike
equal_is_alike a b is =
    let ports : map lasting_port a.ports ≡ map lasting_port b.ports = ap (λ (s : Saved). s.ports) is in
    let objects : a.objects ≡ b.objects = ap (λ (s : Saved). s.objects) is in
    let same_ports : pointwise is_same_port a.ports b.ports ≡ true =
    sym (same_of_images is_same_port lasting_port (λ x y. refl) a.ports b.ports)
    ∙ ap (λ (l : List SavedPort). pointwise is_same_port l (map lasting_port b.ports)) ports
    ∙ all_alike is_same_port own_port (map lasting_port b.ports) in
    let same_objects : pointwise is_same_object a.objects b.objects ≡ true =
    ap (λ (l : List SavedObject). pointwise is_same_object l b.objects) objects ∙ all_alike is_same_object own_object b.objects in
    and_from (pointwise is_same_port a.ports b.ports) (pointwise is_same_object a.objects b.objects) same_ports same_objects

-- ---- all but the ticks

equal_device : (a b : KeptDevice) → is_same_device a b ≡ true → a ≡ b
equal_device a b is =
    let one = and_parts (same_address a.address b.address) _ is in
    let two = and_parts (nat_eq a.time_to_live b.time_to_live) (nat_eq a.left b.left) one.1 in
    ap (λ (address : BipAddr). record a { address = address }) (equal_address a.address b.address one.0)
    ∙ ap₂ (λ (time_to_live left : ℕ). record b { time_to_live = time_to_live; left = left }) (eqb-true a.time_to_live b.time_to_live two.0)
    (eqb-true a.left b.left two.1)

own_device : (a : KeptDevice) → is_same_device a a ≡ true
own_device a =
    and_from (same_address a.address a.address) _ (own_address a.address)
    (and_from (nat_eq a.time_to_live a.time_to_live) (nat_eq a.left a.left) (nat_eq_equiv.refl a.time_to_live) (nat_eq_equiv.refl a.left))

-- what is alike, one by one, by images that two ways give, has equal ones
both_equal : {A B : Type 0} (E : A → A → Bool) (f g : A → B) → ((x y : A) → E x y ≡ true → f x ≡ g y)
    → (xs ys : List A) → pointwise E xs ys ≡ true → map f xs ≡ map g ys
both_equal E f g sound [] [] is = refl
both_equal E f g sound [] (y ∷ ys) is = absurd (true≢false (sym is))
both_equal E f g sound (x ∷ xs) [] is = absurd (true≢false (sym is))
both_equal E f g sound (x ∷ xs) (y ∷ ys) is =
    let parts = and_parts (E x y) (pointwise E xs ys) is in
    ap₂ (λ a l. a ∷ l) (sound x y parts.0) (both_equal E f g sound xs ys parts.1)

-- whether they are alike can be seen from such images
same_of_both : {A B : Type 0} (E : A → A → Bool) (F : B → B → Bool) (f g : A → B) → ((x y : A) → F (f x) (g y) ≡ E x y)
    → (xs ys : List A) → pointwise F (map f xs) (map g ys) ≡ pointwise E xs ys
same_of_both E F f g records [] [] = refl
same_of_both E F f g records [] (y ∷ ys) = refl
same_of_both E F f g records (x ∷ xs) [] = refl
same_of_both E F f g records (x ∷ xs) (y ∷ ys) = ap₂ (λ a b. a && b) (records x y) (same_of_both E F f g records xs ys)

equal_ends : (since other : ℕ) (xs ys : List SavedPort) → pointwise is_same_port xs ys ≡ true
    → pointwise (are_ending_alike since other) xs ys ≡ true → map (ending_port since) xs ≡ map (ending_port other) ys
equal_ends since other [] [] is ends = refl
equal_ends since other [] (y ∷ ys) is ends = absurd (true≢false (sym is))
equal_ends since other (x ∷ xs) [] is ends = absurd (true≢false (sym is))
equal_ends since other (x ∷ xs) (y ∷ ys) is ends =
    let one = and_parts (is_same_port x y) (pointwise is_same_port xs ys) is in
    let two = and_parts (are_ending_alike since other x y) (pointwise (are_ending_alike since other) xs ys) ends in
    let devices = both_equal (ends_alike since other) (ending since) (ending other) (λ a b. equal_device (ending since a) (ending other b)) x.devices
    y.devices two.0 in
    ap₂ (λ p ps. p ∷ ps)
    (ap₂ (λ (p : SavedPort) (kept : List KeptDevice). record p { devices = kept }) (equal_port x y one.0) devices)
    (equal_ends since other xs ys one.1 two.1)

equal_route : (a b : ℕ × Route) → is_same_route a b ≡ true → a ≡ b
equal_route a b is =
    let one = and_parts (nat_eq a.0 b.0) _ is in
    let two = and_parts (nat_eq a.1.port b.1.port) (same_address a.1.next b.1.next) one.1 in
    let route : a.1 ≡ b.1 =
    ap₂ (λ (port : ℕ) (next : BipAddr). record a.1 { port = port; next = next }) (eqb-true a.1.port b.1.port two.0)
    (equal_address a.1.next b.1.next two.1) in
    ap₂ (λ (n : ℕ) (r : Route). (n, r)) (eqb-true a.0 b.0 one.0) route

pub alike_but_ticks_is_equal : AlikeButTicksIsEqual
alike_but_ticks_is_equal a b is =
    let one = and_parts (lasts_alike a b) _ is in
    let two = and_parts (pointwise (are_ending_alike a.counts.since b.counts.since) a.ports b.ports) _ one.1 in
    let three = and_parts (pointwise is_same_route a.routes b.routes) (nat_eq a.counts.denials b.counts.denials) two.1 in
    let lasting = and_parts (pointwise is_same_port a.ports b.ports) (pointwise is_same_object a.objects b.objects) one.0 in
    ap₂ (λ (p : List SavedPort) (objects : List SavedObject). record (but_ticks a) { ports = p; objects = objects })
    (equal_ends a.counts.since b.counts.since a.ports b.ports lasting.0 two.0)
    (all_equal is_same_object equal_object a.objects b.objects lasting.1)
    ∙ ap₂ (λ (routes : Routed) (denials : ℕ). record (but_ticks b) { routes = routes; counts = record { since = 0; ticks = 0; denials = denials } })
    (all_equal is_same_route equal_route a.routes b.routes three.0) (eqb-true a.counts.denials b.counts.denials three.1)

own_route : (a : ℕ × Route) → is_same_route a a ≡ true
own_route a =
    and_from (nat_eq a.0 a.0) _ (nat_eq_equiv.refl a.0)
    (and_from (nat_eq a.1.port a.1.port) (same_address a.1.next a.1.next) (nat_eq_equiv.refl a.1.port) (own_address a.1.next))

-- what is alike of equal images
alike_by : {A B : Type 0} (E : A → A → Bool) (F : B → B → Bool) (f g : A → B) → ((x y : A) → F (f x) (g y) ≡ E x y)
    → ((x : B) → F x x ≡ true) → (xs ys : List A) → map f xs ≡ map g ys → pointwise E xs ys ≡ true
alike_by E F f g records own xs ys same =
    sym (same_of_both E F f g records xs ys) ∙ ap (λ (l : List _). pointwise F l (map g ys)) same ∙ all_alike F own (map g ys)

own_ends : (p : SavedPort) → pointwise is_same_device p.devices p.devices ≡ true
own_ends p = all_alike is_same_device own_device p.devices

pub equal_but_ticks_is_alike : EqualButTicksIsAlike
equal_but_ticks_is_alike a b same =
    let since = a.counts.since in
    let other = b.counts.since in
    let ports : map (ending_port since) a.ports ≡ map (ending_port other) b.ports = ap (λ (s : Saved). s.ports) same in
    let objects : a.objects ≡ b.objects = ap (λ (s : Saved). s.objects) same in
    let routes : a.routes ≡ b.routes = ap (λ (s : Saved). s.routes) same in
    let denials : a.counts.denials ≡ b.counts.denials = ap (λ (s : Saved). s.counts.denials) same in
    and_from (lasts_alike a b) _
    (and_from (pointwise is_same_port a.ports b.ports) (pointwise is_same_object a.objects b.objects)
    (alike_by is_same_port is_same_port (ending_port since) (ending_port other) (λ x y. refl) own_port a.ports b.ports ports)
    (ap (λ (l : List SavedObject). pointwise is_same_object l b.objects) objects ∙ all_alike is_same_object own_object b.objects))
    (and_from (pointwise (are_ending_alike since other) a.ports b.ports) _
    (alike_by (are_ending_alike since other) (λ p q. pointwise is_same_device p.devices q.devices) (ending_port since) (ending_port other)
    (λ x y. same_of_both (ends_alike since other) is_same_device (ending since) (ending other) (λ c d. refl) x.devices y.devices) own_ends
    a.ports b.ports ports)
    (and_from (pointwise is_same_route a.routes b.routes) (nat_eq a.counts.denials b.counts.denials)
    (ap (λ (l : Routed). pointwise is_same_route l b.routes) routes ∙ all_alike is_same_route own_route b.routes)
    (ap (λ (n : ℕ). nat_eq n b.counts.denials) denials ∙ nat_eq_equiv.refl b.counts.denials)))
