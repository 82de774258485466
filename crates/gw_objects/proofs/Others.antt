-- What another object reads as, and what a write leaves.
use Rattle.std.proofs.Common.{◌≡◌, ◌≢◌, ◌∙◌, sym, ap, refl, subst, ℕ, zero, suc, ◌<◌, arith, Bool, true, false, List, [], ◌∷◌, length, set, Option, Some, None, Result, Ok, Err, ◌⊎◌, inl, inr, get_or}
use Rattle.std.specs.Prelude.{◌==◌, if◌then◌else◌, slice_get}
use Rattle.std.specs.List.{position}
use Rattle.std.specs.Option.{ok_or, option_map}
use Rattle.std.proofs.lemmas.Bool.{and_parts, cases_eq, eqb-true}
use Rattle.std.proofs.lemmas.List.{length-set, get_or-set_same}
use Rattle.std.proofs.lemmas.List.Quantifiers.{position-Some}
use Rattle.std.proofs.lemmas.Option.{slice_get-get_or, slice_get_within}
use Rattle.gw_addr.specs.Reading.{◌>>=◌}
use Rattle.gw_objects.specs.declared.configured.Configured.{Configured}
use Rattle.gw_objects.specs.declared.configured.ConfiguredObject.{ConfiguredObject}
use Rattle.gw_objects.specs.declared.fault.ReadFault.{ReadFault}
use Rattle.gw_objects.specs.declared.fault.ReadFault.TheVariants as reading
use Rattle.gw_objects.specs.declared.fault.WriteFault.{WriteFault}
use Rattle.gw_objects.specs.declared.fault.WriteFault.TheVariants.{NotWritable, UnknownObject, UnknownProperty}
use Rattle.gw_objects.specs.declared.property.Property.{Property}
use Rattle.gw_objects.specs.declared.property.ObjectType.TheVariants as types
use Rattle.gw_objects.specs.declared.value.PropertyValue.{PropertyValue}
use Rattle.gw_objects.specs.Contents.{octets_of}
use Rattle.gw_objects.specs.History.{acted, after_write, put_at}
use Rattle.gw_objects.specs.Laws.{AgreeBut, OthersReadAlike, WritesKeepAgreement, WritesLeaveOthers, standing}
use Rattle.gw_objects.specs.Objects.{Slots, device_id, object_id_of, place_of, same, type_of}
use Rattle.gw_objects.specs.Property.{property_of}
use Rattle.gw_objects.specs.Table.{device_line, known_line, object_at, object_line, read_of}
use Rattle.gw_objects.specs.Write.{Write, act_of, device_write, object_write, write_of}
use Rattle.gw_tables.specs.priority.History.{Act}
use Rattle.gw_codecs.specs.tags.Object.{Object}

numbers_same : (a b : Object) → same a b ≡ true → a ≡ b
numbers_same a b e =
    let parts = and_parts (a.kind == b.kind) (a.instance == b.instance) e in
    ap (λ (kind : ℕ). record { kind = kind; instance = a.instance }) (eqb-true a.kind b.kind parts.0)
    ∙ ap (λ (instance : ℕ). record { kind = b.kind; instance = instance }) (eqb-true a.instance b.instance parts.1)

-- no two identifiers have one place
one_place : (objects : List ConfiguredObject) (a b : Object) (i : ℕ) → position (λ object. same a (object_id_of object)) objects ≡ Some i
    → position (λ object. same b (object_id_of object)) objects ≡ Some i → a ≡ b
one_place [] a b i p q = absurd cc
one_place (d ∷ objects) a b i p q =
    let at = get_or (d ∷ objects) i d in
    numbers_same a (object_id_of at) (position-Some (λ object. same a (object_id_of object)) (d ∷ objects) i d p).1
    ∙ sym (numbers_same b (object_id_of at) (position-Some (λ object. same b (object_id_of object)) (d ∷ objects) i d q).1)

found_same : (c : Configured) (s t : List Slots) (place : Option ℕ) → ((i : ℕ) → place ≡ Some i → slice_get s i ≡ slice_get t i)
    → ◌≡◌ {A = Result (ConfiguredObject × Slots) _}
    (ok_or place reading.UnknownObject >>= λ place. ok_or (slice_get c.objects place) reading.UnknownObject >>= λ object. ok_or (slice_get s place) reading.UnknownObject >>= λ slots. Ok (object, slots))
    (ok_or place reading.UnknownObject >>= λ place. ok_or (slice_get c.objects place) reading.UnknownObject >>= λ object. ok_or (slice_get t place) reading.UnknownObject >>= λ slots. Ok (object, slots))
found_same c s t None h = refl
found_same c s t (Some i) h =
    ap (λ (x : Option Slots). ok_or (slice_get c.objects i) reading.UnknownObject >>= λ object. ok_or x reading.UnknownObject >>= λ slots. Ok (object, slots)) (h i refl)

-- so another object is found alike
pub differ : (o : Object) (c : Configured) (s t : List Slots) → AgreeBut o c s t → ((other : Object) → other ≢ o → object_at (standing c s) other ≡ object_at (standing c t) other)
differ o c s t agree other apart =
    found_same c s t (place_of c other) (λ i at. agree i (λ is. apart (one_place c.objects other o i at is)))

-- ---- one write

put_other : (states : List Slots) (i j : ℕ) (x : Option Slots) → j ≢ i → slice_get (put_at i x states) j ≡ slice_get states j
put_other states i j None ne = refl
put_other states i j (Some x) ne = set_other states i j x ne
  where
    set_other : (states : List Slots) (i j : ℕ) (x : Slots) → j ≢ i → slice_get (set states i x) j ≡ slice_get states j
    set_other [] i j x ne = refl
    set_other (y ∷ ys) zero zero x ne = absurd (ne refl)
    set_other (y ∷ ys) zero (suc j) x ne = refl
    set_other (y ∷ ys) (suc i) zero x ne = refl
    set_other (y ∷ ys) (suc i) (suc j) x ne = set_other ys i j x (λ e. ne (ap suc e))

put_here : (states : List Slots) (i : ℕ) (f : Slots → Slots) (x : Option Slots) → slice_get states i ≡ x
    → slice_get (put_at i (option_map f x) states) i ≡ option_map f x
put_here states i f None is = is
put_here states i f (Some x) is =
    let lt : i < length states = slice_get_within states i x is in
    slice_get-get_or (set states i (f x)) i (f x) (omega (arith, lt, length-set states i (f x)))
    ∙ ap (λ (y : Slots). Some y) (get_or-set_same states i (f x) (f x) lt)

written_here : (write : Write) (states : List Slots) → slice_get (after_write write states) write.place ≡ option_map (acted write.act) (slice_get states write.place)
written_here write states = put_here states write.place (acted write.act) (slice_get states write.place) refl

-- both standings are written
pub agree_written : (o : Object) (c : Configured) (s t : List Slots) (write : Write) → AgreeBut o c s t → AgreeBut o c (after_write write s) (after_write write t)
agree_written o c s t write agree i apart = by (cases_eq i write.place)
  where
    by : (i ≡ write.place) ⊎ (i ≢ write.place) → slice_get (after_write write s) i ≡ slice_get (after_write write t) i
    by (inl is) =
        subst (λ (j : ℕ). slice_get (after_write write s) j ≡ slice_get (after_write write t) j) (sym is)
        (written_here write s
        ∙ ap (option_map (acted write.act)) (subst (λ (j : ℕ). slice_get s j ≡ slice_get t j) is (agree i apart))
        ∙ sym (written_here write t))
    by (inr ne) = put_other s write.place i _ ne ∙ agree i apart ∙ sym (put_other t write.place i _ ne)

-- one of them is, at the object
pub agree_put : (o : Object) (c : Configured) (s t : List Slots) (write : Write) → place_of c o ≡ Some write.place → AgreeBut o c s t
    → AgreeBut o c (after_write write s) t
agree_put o c s t write at agree i apart =
    put_other s write.place i _ (λ is. apart (at ∙ ap (λ (j : ℕ). Some j) (sym is))) ∙ agree i apart

-- ---- where a write is made

pub ok_is : {A E : Type 0} (x y : A) → ◌≡◌ {A = Result A E} (Ok x) (Ok y) → x ≡ y
ok_is x y e = cc

pub no_device_write : (p : Option Property) (write : Write) → ◌≡◌ {A = Result Write WriteFault} (ok_or p UnknownProperty >>= λ property. Err NotWritable) (Ok write) → ⊥
no_device_write None write e = absurd cc
no_device_write (Some p) write e = absurd cc

made_at : (place : ℕ) (act : Result (Act PropertyValue) WriteFault) (write : Write)
    → ◌≡◌ {A = Result Write WriteFault} (act >>= λ act. Ok (record { place = place; act = act })) (Ok write) → place ≡ write.place
made_at place (Ok act) write e = ap (λ (w : Write). w.place) (ok_is _ write e)
made_at place (Err fault) write e = absurd cc

object_at_place : (place : ℕ) (object : Option ConfiguredObject) (number : ℕ) (index : Option ℕ) (priority : ℕ) (octets : List ℕ) (write : Write)
    → ◌≡◌ {A = Result Write WriteFault} (ok_or object UnknownObject >>= λ object. object_write place object number index priority octets) (Ok write)
    → place ≡ write.place
object_at_place place None number index priority octets write e = absurd cc
object_at_place place (Some object) number index priority octets write e = made_at place (act_of object number index priority octets) write e

at_place : (c : Configured) (place : Option ℕ) (number : ℕ) (index : Option ℕ) (priority : ℕ) (octets : List ℕ) (write : Write)
    → ◌≡◌ {A = Result Write WriteFault} (ok_or place UnknownObject >>= λ place. ok_or (slice_get c.objects place) UnknownObject >>= λ object. object_write place object number index priority octets) (Ok write)
    → place ≡ Some write.place
at_place c None number index priority octets write e = absurd cc
at_place c (Some place) number index priority octets write e =
    ap (λ (i : ℕ). Some i) (object_at_place place (slice_get c.objects place) number index priority octets write e)

-- a write that is made is made at the place of its object
pub write_place : (c : Configured) (wanted : Object) (number : ℕ) (index : Option ℕ) (priority : ℕ) (octets : List ℕ) (write : Write)
    → write_of c wanted number index priority octets ≡ Ok write → place_of c wanted ≡ Some write.place
unfolding write_of
write_place c wanted number index priority octets write e = by (same wanted (device_id c.device)) e
  where
    by : (b : Bool) → (if b then device_write number else (ok_or (place_of c wanted) UnknownObject >>= λ place. ok_or (slice_get c.objects place) UnknownObject >>= λ object. object_write place object number index priority octets)) ≡ Ok write
        → place_of c wanted ≡ Some write.place
    by true e = absurd (no_device_write (property_of types.Device number) write e)
    by false e = at_place c (place_of c wanted) number index priority octets write e

pub others_read_alike : OthersReadAlike
unfolding read_of
others_read_alike o c s t agree other p index apart =
    ap (λ (found : Result (ConfiguredObject × Slots) ReadFault). (if same other (device_id c.device) then known_line types.Device (device_line c) p else (found >>= λ x. known_line (type_of x.0.details) (object_line x.0 x.1) p)) >>= λ contents. octets_of contents index)
    (differ o c s t agree other apart)

pub writes_leave_others : WritesLeaveOthers
writes_leave_others c o number index priority octets write made states =
    agree_put o c states states write (write_place c o number index priority octets write made) (λ place apart. refl)

pub writes_keep_agreement : WritesKeepAgreement
writes_keep_agreement = agree_written
