-- What is written of a body is that body.
use Rattle.std.proofs.Common.{◌≡◌, ℕ, ◌<◌, ◌≤◌, ◌^◌, List, [], ◌∷◌, ◌++◌, length, Option, Some, None, refl, sym, subst, append_assoc, inl, inr, arith}
use Rattle.std.specs.Prelude.{IfSome}
use Rattle.std.proofs.lemmas.List.{append-nil}
use Rattle.gw_codecs.specs.tags.List.{IsBalanced, deepest}
use Rattle.gw_codecs.specs.tags.Context.{in_context, BeginsWithOther}
use Rattle.gw_codecs.specs.tags.Number.{unsigned_encoding}
use Rattle.gw_codecs.specs.tags.Object.{IsObject, object_octets}
use Rattle.gw_codecs.specs.tags.Strings.{IsText}
use Rattle.gw_codecs.specs.tags.Value.{unsigned, enumerated, object_id, character_string, value_encoding}
use Rattle.gw_codecs.specs.services.Limits.{last_property, last_number, last_priority, last_instance, last_short_number, last_segmentation}
use Rattle.gw_codecs.specs.services.Parameter.{Content, object, number, values, text}
use Rattle.gw_codecs.specs.services.Body.{Body, done, IsAbsent, IsBody, nothing_more, required, given, left_out}
use Rattle.gw_codecs.specs.services.Read.{Read, IsRead, read_encoding, number_part, number_held}
use Rattle.gw_codecs.specs.services.Write.{Write, IsWrite, write_encoding, values_part}
use Rattle.gw_codecs.specs.services.WhoIs.{Limits, limits_then, limits_held, limits_part, WhoIs, IsWhoIs, who_is_body, who_is_encoding}
use Rattle.gw_codecs.specs.services.WhoHas.{Sought, the_object, the_name, sought_body, sought_held, sought_part, WhoHas, IsWhoHas, who_has_encoding}
use Rattle.gw_codecs.specs.services.IAm.{IAm, IsIAm, i_am_encoding}
use Rattle.gw_codecs.specs.services.IHave.{IHave, IsIHave, i_have_encoding}
use Rattle.gw_codecs.proofs.services_lemmas.Encoded.{FitsMaybe, object_begins, number_begins, text_begins, values_begin, other_content, other_opening, number_maybe, number_last, plain_object_begins, plain_unsigned_begins, plain_enumerated_begins, plain_text_begins}

abbrev pub FitsIndex : Option ℕ → Type 0
FitsIndex i = IfSome i (λ n. n ≤ last_number)

index_fits : (i : Option ℕ) → FitsIndex i → FitsMaybe 0 last_number i
index_fits None fits = tt
index_fits (Some n) fits = (omega arith, (omega arith, fits))

-- ---- ReadProperty

pub read_is : (r : Read) → IsObject r.object → r.property ≤ last_property → FitsIndex r.index → IsRead (read_encoding r) r
read_is r is fits index =
    let a = in_context 0 (object_octets r.object) in
    let b = in_context 1 (unsigned_encoding r.property) in
    let c = number_part 2 r.index in
    subst (λ (o : List ℕ). IsRead o r) (sym (append_assoc a b c))
    (required (object r.object) (b ++ c) (object_begins 0 r.object (b ++ c) (omega arith) is)
    (required (number r.property) c (number_begins 1 0 last_property r.property c (omega arith) (omega arith) (omega arith) fits)
    (number_last 2 0 last_number done r.index (omega arith) (index_fits r.index index) nothing_more)))

-- ---- WriteProperty

priority_fits : (p : Option ℕ) → IfSome p (λ n. (1 ≤ n) × (n ≤ last_priority)) → FitsMaybe 1 last_priority p
priority_fits None fits = tt
priority_fits (Some n) fits = (omega (arith, fits.1), (fits.0, fits.1))

regroup : (a b c d e : List ℕ) → a ++ (b ++ (c ++ (d ++ e))) ≡ (a ++ b ++ c) ++ d ++ e
regroup a b c d e = simp append_assoc

pub write_is : (w : Write) → IsObject w.object → w.property ≤ last_property → FitsIndex w.index → IsBalanced deepest w.value → IfSome w.priority (λ p. (1 ≤ p) × (p ≤ last_priority)) → IsWrite (write_encoding w) w
write_is w is fits index balanced ranked =
    let a = in_context 0 (object_octets w.object) in
    let b = in_context 1 (unsigned_encoding w.property) in
    let c = number_part 2 w.index in
    let d = values_part 3 w.value in
    let e = number_part 4 w.priority in
    subst (λ (o : List ℕ). IsWrite o w) (regroup a b c d e)
    (required (object w.object) (b ++ (c ++ (d ++ e))) (object_begins 0 w.object (b ++ (c ++ (d ++ e))) (omega arith) is)
    (required (number w.property) (c ++ (d ++ e)) (number_begins 1 0 last_property w.property (c ++ (d ++ e)) (omega arith) (omega arith) (omega arith) fits)
    (number_maybe 2 0 last_number _ w.index (d ++ e) (values w.value ∷ number_held w.priority) (omega arith) (index_fits w.index index) (inr (other_opening 2 3 w.value e (omega arith)))
    (required (values w.value) e (values_begin 3 w.value e (omega arith) balanced)
    (number_last 4 1 last_priority done w.priority (omega arith) (priority_fits w.priority ranked) nothing_more)))))

-- ---- Who-Is

abbrev pub FitsLimits : Option Limits → Type 0
FitsLimits limits = IfSome limits (λ l. (l.low ≤ last_instance) × (l.high ≤ last_instance))

limits_is : (body : Body) (limits : Option Limits) (rest : List ℕ) (held : List Content) → FitsLimits limits → IsAbsent 0 rest → IsBody body rest held → IsBody (limits_then body) (limits_part limits ++ rest) (limits_held limits ++ held)
limits_is body None rest held fits absent is = left_out absent is
limits_is body (Some l) rest held fits absent is =
    let a = in_context 0 (unsigned_encoding l.low) in
    let b = in_context 1 (unsigned_encoding l.high) in
    subst (λ (o : List ℕ). IsBody (limits_then body) o (number l.low ∷ number l.high ∷ held)) (sym (append_assoc a b rest))
    (given (number l.low) (b ++ rest) (number_begins 0 0 last_instance l.low (b ++ rest) (omega arith) (omega (arith, fits.0)) (omega arith) fits.0)
    (required (number l.high) rest (number_begins 1 0 last_instance l.high rest (omega arith) (omega (arith, fits.1)) (omega arith) fits.1) is))

pub who_is_is : (w : WhoIs) → FitsLimits w.limits → IsWhoIs (who_is_encoding w) w
who_is_is w fits =
    subst (λ (o : List ℕ). IsBody who_is_body o (limits_held w.limits)) (append-nil (limits_part w.limits))
    (subst (λ (h : List Content). IsBody who_is_body (limits_part w.limits ++ []) h) (append-nil (limits_held w.limits))
    (limits_is done w.limits [] [] fits (inl refl) nothing_more))

-- ---- Who-Has

abbrev pub FitsSought : Sought → Type 0
FitsSought (the_object id) = IsObject id
FitsSought (the_name charset own) = (length (charset ∷ own) < 2 ^ 32) × IsText charset own

sought_is : (s : Sought) → FitsSought s → IsBody sought_body (sought_part s) (sought_held s)
sought_is (the_object id) fits =
    subst (λ (o : List ℕ). IsBody sought_body o (object id ∷ [])) (append-nil (in_context 2 (object_octets id)))
    (given (object id) [] (object_begins 2 id [] (omega arith) fits) nothing_more)
sought_is (the_name charset own) fits =
    subst (λ (o : List ℕ). IsBody sought_body o (text charset own ∷ [])) (append-nil (in_context 3 (charset ∷ own)))
    (left_out (inr (other_content 2 3 (charset ∷ own) [] (omega arith) fits.0 refl))
    (required (text charset own) [] (text_begins 3 charset own [] (omega arith) fits.0 fits.1) nothing_more))

sought_other : (s : Sought) → FitsSought s → IsAbsent 0 (sought_part s)
sought_other (the_object id) fits = inr (subst (λ (o : List ℕ). BeginsWithOther 0 o) (append-nil (in_context 2 (object_octets id))) (other_content 0 2 (object_octets id) [] (omega arith) (omega arith) refl))
sought_other (the_name charset own) fits = inr (subst (λ (o : List ℕ). BeginsWithOther 0 o) (append-nil (in_context 3 (charset ∷ own))) (other_content 0 3 (charset ∷ own) [] (omega arith) fits.0 refl))

pub who_has_is : (w : WhoHas) → FitsLimits w.limits → FitsSought w.sought → IsWhoHas (who_has_encoding w) w
who_has_is w limits sought = limits_is sought_body w.limits (sought_part w.sought) (sought_held w.sought) limits (sought_other w.sought sought) (sought_is w.sought sought)

-- ---- I-Am and I-Have

four : (a b c d : List ℕ) → a ++ (b ++ (c ++ (d ++ []))) ≡ a ++ b ++ c ++ d
four a b c d = simp (append_assoc, append-nil)

pub i_am_is : (i : IAm) → IsObject i.device → i.max_apdu ≤ last_short_number → i.segmentation ≤ last_segmentation → i.vendor ≤ last_short_number → IsIAm (i_am_encoding i) i
i_am_is i is max segmentation vendor =
    let a = value_encoding (object_id i.device) in
    let b = value_encoding (unsigned i.max_apdu) in
    let c = value_encoding (enumerated i.segmentation) in
    let d = value_encoding (unsigned i.vendor) in
    subst (λ (o : List ℕ). IsIAm o i) (four a b c d)
    (required (object i.device) (b ++ (c ++ (d ++ []))) (plain_object_begins i.device (b ++ (c ++ (d ++ []))) is)
    (required (number i.max_apdu) (c ++ (d ++ [])) (plain_unsigned_begins last_short_number i.max_apdu (c ++ (d ++ [])) (omega arith) max)
    (required (number i.segmentation) (d ++ []) (plain_enumerated_begins last_segmentation i.segmentation (d ++ []) (omega arith) segmentation)
    (required (number i.vendor) [] (plain_unsigned_begins last_short_number i.vendor [] (omega arith) vendor) nothing_more))))

three : (a b c : List ℕ) → a ++ (b ++ (c ++ [])) ≡ a ++ b ++ c
three a b c = simp (append_assoc, append-nil)

pub i_have_is : (i : IHave) → IsObject i.device → IsObject i.object → length (i.charset ∷ i.name) < 2 ^ 32 → IsText i.charset i.name → IsIHave (i_have_encoding i) i
i_have_is i is id fits name =
    let a = value_encoding (object_id i.device) in
    let b = value_encoding (object_id i.object) in
    let c = value_encoding (character_string i.charset i.name) in
    subst (λ (o : List ℕ). IsIHave o i) (three a b c)
    (required (object i.device) (b ++ (c ++ [])) (plain_object_begins i.device (b ++ (c ++ [])) is)
    (required (object i.object) (c ++ []) (plain_object_begins i.object (c ++ []) id)
    (required (text i.charset i.name) [] (plain_text_begins i.charset i.name [] fits name) nothing_more)))
