-- The walk over a list finds exactly the closing tag after a balanced content.
use Rattle.std.proofs.Common.{◌≡◌, ℕ, zero, suc, ◌+◌, ◌-◌, ◌<◌, ◌≤◌, true, false, cond, eqb, ltb, ◌||◌, List, [], ◌++◌, length, take, drop, Option, Some, None, Result, Ok, Err, refl, sym, ap, subst, ◌∙◌, append_assoc, arith, inl, inr}
use Rattle.std.proofs.lemmas.Bool.{cases_lt, lt-ltb, le-ltb, eq-eqb, eqb-true}
use Rattle.std.proofs.lemmas.List.{length-append, length-take, take-append-drop, take_at, drop_at}
use Rattle.std.specs.Prelude.{IfSome, IsSomeAnd}
use Rattle.std.specs.Option.{option_map}
use Rattle.gw_addr.specs.Reading.{AreOctets}
use Rattle.gw_addr.proofs.Reading.{chosen}
use Rattle.gw_codecs.specs.declared.tags.tag.Kind.{Kind}
use Rattle.gw_codecs.specs.declared.tags.tag.Kind.TheVariants.{Length, Opening, Closing}
use Rattle.gw_codecs.specs.declared.tags.fault.TagFault.{TagFault}
use Rattle.gw_codecs.specs.tags.Kind.{is_length}
use Rattle.gw_codecs.specs.tags.Tag.{Tag, IsTag, EncodesTag, BeginsWith}
use Rattle.gw_codecs.specs.tags.Reading.{tag_at}
use Rattle.gw_codecs.specs.tags.List.{context, content_length, IsBalanced, no_more, primitive, nested, deepest, EndsList}
use Rattle.gw_codecs.specs.tags.Walk.{Element, value, opened, closed, stepped, element_of, element, element_at, closing_at, list_of, list_at}
use Rattle.gw_codecs.proofs.tags_lemmas.Octets.{behind_octets}
use Rattle.gw_codecs.proofs.tags_lemmas.Tags.{tag_again}
use Rattle.gw_codecs.proofs.tags_lemmas.Faults.{tag_takes}
use Rattle.gw_codecs.proofs.tags_lemmas.Walks.{past_nothing, past_value, past_closing, past_list, in_bad_list, too_deep, no_fuel}

-- ---- what is at the front

-- octets that are stepped over
record Steps (count : Option ℕ) (octets rest : List ℕ) : Type 0 where
  content : List ℕ
  count_is : count ≡ Some (length content)
  parts : octets ≡ content ++ rest

stepped_takes : (count : Option ℕ) (octets rest : List ℕ) → stepped count octets ≡ Some (value rest) → Steps count octets rest
stepped_takes None octets rest e = absurd cc
stepped_takes (Some n) octets rest e = elim (chosen (ltb (length octets) n) None (Some (value (drop n octets))) (Some (value rest)) e) [
  | inl short ↦ absurd (let h = short.1 in cc)
  | inr long ↦ taken n octets rest long.0 (let h = long.1 in cc)
] where
  taken : (n : ℕ) (octets rest : List ℕ) → ltb (length octets) n ≡ false → drop n octets ≡ rest → Steps (Some n) octets rest
  taken n octets rest long is = elim (cases_lt (length octets) n) [
    | inl lt ↦ absurd (let h = lt-ltb _ _ lt in cc)
    | inr le ↦ record { content = take n octets; count_is = ap Some (omega (arith, length-take n octets)); parts = sym (take-append-drop n octets) ∙ ap (λ (o : List ℕ). take n octets ++ o) is }
  ]

no_opened : (count : Option ℕ) (octets : List ℕ) (m : ℕ) (rest : List ℕ) → stepped count octets ≡ Some (opened m rest) → ⊥
no_opened None octets m rest e = cc
no_opened (Some n) octets m rest e = elim (chosen (ltb (length octets) n) None (Some (value (drop n octets))) (Some (opened m rest)) e) [
  | inl short ↦ let h = short.1 in cc
  | inr long ↦ let h = long.1 in cc
]

no_closed : (count : Option ℕ) (octets : List ℕ) (m : ℕ) (rest : List ℕ) → stepped count octets ≡ Some (closed m rest) → ⊥
no_closed None octets m rest e = cc
no_closed (Some n) octets m rest e = elim (chosen (ltb (length octets) n) None (Some (value (drop n octets))) (Some (closed m rest)) e) [
  | inl short ↦ let h = short.1 in cc
  | inr long ↦ let h = long.1 in cc
]

value_of : (tag : Tag) (kind : Kind) (octets rest : List ℕ) → element_of tag kind octets ≡ Some (value rest) → Steps (content_length tag kind) octets rest
value_of tag (Length n) octets rest e = stepped_takes (content_length tag (Length n)) octets rest e
value_of tag Opening octets rest e = absurd cc
value_of tag Closing octets rest e = absurd cc

opened_of : (tag : Tag) (kind : Kind) (octets : List ℕ) (m : ℕ) (rest : List ℕ) → element_of tag kind octets ≡ Some (opened m rest) → (kind ≡ Opening) × (tag.number ≡ m) × (octets ≡ rest)
opened_of tag (Length n) octets m rest e = absurd (no_opened (content_length tag (Length n)) octets m rest e)
opened_of tag Opening octets m rest e = (refl, cc, cc)
opened_of tag Closing octets m rest e = absurd cc

closed_of : (tag : Tag) (kind : Kind) (octets : List ℕ) (m : ℕ) (rest : List ℕ) → element_of tag kind octets ≡ Some (closed m rest) → (kind ≡ Closing) × (tag.number ≡ m) × (octets ≡ rest)
closed_of tag (Length n) octets m rest e = absurd (no_closed (content_length tag (Length n)) octets m rest e)
closed_of tag Opening octets m rest e = absurd cc
closed_of tag Closing octets m rest e = (refl, cc, cc)

-- the tag at the front of what was read
record Front (octets : List ℕ) (found : Element) : Type 0 where
  tag : Tag
  rest : List ℕ
  begins : BeginsWith octets tag rest
  is : IsTag tag
  found_is : element_of tag tag.kind rest ≡ Some found

front_of : (octets : List ℕ) (r : Result (Tag × List ℕ) TagFault) (found : Element) → AreOctets octets → tag_at octets ≡ r → element r ≡ Some found → Front octets found
front_of octets (Ok x) found fits e f = let t = tag_takes octets x.0 x.1 fits e in record { tag = x.0; rest = x.1; begins = t.0; is = t.1; found_is = f }
front_of octets (Err fault) found fits e f = absurd cc

pub is_bracket : (tag : Tag) (kind : Kind) (m : ℕ) → IsTag tag → tag.kind ≡ kind → is_length kind ≡ false → tag.number ≡ m → tag ≡ context m kind
is_bracket tag kind m is k none n =
    let classed : (is_length tag.kind || tag.context) ≡ true = is.classed in
    let other : is_length tag.kind ≡ false = ap is_length k ∙ none in
    let own : tag.context ≡ true = rw other at classed in
    rw (← n, ← k, ← own) refl

-- a list opens or closes at the front
record Bracket (kind : Kind) (m : ℕ) (octets rest : List ℕ) : Type 0 where
  front : List ℕ
  is : IsTag (context m kind)
  encodes : EncodesTag front (context m kind)
  parts : octets ≡ front ++ rest

bracket : (kind : Kind) (m : ℕ) (octets rest : List ℕ) (found : Element) (f : Front octets found) → f.tag.kind ≡ kind → is_length kind ≡ false → f.tag.number ≡ m → f.rest ≡ rest → Bracket kind m octets rest
bracket kind m octets rest found f k none n r =
    let is = is_bracket f.tag kind m f.is k none n in
    record { front = f.begins.front; is = subst IsTag is f.is; encodes = subst (EncodesTag f.begins.front) is f.begins.encodes; parts = f.begins.parts ∙ ap (λ (o : List ℕ). f.begins.front ++ o) r }

-- ---- what was found

-- a balanced content, and a closing tag after it
pub record Tail (depth number : ℕ) (octets at rest : List ℕ) : Type 0 where
  pub content : List ℕ
  pub closing : List ℕ
  pub balanced : IsBalanced depth content
  pub is : IsTag (context number Closing)
  pub closes : EncodesTag closing (context number Closing)
  pub at_is : at ≡ closing ++ rest
  pub parts : octets ≡ content ++ at

abbrev Found : ℕ → Type 0
Found fuel = (depth number : ℕ) (octets at rest : List ℕ) → AreOctets octets → closing_at fuel depth number octets ≡ Some (at, rest) → Tail depth number octets at rest

after_value : (depth number : ℕ) (octets behind at rest : List ℕ) (f : Front octets (value behind)) → Steps (content_length f.tag f.tag.kind) f.rest behind → Tail depth number behind at rest → Tail depth number octets at rest
after_value depth number octets behind at rest f s t =
    let whole : octets ≡ (f.begins.front ++ (s.content ++ t.content)) ++ at = f.begins.parts ∙ ap (λ (o : List ℕ). f.begins.front ++ o) (s.parts ∙ ap (λ (o : List ℕ). s.content ++ o) t.parts ∙ sym (append_assoc s.content t.content at)) ∙ sym (append_assoc f.begins.front (s.content ++ t.content) at) in
    record {
      content = f.begins.front ++ (s.content ++ t.content);
      closing = t.closing;
      balanced = primitive f.begins.front s.content t.content f.tag f.is f.begins.encodes s.count_is refl t.balanced;
      is = t.is;
      closes = t.closes;
      at_is = t.at_is;
      parts = whole;
    }

after_list : (less number m : ℕ) (octets behind mid further at rest : List ℕ) → Bracket Opening m octets behind → Tail less m behind mid further → Tail (suc less) number further at rest → Tail (suc less) number octets at rest
after_list less number m octets behind mid further at rest o inner t =
    let last : inner.content ++ (inner.closing ++ further) ≡ (inner.content ++ (inner.closing ++ t.content)) ++ at = ap (λ (x : List ℕ). inner.content ++ (inner.closing ++ x)) t.parts ∙ ap (λ (x : List ℕ). inner.content ++ x) (sym (append_assoc inner.closing t.content at)) ∙ sym (append_assoc inner.content (inner.closing ++ t.content) at) in
    let whole : octets ≡ (o.front ++ (inner.content ++ (inner.closing ++ t.content))) ++ at = o.parts ∙ ap (λ (x : List ℕ). o.front ++ x) (inner.parts ∙ ap (λ (x : List ℕ). inner.content ++ x) inner.at_is ∙ last) ∙ sym (append_assoc o.front (inner.content ++ (inner.closing ++ t.content)) at) in
    record {
      content = o.front ++ (inner.content ++ (inner.closing ++ t.content));
      closing = t.closing;
      balanced = nested o.front inner.content inner.closing t.content m o.is o.encodes inner.closes refl inner.balanced t.balanced;
      is = t.is;
      closes = t.closes;
      at_is = t.at_is;
      parts = whole;
    }

some_pair : (a b c d : List ℕ) → (let x : Option (List ℕ × List ℕ) = Some (a, b) in x) ≡ Some (c, d) → (a ≡ c) × (b ≡ d)
some_pair a b c d e = (ap fst e, ap snd e) where
  fst : Option (List ℕ × List ℕ) → List ℕ
  fst None = a
  fst (Some x) = x.0

  snd : Option (List ℕ × List ℕ) → List ℕ
  snd None = b
  snd (Some x) = x.1

-- ---- each step of the walk

step_found : (fuel depth number : ℕ) (octets at rest : List ℕ) (found : Option Element) → AreOctets octets → Found fuel → element_at octets ≡ found → closing_at (suc fuel) depth number octets ≡ Some (at, rest) → Tail depth number octets at rest
step_found fuel depth number octets at rest None fits more e walk = absurd (let h = past_nothing fuel depth number octets e in cc)
step_found fuel depth number octets at rest (Some (value behind)) fits more e walk =
    let f = front_of octets (tag_at octets) (value behind) fits refl e in
    let s = value_of f.tag f.tag.kind f.rest behind f.found_is in
    let rest_fits = behind_octets f.begins.front f.rest (subst AreOctets f.begins.parts fits) in
    let behind_fits = behind_octets s.content behind (subst AreOctets s.parts rest_fits) in
    after_value depth number octets behind at rest f s (more depth number behind at rest behind_fits (sym (past_value fuel depth number octets behind e) ∙ walk))
step_found fuel zero number octets at rest (Some (opened m behind)) fits more e walk = absurd (let h = too_deep fuel number m octets behind e in cc)
step_found fuel (suc less) number octets at rest (Some (opened m behind)) fits more e walk = list_found fuel less number m octets behind at rest (closing_at fuel less m behind) fits more e refl walk where
  list_found : (fuel less number m : ℕ) (octets behind at rest : List ℕ) (inner : Option (List ℕ × List ℕ)) → AreOctets octets → Found fuel → element_at octets ≡ Some (opened m behind) → closing_at fuel less m behind ≡ inner → closing_at (suc fuel) (suc less) number octets ≡ Some (at, rest) → Tail (suc less) number octets at rest
  list_found fuel less number m octets behind at rest None fits more e f walk = absurd (let h = in_bad_list fuel less number m octets behind e f in cc)
  list_found fuel less number m octets behind at rest (Some x) fits more e f walk =
      let g = front_of octets (tag_at octets) (opened m behind) fits refl e in
      let o = opened_of g.tag g.tag.kind g.rest m behind g.found_is in
      let b = bracket Opening m octets behind (opened m behind) g o.0 refl o.1 o.2 in
      let behind_fits = behind_octets b.front behind (subst AreOctets b.parts fits) in
      let inner = more less m behind x.0 x.1 behind_fits f in
      let mid_fits = behind_octets inner.content x.0 (subst AreOctets inner.parts behind_fits) in
      let further_fits = behind_octets inner.closing x.1 (subst AreOctets inner.at_is mid_fits) in
      after_list less number m octets behind x.0 x.1 at rest b inner (more (suc less) number x.1 at rest further_fits (sym (past_list fuel less number m octets behind x e f) ∙ walk))
step_found fuel depth number octets at rest (Some (closed m behind)) fits more e walk =
    let g = front_of octets (tag_at octets) (closed m behind) fits refl e in
    let o = closed_of g.tag g.tag.kind g.rest m behind g.found_is in
    let b = bracket Closing m octets behind (closed m behind) g o.0 refl o.1 o.2 in
    elim (chosen (eqb m number) (Some (octets, behind)) None (Some (at, rest)) (sym (past_closing fuel depth number m octets behind e) ∙ walk)) [
      | inl same ↦ closed_here depth number m octets behind at rest b (eqb-true _ _ same.0) (some_pair octets behind at rest same.1)
      | inr other ↦ absurd (let h = other.1 in cc)
    ] where
      closed_here : (depth number m : ℕ) (octets behind at rest : List ℕ) (b : Bracket Closing m octets behind) → m ≡ number → (octets ≡ at) × (behind ≡ rest) → Tail depth number octets at rest
      closed_here depth number m octets behind at rest b is both = record {
        content = [];
        closing = b.front;
        balanced = no_more;
        is = subst (λ (k : ℕ). IsTag (context k Closing)) is b.is;
        closes = subst (λ (k : ℕ). EncodesTag b.front (context k Closing)) is b.encodes;
        at_is = sym both.0 ∙ b.parts ∙ ap (λ (o : List ℕ). b.front ++ o) both.1;
        parts = both.0;
      }

pub closing_found : (fuel : ℕ) → Found fuel
closing_found zero depth number octets at rest fits walk = absurd (let h = no_fuel depth number octets in cc)
closing_found (suc fuel) depth number octets at rest fits walk = step_found fuel depth number octets at rest (element_at octets) fits (closing_found fuel) refl walk

pub closing_within : (fuel depth number : ℕ) (octets at rest : List ℕ) → AreOctets octets → closing_at fuel depth number octets ≡ Some (at, rest) → length at ≤ length octets
closing_within fuel depth number octets at rest fits walk =
    let t = closing_found fuel depth number octets at rest fits walk in
    omega (arith, ap length t.parts, length-append t.content at)

-- ---- what is balanced is walked over

some_octets : (header : List ℕ) (tag : Tag) → EncodesTag header tag → 1 ≤ length header
some_octets header tag s = omega (arith, ap length s.encoded)

element_again : (header : List ℕ) (tag : Tag) (rest : List ℕ) (found : Element) → IsTag tag → EncodesTag header tag → element_of tag tag.kind rest ≡ Some found → element_at (header ++ rest) ≡ Some found
element_again header tag rest found is s e = ap element (tag_again header tag rest is s) ∙ e

value_again : (tag : Tag) (kind : Kind) (content rest : List ℕ) → content_length tag kind ≡ Some (length content) → element_of tag kind (content ++ rest) ≡ Some (value rest)
value_again tag (Length n) content rest e = ap (λ (k : Option ℕ). stepped k (content ++ rest)) e ∙ over where
  over : stepped (Some (length content)) (content ++ rest) ≡ Some (value rest)
  over =
      let long : ltb (length (content ++ rest)) (length content) ≡ false = le-ltb _ _ (omega (arith, length-append content rest)) in
      rw (long, drop_at content rest (length content) refl) refl
value_again tag Opening content rest e = absurd cc
value_again tag Closing content rest e = absurd cc

same_number : (n : ℕ) (octets rest : List ℕ) → cond {A = Option (List ℕ × List ℕ)} (eqb n n) (Some (octets, rest)) None ≡ Some (octets, rest)
same_number n octets rest = rw (eq-eqb n n refl) refl

pub closing_only : {depth : ℕ} {content : List ℕ} → IsBalanced depth content → (fuel number : ℕ) (closing rest : List ℕ) → length content < fuel → IsTag (context number Closing) → EncodesTag closing (context number Closing) → closing_at fuel depth number (content ++ (closing ++ rest)) ≡ Some (closing ++ rest, rest)
closing_only b zero number closing rest lt is closes = absurd (omega arith)
closing_only {depth} no_more (suc fuel) number closing rest lt is closes =
    past_closing fuel depth number number (closing ++ rest) rest (element_again closing (context number Closing) rest (closed number rest) is closes refl) ∙ same_number number (closing ++ rest) rest
closing_only {depth} {content} (primitive header own others tag tag_is encodes count parts b) (suc fuel) number closing rest lt is closes =
    let tail = closing ++ rest in
    let regrouped : content ++ tail ≡ header ++ (own ++ (others ++ tail)) = ap (λ (o : List ℕ). o ++ tail) parts ∙ append_assoc header (own ++ others) tail ∙ ap (λ (o : List ℕ). header ++ o) (append_assoc own others tail) in
    let found : element_at (header ++ (own ++ (others ++ tail))) ≡ Some (value (others ++ tail)) = element_again header tag (own ++ (others ++ tail)) (value (others ++ tail)) tag_is encodes (value_again tag tag.kind own (others ++ tail) count) in
    let fewer : length others < fuel = omega (arith, ap length parts, length-append header (own ++ others), length-append own others, some_octets header tag encodes) in
    past_value fuel depth number (content ++ tail) (others ++ tail) (ap element_at regrouped ∙ found) ∙ closing_only b fuel number closing rest fewer is closes
closing_only {depth = suc less} {content} (nested opening inner ending others m opening_is opens ends parts in_b b) (suc fuel) number closing rest lt is closes =
    let tail = closing ++ rest in
    let regrouped : content ++ tail ≡ opening ++ (inner ++ (ending ++ (others ++ tail))) = ap (λ (o : List ℕ). o ++ tail) parts ∙ append_assoc opening (inner ++ (ending ++ others)) tail ∙ ap (λ (o : List ℕ). opening ++ o) (append_assoc inner (ending ++ others) tail ∙ ap (λ (o : List ℕ). inner ++ o) (append_assoc ending others tail)) in
    let found : element_at (opening ++ (inner ++ (ending ++ (others ++ tail)))) ≡ Some (opened m (inner ++ (ending ++ (others ++ tail)))) = element_again opening (context m Opening) (inner ++ (ending ++ (others ++ tail))) (opened m (inner ++ (ending ++ (others ++ tail)))) opening_is opens refl in
    let sizes : length content ≡ length opening + (length inner + (length ending + length others)) = omega (arith, ap length parts, length-append opening (inner ++ (ending ++ others)), length-append inner (ending ++ others), length-append ending others) in
    let inner_fewer : length inner < fuel = omega (arith, some_octets opening (context m Opening) opens) in
    let fewer : length others < fuel = omega (arith, some_octets opening (context m Opening) opens) in
    let closing_is : IsTag (context m Closing) = record { numbered = opening_is.numbered; classed = refl; length_fits = tt } in
    past_list fuel less number m (content ++ tail) (inner ++ (ending ++ (others ++ tail))) (ending ++ (others ++ tail), others ++ tail) (ap element_at regrouped ∙ found) (closing_only in_b fuel m ending (others ++ tail) inner_fewer closing_is ends)
    ∙ closing_only b fuel number closing rest fewer is closes

-- ---- the list

listed : (octets : List ℕ) (r : Option (List ℕ × List ℕ)) (content rest : List ℕ) → list_of octets r ≡ Some (content, rest) → (x : List ℕ × List ℕ) × (r ≡ Some x) × (take (length octets - length x.0) octets ≡ content) × (x.1 ≡ rest)
listed octets None content rest e = absurd cc
listed octets (Some x) content rest e = let b = some_pair (take (length octets - length x.0) octets) x.1 content rest e in (x, refl, b.0, b.1)

front_is : (octets content at : List ℕ) → octets ≡ content ++ at → take (length octets - length at) octets ≡ content
front_is octets content at e =
    let len : length octets - length at ≡ length content = omega (arith, ap length e, length-append content at) in
    ap (λ (n : ℕ). take n octets) len ∙ ap (take (length content)) e ∙ take_at content at (length content) refl

pub list_found : (number : ℕ) (octets content rest : List ℕ) → AreOctets octets → list_at number octets ≡ Some (content, rest) → EndsList number octets content rest
list_found number octets content rest fits e =
    let l = listed octets (closing_at (length octets) deepest number octets) content rest e in
    let t = closing_found (length octets) deepest number octets l.0.0 l.0.1 fits l.1 in
    let content_is : t.content ≡ content = sym (front_is octets t.content l.0.0 t.parts) ∙ l.2 in
    record {
      closing = t.closing;
      balanced = subst (IsBalanced deepest) content_is t.balanced;
      is_tag = t.is;
      closes = t.closes;
      parts = t.parts ∙ ap (λ (o : List ℕ). o ++ l.0.0) content_is ∙ ap (λ (o : List ℕ). content ++ o) (t.at_is ∙ ap (λ (o : List ℕ). t.closing ++ o) l.3);
    }

pub list_only : (number : ℕ) (octets content rest : List ℕ) → EndsList number octets content rest → list_at number octets ≡ Some (content, rest)
list_only number octets content rest s =
    let tail = s.closing ++ rest in
    let long : length content < length octets = omega (arith, ap length s.parts, length-append content tail, length-append s.closing rest, some_octets s.closing (context number Closing) s.closes) in
    let walk : closing_at (length octets) deepest number octets ≡ Some (tail, rest) = ap (closing_at (length octets) deepest number) s.parts ∙ closing_only s.balanced (length octets) number s.closing rest long s.is_tag s.closes in
    ap (list_of octets) walk ∙ ap (λ (c : List ℕ). Some (c, rest)) (front_is octets content tail s.parts)

-- ---- what a call returned

pub maps_found : {X : Type 0} (first second : X → List ℕ) (r : Option X) (reading : Option (List ℕ × List ℕ)) (P : List ℕ → List ℕ → Type 0) → option_map (λ x. (first x, second x)) r ≡ reading → ((a b : List ℕ) → reading ≡ Some (a, b) → P a b) → IfSome r (λ x. P (first x) (second x))
maps_found first second None reading P given holds = tt
maps_found first second (Some x) reading P given holds = holds (first x) (second x) (sym given)

pub maps_only : {X : Type 0} (first second : X → List ℕ) (r : Option X) (reading : Option (List ℕ × List ℕ)) (a b : List ℕ) → option_map (λ x. (first x, second x)) r ≡ reading → reading ≡ Some (a, b) → IsSomeAnd r (λ x. (first x ≡ a) × (second x ≡ b))
maps_only first second None reading a b given is = absurd (let h = given ∙ is in cc)
maps_only first second (Some x) reading a b given is = some_pair (first x) (second x) a b (given ∙ is)
