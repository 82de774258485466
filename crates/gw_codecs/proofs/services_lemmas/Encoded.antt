-- What is written of a parameter holds it, whatever follows.
use Rattle.std.proofs.Common.{◌≡◌, ℕ, ◌<◌, ◌≤◌, ◌^◌, true, false, eqb, List, [], ◌∷◌, ◌++◌, length, Option, Some, None, refl, subst, ◌∙◌, append_assoc, inl, inr, arith}
use Rattle.std.specs.Prelude.{IfSome}
use Rattle.std.proofs.lemmas.Bool.{le-leb, eqb-true}
use Rattle.std.proofs.lemmas.List.{append-nil}
use Rattle.gw_codecs.specs.declared.tags.tag.Kind.TheVariants.{Length, Opening, Closing}
use Rattle.gw_codecs.specs.tags.Tag.{IsTag, BeginsWith, canonical}
use Rattle.gw_codecs.specs.tags.List.{context, IsBalanced, deepest, EndsList}
use Rattle.gw_codecs.specs.tags.Context.{in_context, BeginsWithContent, BeginsWithOther}
use Rattle.gw_codecs.specs.tags.Number.{unsigned_encoding}
use Rattle.gw_codecs.specs.tags.Object.{Object, IsObject, object_octets}
use Rattle.gw_codecs.specs.tags.Strings.{IsText}
use Rattle.gw_codecs.specs.tags.Value.{Value, unsigned, enumerated, object_id, character_string, IsValue, BeginsWithValue, value_encoding, is_text}
use Rattle.gw_codecs.proofs.tags_lemmas.Canonical.{canonical_encodes}
use Rattle.gw_codecs.proofs.tags_lemmas.Numbers.{unsigned_encodes}
use Rattle.gw_codecs.proofs.tags_lemmas.Written.{value_encoding_encodes}
use Rattle.gw_codecs.specs.services.Parameter.{Content, object, number, values, text, an_object, a_number, a_text, under, between, plain_object, plain_unsigned, plain_enumerated, plain_text, of_object, of_number, of_text, tagged, enclosed, an_object_value, an_unsigned_value, an_enumerated_value, a_text_value, in_range}
use Rattle.gw_codecs.specs.services.Body.{Body, may, Begins, IsAbsent, IsBody, given, left_out}
use Rattle.gw_codecs.specs.services.Read.{number_held, number_part}
use Rattle.gw_codecs.specs.services.Write.{values_part}
use Rattle.gw_codecs.proofs.services_lemmas.Contents.{either_bool}

-- ---- contents under a context tag

content_begins : (tag : ℕ) (own rest : List ℕ) → tag < 255 → length own < 2 ^ 32 → BeginsWithContent tag (in_context tag own ++ rest) own rest
content_begins tag own rest small fits = record {
  header = canonical (context tag (Length (length own)));
  encodes = canonical_encodes (context tag (Length (length own))) (record { numbered = small; classed = refl; length_fits = fits });
  parts = append_assoc (canonical (context tag (Length (length own)))) own rest;
}

pub object_begins : (tag : ℕ) (id : Object) (rest : List ℕ) → tag < 255 → IsObject id → Begins (under tag an_object) (in_context tag (object_octets id) ++ rest) (object id) rest
object_begins tag id rest small is =
    record { holds = tagged (object_octets id) (content_begins tag (object_octets id) rest small (omega arith)) (of_object id is refl); allowed = refl }

pub ranged : (least most n : ℕ) → least ≤ n → n ≤ most → in_range least most n ≡ true
ranged least most n low high = rw (le-leb least n low, le-leb n most high) refl

pub number_begins : (tag least most n : ℕ) (rest : List ℕ) → tag < 255 → n < 2 ^ 32 → least ≤ n → n ≤ most → Begins (under tag (a_number least most)) (in_context tag (unsigned_encoding n) ++ rest) (number n) rest
number_begins tag least most n rest small fits low high =
    let is = unsigned_encodes n fits in
    record { holds = tagged (unsigned_encoding n) (content_begins tag (unsigned_encoding n) rest small (omega (arith, is.most))) (of_number n is); allowed = ranged least most n low high }

pub text_begins : (tag charset : ℕ) (own rest : List ℕ) → tag < 255 → length (charset ∷ own) < 2 ^ 32 → IsText charset own → Begins (under tag a_text) (in_context tag (charset ∷ own) ++ rest) (text charset own) rest
text_begins tag charset own rest small fits is =
    record { holds = tagged (charset ∷ own) (content_begins tag (charset ∷ own) rest small fits) (of_text charset own is refl); allowed = refl }

-- another content is there
pub other_content : (tag other : ℕ) (own rest : List ℕ) → other < 255 → length own < 2 ^ 32 → eqb other tag ≡ false → BeginsWithOther tag (in_context other own ++ rest)
other_content tag other own rest small fits differs =
    let begins = content_begins other own rest small fits in
    record {
      tag = context other (Length (length own));
      rest = own ++ rest;
      is_tag = record { numbered = small; classed = refl; length_fits = fits };
      begins = record { front = begins.header; encodes = begins.encodes; parts = begins.parts };
      other = differs;
    }

-- ---- values between tags

opening_is : (tag : ℕ) → tag < 255 → IsTag (context tag Opening)
opening_is tag small = record { numbered = small; classed = refl; length_fits = tt }

closing_is : (tag : ℕ) → tag < 255 → IsTag (context tag Closing)
closing_is tag small = record { numbered = small; classed = refl; length_fits = tt }

opens : (tag : ℕ) (own rest : List ℕ) → tag < 255 → BeginsWith (values_part tag own ++ rest) (context tag Opening) (own ++ (canonical (context tag Closing) ++ rest))
opens tag own rest small = record {
  front = canonical (context tag Opening);
  encodes = canonical_encodes (context tag Opening) (opening_is tag small);
  parts = append_assoc (canonical (context tag Opening) ++ own) (canonical (context tag Closing)) rest
      ∙ append_assoc (canonical (context tag Opening)) own (canonical (context tag Closing) ++ rest);
}

pub values_begin : (tag : ℕ) (own rest : List ℕ) → tag < 255 → IsBalanced deepest own → Begins (between tag) (values_part tag own ++ rest) (values own) rest
values_begin tag own rest small balanced =
    let ends : EndsList tag (own ++ (canonical (context tag Closing) ++ rest)) own rest = record {
      closing = canonical (context tag Closing);
      balanced = balanced;
      is_tag = closing_is tag small;
      closes = canonical_encodes (context tag Closing) (closing_is tag small);
      parts = refl;
    } in
    record { holds = enclosed (own ++ (canonical (context tag Closing) ++ rest)) (opens tag own rest small) ends; allowed = refl }

pub other_opening : (tag other : ℕ) (own rest : List ℕ) → other < 255 → BeginsWithOther tag (values_part other own ++ rest)
other_opening tag other own rest small = record {
  tag = context other Opening;
  rest = own ++ (canonical (context other Closing) ++ rest);
  is_tag = opening_is other small;
  begins = opens other own rest small;
  other = refl;
}

-- ---- a number that may be there

abbrev pub FitsMaybe : ℕ → ℕ → Option ℕ → Type 0
FitsMaybe least most i = IfSome i (λ n. (n < 2 ^ 32) × ((least ≤ n) × (n ≤ most)))

pub number_maybe : (tag least most : ℕ) (body : Body) (i : Option ℕ) (rest : List ℕ) (held : List Content) → tag < 255 → FitsMaybe least most i → IsAbsent tag rest → IsBody body rest held → IsBody (may tag (a_number least most) body body) (number_part tag i ++ rest) (number_held i ++ held)
number_maybe tag least most body None rest held small fits absent is = left_out absent is
number_maybe tag least most body (Some n) rest held small fits absent is = given (number n) rest (number_begins tag least most n rest small fits.0 fits.1.0 fits.1.1) is

-- the same with nothing after it
pub number_last : (tag least most : ℕ) (body : Body) (i : Option ℕ) → tag < 255 → FitsMaybe least most i → IsBody body [] [] → IsBody (may tag (a_number least most) body body) (number_part tag i) (number_held i)
number_last tag least most body None small fits is = left_out (inl refl) is
number_last tag least most body (Some n) small fits is =
    subst (λ (o : List ℕ). IsBody (may tag (a_number least most) body body) o (number n ∷ [])) (append-nil (in_context tag (unsigned_encoding n)))
    (given (number n) [] (number_begins tag least most n [] small fits.0 fits.1.0 fits.1.1) is)

-- ---- application values

value_begins : (v : Value) (rest : List ℕ) → IsValue v → BeginsWithValue (value_encoding v ++ rest) v rest
value_begins v rest is = record { front = value_encoding v; encodes = value_encoding_encodes v is; parts = refl }

object_is : (id : Object) → IsObject id → IsValue (object_id id)
object_is id is = record { within = is; length_fits = omega arith; text = refl }

pub plain_object_begins : (id : Object) (rest : List ℕ) → IsObject id → Begins plain_object (value_encoding (object_id id) ++ rest) (object id) rest
plain_object_begins id rest is = record { holds = an_object_value id (object_is id is) (value_begins (object_id id) rest (object_is id is)); allowed = refl }

unsigned_is : (n : ℕ) → n < 2 ^ 32 → IsValue (unsigned n)
unsigned_is n fits = let is = unsigned_encodes n fits in record { within = fits; length_fits = omega (arith, is.most); text = refl }

pub plain_unsigned_begins : (most n : ℕ) (rest : List ℕ) → n < 2 ^ 32 → n ≤ most → Begins (plain_unsigned 0 most) (value_encoding (unsigned n) ++ rest) (number n) rest
plain_unsigned_begins most n rest fits high = record { holds = an_unsigned_value n (unsigned_is n fits) (value_begins (unsigned n) rest (unsigned_is n fits)); allowed = ranged 0 most n (omega arith) high }

enumerated_is : (n : ℕ) → n < 2 ^ 32 → IsValue (enumerated n)
enumerated_is n fits = let is = unsigned_encodes n fits in record { within = fits; length_fits = omega (arith, is.most); text = refl }

pub plain_enumerated_begins : (most n : ℕ) (rest : List ℕ) → n < 2 ^ 32 → n ≤ most → Begins (plain_enumerated 0 most) (value_encoding (enumerated n) ++ rest) (number n) rest
plain_enumerated_begins most n rest fits high = record { holds = an_enumerated_value n (enumerated_is n fits) (value_begins (enumerated n) rest (enumerated_is n fits)); allowed = ranged 0 most n (omega arith) high }

text_good : (charset : ℕ) (own : List ℕ) → IsText charset own → is_text (character_string charset own) ≡ true
text_good charset own is = elim (either_bool (eqb charset 0)) [
  | inl none ↦ rw (none, is (eqb-true _ _ none)) refl
  | inr some ↦ rw some refl
]

pub plain_text_begins : (charset : ℕ) (own rest : List ℕ) → length (charset ∷ own) < 2 ^ 32 → IsText charset own → Begins plain_text (value_encoding (character_string charset own) ++ rest) (text charset own) rest
plain_text_begins charset own rest fits is =
    let value : IsValue (character_string charset own) = record { within = tt; length_fits = fits; text = text_good charset own is } in
    record { holds = a_text_value charset own value (value_begins (character_string charset own) rest value); allowed = refl }
