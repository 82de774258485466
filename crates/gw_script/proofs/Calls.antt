-- How many calls of a reader the reading of lines makes, where it is known what the reader has left.
use Rattle.std.proofs.Common.{◌≡◌, ℕ, ◌+◌, ◌*◌, ◌≤◌, ◌<◌, List, length, Option, Some, None, refl, subst, arith}
use Rattle.gw_script.specs.Reader.{IsPaid}
use Rattle.gw_script.specs.Known.{IsShorter}

-- Each call but one a line gave an octet, and each line has one: so the calls so far, what the reader has left and what is left of the
-- text are together no more than two scripts. No more lines were done than the script has octets.
pub record CallBound (script : List ℕ) (n calls : ℕ) (left text : Option (List ℕ)) : Type 0 where
  pub rest : List ℕ
  pub left_is : left ≡ Some rest
  pub remains : List ℕ
  pub text_is : text ≡ Some remains
  pub few_calls : calls + length rest + length remains ≤ 2 * length script
  pub few_lines : n + length remains ≤ length script + 1

pub bound_at_first : (script : List ℕ) (calls : ℕ) (left text : Option (List ℕ)) → calls ≡ 0 → left ≡ Some script → text ≡ Some script
    → CallBound script 1 calls left text
bound_at_first script calls left text none left_is text_is = record {
  rest = script;
  left_is = left_is;
  remains = script;
  text_is = text_is;
  few_calls = omega (arith, none);
  few_lines = omega arith;
}

-- what a source has left stays known
record KnownRest (calls more : ℕ) (rest : List ℕ) (new : Option (List ℕ)) : Type 0 where
  rest_new : List ℕ
  is : new ≡ Some rest_new
  paid : more + length rest_new ≤ calls + length rest + 1

known_rest : (calls more : ℕ) (left new : Option (List ℕ)) (rest : List ℕ) → left ≡ Some rest → IsPaid calls left more new
    → KnownRest calls more rest new
known_rest calls more None new rest is paid = absurd cc
known_rest calls more (Some xs) None rest is paid = absurd paid
known_rest calls more (Some xs) (Some ys) rest is paid =
    let same : xs ≡ rest = cc in
    record { rest_new = ys; is = refl; paid = subst (λ (r : List ℕ). more + length ys ≤ calls + length r + 1) same paid }

pub bound_goes_on : (script : List ℕ) (n calls more : ℕ) (left text new text_new : Option (List ℕ))
    (bound : CallBound script n calls left text)
    → IsShorter bound.remains text_new → IsPaid calls left more new → CallBound script (n + 1) more new text_new
bound_goes_on script n calls more left text new text_new bound shorter paid =
    let k = known_rest calls more left new bound.rest bound.left_is paid in record {
      rest = k.rest_new;
      left_is = k.is;
      remains = shorter.0;
      text_is = shorter.1;
      few_calls = omega (arith, k.paid, bound.few_calls, shorter.2);
      few_lines = omega (arith, bound.few_lines, shorter.2);
    }

-- so the count of the calls isn't at its end
pub calls_left : (script : List ℕ) (n calls more : ℕ) (left text new : Option (List ℕ)) → CallBound script n calls left text
    → IsPaid calls left more new → 2 * length script + 1 < 4294967295 → more ≡ 4294967295 → ⊥
calls_left script n calls more left text new bound paid short at_end =
    let k = known_rest calls more left new bound.rest bound.left_is paid in
    absurd (omega (arith, k.paid, bound.few_calls, short, at_end))

-- nor is that of the lines
pub lines_left : (script : List ℕ) (n calls : ℕ) (left text : Option (List ℕ)) → CallBound script n calls left text
    → 2 * length script + 1 < 4294967295 → 4294967295 ≤ n → ⊥
lines_left script n calls left text bound short at_end = absurd (omega (arith, bound.few_lines, short, at_end))
