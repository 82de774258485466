-- How records, their lines and counts go on.
use Rattle.std.proofs.Common.{◌≡◌, ◌∙◌, refl, sym, ap, subst, ℕ, ◌+◌, ◌≤◌, ◌<◌, suc, List, [], ◌∷◌, ◌++◌, length, map, take, slice_index_or, Option, Some, None, append_assoc, arith}
use Rattle.std.proofs.Math.Seq.{take-suc}
use Rattle.std.proofs.lemmas.List.{append-nil, length-append, map-append}
use Rattle.std.proofs.lemmas.Grind.{flat_map-append}
use Rattle.gw_audit.specs.Line.{line_text}
use Rattle.gw_core.specs.declared.asked.Asked.{Asked}
use Rattle.gw_rules.specs.declared.rule.Rule.{Rule}
use Rattle.gw_rules.specs.declared.verdict.Verdict.{Verdict}
use Rattle.gw_decisions.specs.tally.Tally.{one_more}
use Rattle.gw_watchers.specs.Beside.{IsEnded, IsPut, IsRecorded, ended}
use Rattle.gw_watchers.specs.declared.beside.Beside.{Beside}
use Rattle.gw_watchers.specs.Records.{Line, last_number, lines_of, record_of, recorded, records}
use Rattle.gw_watchers.specs.declared.writing.RecordOutcome.{RecordOutcome}

-- ---- records

pub last_along : (last : ℕ) (one two : List Line) → last_number last (one ++ two) ≡ last_number (last_number last one) two
last_along last [] two = refl
last_along last (d ∷ one) two = last_along d.denial.number one two

pub records_along : (chosen : Asked → Option (Option ℕ)) (front : Asked → List ℕ) (rules : List Rule) (last tick : ℕ) (one two : List Asked)
    → records chosen front rules last tick (one ++ two)
    ≡ records chosen front rules last tick one ++ records chosen front rules (last_number last (records chosen front rules last tick one)) tick two
records_along chosen front rules last tick [] two = refl
records_along chosen front rules last tick (a ∷ one) two = by (chosen a) (λ number. records_along chosen front rules number tick one two)
  where
    by : (is : Option (Option ℕ))
        → ((number : ℕ) → records chosen front rules number tick (one ++ two)
        ≡ records chosen front rules number tick one ++ records chosen front rules (last_number number (records chosen front rules number tick one)) tick two)
        → recorded is (front a) rules last tick a (λ number. records chosen front rules number tick (one ++ two))
        ≡ recorded is (front a) rules last tick a (λ number. records chosen front rules number tick one)
        ++ records chosen front rules (last_number last (recorded is (front a) rules last tick a (λ number. records chosen front rules number tick one))) tick two
    by None later = later last
    by (Some number) later = ap (λ (l : List Line). record_of (front a) rules (one_more last) tick a number ∷ l) (later (one_more last))

pub lines_along : (one two : List Line) → lines_of (one ++ two) ≡ lines_of one ++ lines_of two
lines_along one two = flat_map-append (λ d. d.front ++ line_text d.denial) one two

-- ---- what is put

pub put_none : (text : List ℕ) (p : RecordOutcome) → IsPut [] p text text p
put_none text p = record { last = refl; count = omega arith; whole = λ whole. (whole, sym (append-nil text)) }

pub put_along : (one two : List Line) (a b c : RecordOutcome) (old mid new : List ℕ) → IsPut one a old mid b
    → IsPut two b mid new c → IsPut (one ++ two) a old new c
put_along one two a b c old mid new p q = record {
  last = q.last ∙ ap (λ (n : ℕ). last_number n two) p.last ∙ sym (last_along a.last one two);
  count = omega (arith, p.count, q.count, length-append one two);
  whole = λ whole.
      let second = q.whole whole in
      let first = p.whole second.0 in (
        first.0,
        second.1 ∙ ap (λ (t : List ℕ). t ++ lines_of two) first.1
            ∙ append_assoc old (lines_of one) (lines_of two)
            ∙ ap (λ (t : List ℕ). old ++ t) (sym (lines_along one two)),
      );
}

-- one ask more
pub put_next : (chosen : Asked → Option (Option ℕ)) (front : Asked → List ℕ) (rules : List Rule) (last tick : ℕ) (done : List Asked) (a : Asked)
    (start b c : RecordOutcome) (old mid new : List ℕ) → start.last ≡ last
    → IsPut (records chosen front rules last tick done) start old mid b
    → IsPut (records chosen front rules b.last tick (a ∷ [])) b mid new c
    → IsPut (records chosen front rules last tick (done ++ a ∷ [])) start old new c
put_next chosen front rules last tick done a start b c old mid new begun p q =
    let so_far = records chosen front rules last tick done in
    let number : b.last ≡ last_number last so_far = p.last ∙ ap (λ (n : ℕ). last_number n so_far) begun in
    subst (λ (l : List Line). IsPut l start old new c) (sym (records_along chosen front rules last tick done (a ∷ [])))
    (put_along so_far (records chosen front rules (last_number last so_far) tick (a ∷ [])) start b c old mid new p
    (subst (λ (n : ℕ). IsPut (records chosen front rules n tick (a ∷ [])) b mid new c) number q))

-- one verdict more
pub put_on_one : (asked : Verdict → Asked) (chosen : Asked → Option (Option ℕ)) (front : Asked → List ℕ) (rules : List Rule) (last tick : ℕ)
    (verdicts : List Verdict) (place : ℕ) (other : Verdict) (start b c : RecordOutcome) (old mid new : List ℕ) → place < length verdicts → start.last ≡ last
    → IsPut (records chosen front rules last tick (map asked (take place verdicts))) start old mid b
    → IsPut (records chosen front rules b.last tick (asked (slice_index_or verdicts place other) ∷ [])) b mid new c
    → IsPut (records chosen front rules last tick (map asked (take (place + 1) verdicts))) start old new c
put_on_one asked chosen front rules last tick verdicts place other start b c old mid new within begun p q =
    let done = take place verdicts in
    let verdict = slice_index_or verdicts place other in
    let next : place + 1 ≡ suc place = omega arith in
    let more : map asked (take (place + 1) verdicts) ≡ map asked done ++ asked verdict ∷ [] =
    ap (λ (n : ℕ). map asked (take n verdicts)) next ∙ ap (map asked) (take-suc verdicts place other within) ∙ map-append asked done (verdict ∷ []) in
    subst (λ (l : List Asked). IsPut (records chosen front rules last tick l) start old new c) (sym more)
    (put_next chosen front rules last tick (map asked done) (asked verdict) start b c old mid new begun p q)

-- there are at most as many records as asks
pub few_records : (chosen : Asked → Option (Option ℕ)) (front : Asked → List ℕ) (rules : List Rule) (last tick : ℕ) (asked : List Asked)
    → length (records chosen front rules last tick asked) ≤ length asked
few_records chosen front rules last tick [] = omega arith
few_records chosen front rules last tick (a ∷ asked) = by (chosen a) (λ number. few_records chosen front rules number tick asked)
  where
    by : (is : Option (Option ℕ)) → ((number : ℕ) → length (records chosen front rules number tick asked) ≤ length asked)
        → length (recorded is (front a) rules last tick a (λ number. records chosen front rules number tick asked)) ≤ suc (length asked)
    by None few = omega (arith, few last)
    by (Some number) few = omega (arith, few (one_more last))

-- ---- what is ended

pub ended_records : {C S : Type 0} (held : S → Option (List ℕ)) (due : List Line) (last count : ℕ) (b c : Beside C S)
    → last ≡ last_number b.number due → count ≡ length due → 0 < count
    → IsEnded held (ended b.is_cut ++ lines_of due) last count b c → IsRecorded held due b c
ended_records held [] last count b c number counted some p = absurd (omega (arith, counted, some))
ended_records held (d ∷ due) last count b c number counted some p =
    subst (λ (n : ℕ). IsEnded held (ended b.is_cut ++ lines_of (d ∷ due)) n (length (d ∷ due)) b c) number
    (subst (λ (n : ℕ). IsEnded held (ended b.is_cut ++ lines_of (d ∷ due)) last n b c) counted p)

pub no_records : {C S : Type 0} (held : S → Option (List ℕ)) (due : List Line) (count : ℕ) (b : Beside C S)
    → count ≡ length due → count ≡ 0 → IsRecorded held due b b
no_records held [] count b counted none = refl
no_records held (d ∷ due) count b counted none = absurd (omega (arith, counted, none))
