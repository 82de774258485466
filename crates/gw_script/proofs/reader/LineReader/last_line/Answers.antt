use Rattle.std.proofs.Common.{◌≡◌, ℕ, ◌<◌, List, [], ◌∷◌, ◌++◌, length, take, drop, refl, sym, ap, ◌∙◌, arith}
use Rattle.std.proofs.lemmas.List.{append-nil}
use Rattle.std.proofs.Math.Seq.{take-length}
use Rattle.std.proofs.Math.Seq.{drop-length}
use Rattle.gw_script.specs.Script.{lines_of}
use Rattle.gw_script.proofs.LineLemmas.{lines_of-nil, lines_of-last}
use Rattle.gw_script.proofs.reader.LineReader.last_line.Goals as goal

none : (xs : List ℕ) → length xs ≡ 0 → xs ≡ []
none [] e = refl
none (x ∷ xs) e = absurd (omega arith)

pub returns-then-len-eq0-clause-found : goal.returns-then-len-eq0-clause-found
returns-then-len-eq0-clause-found c =
    let text = c.args.self.now.unread in
    let empty : text ≡ [] = none text (omega (arith, ap length c.as_slice-len.ensures, c.if-len-eq0.true)) in
    ap (λ (t : List ℕ). lines_of (t ++ [])) empty ∙ lines_of-nil

pub returns-else-len-eq0-clause-found : goal.returns-else-len-eq0-clause-found
returns-else-len-eq0-clause-found c =
    let text = c.args.self.now.unread in
    let some : 0 < length text = omega (arith, ap length c.as_slice-len.ensures, c.if-len-eq0.false) in
    let whole : lines_of (text ++ []) ≡ text ∷ [] = ap lines_of (append-nil text) ∙ lines_of-last text c.requires.open some in
    let front : take (length c.as_slice-len.result.now) text ≡ text = ap (λ (t : List ℕ). take (length t) text) c.as_slice-len.ensures ∙ take-length text in
    let behind : drop (length c.as_slice-len.result.now) text ≡ [] = ap (λ (t : List ℕ). drop (length t) text) c.as_slice-len.ensures ∙ drop-length text in
    rw (front, behind) (whole ∙ ap (λ (l : List (List ℕ)). text ∷ l) (sym lines_of-nil))
