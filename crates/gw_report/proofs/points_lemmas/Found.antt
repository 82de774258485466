-- What is found in the list.
use Rattle.std.proofs.Common.{◌≡◌, ◌==◌, ℕ, List, [], ◌∷◌, map, Bool, true, false, refl, ap, inl, inr, Some}
use Rattle.std.specs.Prelude.{◌||◌}
use Rattle.std.proofs.lemmas.Bool.{cases_Bool}
use Rattle.gw_configuration.specs.Configuration.{Configuration}
use Rattle.gw_report.proofs.points_lemmas.Records.{AreWide, rows_found}
use Rattle.gw_report.specs.points.Cells.{guarded, is_one_of, is_risky, risks, unguarded}
use Rattle.gw_report.specs.points.Laws.{ColumnsAreSixteen, NamesAreFound, RowsAreFound}
use Rattle.gw_report.specs.points.Points.{PointLine, column_row, point_row, points, points_rows}

points_wide : (ps : List PointLine) → AreWide (map point_row ps)
points_wide [] = tt
points_wide (p ∷ ps) = (tt, points_wide ps)

rows_wide : (c : Configuration) → AreWide (points_rows c)
unfolding column_row
rows_wide c = (tt, (tt, (tt, (tt, (tt, (tt, points_wide (points c)))))))

pub rows_are : RowsAreFound
rows_are c = rows_found (points_rows c) (rows_wide c)

pub columns_are : ColumnsAreSixteen
unfolding column_row
columns_are = (refl, λ p. refl)

or-right : (a b : Bool) → (a || b) ≡ false → b ≡ false
or-right false b e = e
or-right true b e = cc e

or-left : (a b : Bool) → (a || b) ≡ false → a ≡ false
or-left false b e = refl
or-left true b e = cc e

not_apostrophe : (octet : ℕ) → is_one_of risks octet ≡ false → (octet == 39) ≡ false
not_apostrophe octet plain =
    or-left (octet == 39) _ (or-right (octet == 13) _ (or-right (octet == 10) _ (or-right (octet == 9) _ (or-right (octet == 64) _
    (or-right (octet == 45) _ (or-right (octet == 43) _ (or-right (octet == 61) _ plain)))))))

unchanged : (text : List ℕ) → is_risky text ≡ false → unguarded text ≡ text
unfolding is_risky unguarded
unchanged [] plain = refl
unchanged (octet ∷ text) plain = rw (not_apostrophe octet (or-left (is_one_of risks octet) _ plain)) refl

-- a text without its guard
found_again : (text : List ℕ) → unguarded (guarded text) ≡ text
unfolding guarded unguarded
found_again text = elim (cases_Bool (is_risky text)) [
  | inl risk ↦ rw risk refl
  | inr plain ↦ rw plain (unchanged text plain)
]

pub names_are : NamesAreFound
names_are p = ap Some (found_again p.name)
