-- Lists of ranges: what two of them share, and what is left of one outside the other.
use Rattle.std.specs.Prelude.{ℕ, ◌+◌, ◌-◌, nat_le, nat_lt, if◌then◌else◌, List, [], ◌∷◌, ◌++◌, Option, Some, None}
use Rattle.std.specs.List.{flat_map}
use Rattle.std.specs.Option.{option_to_list}
use Rattle.gw_rules.specs.declared.range.Range.{Range}

-- the numbers from one to another
abbrev pub between : ℕ → ℕ → Range
between low high = record { low = low; high = high }

abbrev pub greater : ℕ → ℕ → ℕ
greater a b = if nat_lt a b then b else a

abbrev pub lesser : ℕ → ℕ → ℕ
lesser a b = if nat_lt b a then b else a

-- the numbers of both ranges, if there are some
abbrev pub both : Range → Range → Option Range
both a b =
    if nat_le (greater a.low b.low) (lesser a.high b.high)
    then Some (between (greater a.low b.low) (lesser a.high b.high)) else None

-- the numbers of one range below another one, and above it
abbrev pub under : Range → Range → Option Range
under a b =
    if nat_lt a.low b.low then Some (between a.low (if nat_lt a.high b.low then a.high else b.low - 1)) else None

abbrev pub over : Range → Range → Option Range
over a b =
    if nat_lt b.high a.high then Some (between (if nat_lt b.high a.low then a.low else b.high + 1) a.high) else None

-- of lists
abbrev pub shared_with : List Range → Range → List Range
shared_with ys x = flat_map (λ y. option_to_list (both x y)) ys

abbrev pub shared : List Range → List Range → List Range
shared xs ys = flat_map (shared_with ys) xs

abbrev pub outside : Range → Range → List Range
outside y x = option_to_list (under x y) ++ option_to_list (over x y)

abbrev pub without_one : List Range → Range → List Range
without_one xs y = flat_map (outside y) xs

abbrev pub without : List Range → List Range → List Range
without xs [] = xs
without xs (y ∷ ys) = without (without_one xs y) ys

-- the least number of the first range
abbrev pub first_number : List Range → Option ℕ
first_number [] = None
first_number (x ∷ xs) = Some x.low
