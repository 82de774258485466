-- The name of a rule, as the log shows it.
use Rattle.std.specs.Prelude.{ℕ, Bool, List, codes, length, nat_eq, nat_le, ◌==◌, ◌&&◌, ◌||◌}
use Rattle.std.specs.Cmp.Lexicographic.{pointwise}
use Rattle.std.specs.List.{list_all}

-- `a` to `z`, `0` to `9` and `-`
abbrev pub is_name_character : ℕ → Bool
is_name_character c = (nat_le 97 c && nat_le c 122) || ((nat_le 48 c && nat_le c 57) || c == 45)

-- 1 to 32 of these characters
abbrev pub is_name : List ℕ → Bool
is_name text = nat_le 1 (length text) && (nat_le (length text) 32 && list_all is_name_character text)

-- the name that the log shows if no rule matches
abbrev pub is_no_rule : List ℕ → Bool
is_no_rule text = pointwise nat_eq text (codes "default")
