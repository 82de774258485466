-- Regions that were found, in groups by the rules that decide in them.
use Rattle.std.specs.Prelude.{ℕ, ◌-◌, Bool, not, nat_eq, nat_lt, ◌&&◌, ◌==◌, if◌then◌else◌, List, [], ◌∷◌, ◌++◌, length}
use Rattle.std.specs.Prelude.{take, codes}
use Rattle.std.specs.Prelude.{decimal}
use Rattle.std.specs.Cmp.Lexicographic.{pointwise}
use Rattle.std.specs.List.{filter, flat_map, list_any}
use Rattle.gw_ask_sets.specs.regions.Comparing.{unlike}
use Rattle.gw_ask_sets.specs.declared.regions.comparison.Found.{Found}
use Rattle.gw_policy_review.specs.comparison.Lines.{Naming, line_text, names_text, verdict_text}

-- ---- groups

-- the same becomes of the asks of two regions, and by the same rules
abbrev pub is_like : Found → Found → Bool
is_like f g =
    not (unlike f.allows g.allows) && (pointwise nat_eq f.new_rules.items g.new_rules.items
    && pointwise nat_eq f.old_rules.items g.old_rules.items)

-- the group of a region: all that are like it
abbrev pub group_of : List Found → Found → List Found
group_of found f = filter (is_like f) found

-- the first region of each group, after those that are seen
abbrev pub firsts_after : List Found → List Found → List Found
firsts_after seen [] = []
firsts_after seen (f ∷ found) = (if list_any (is_like f) seen then [] else f ∷ []) ++ firsts_after (seen ++ f ∷ []) found

abbrev pub firsts : List Found → List Found
firsts found = firsts_after [] found

-- ---- their text

-- how many more there are than are shown
abbrev pub more_text : ℕ → List ℕ
more_text count =
    if count == 0 then []
    else codes "and " ++ (decimal count ++ (if count == 1 then codes " more kind" else codes " more kinds") ++ 10 ∷ [])

-- a line each for at most so many regions, and how many are left out
abbrev pub found_text : Naming → Naming → ℕ → List Found → List ℕ
found_text old new most found =
    flat_map (line_text old new) (take most found) ++ more_text (length found - most)

-- `1 kind: now <verdict> by <rules> (was <verdict> by <rules>)` and a line feed
abbrev pub count_text : ℕ → List ℕ
count_text count = decimal count ++ (if count == 1 then codes " kind: now " else codes " kinds: now ")

abbrev pub was_text : ℕ → List ℕ
was_text count = if count == 1 then codes " (was " else codes " (were "

abbrev pub now_text : Naming → Found → List ℕ
now_text new f = verdict_text f.allows ++ (codes " by " ++ names_text new f.new_rules.items)

abbrev pub before_text : Naming → Found → List ℕ
before_text old f =
    verdict_text (not f.allows) ++ (codes " by " ++ (names_text old f.old_rules.items ++ (codes ")" ++ 10 ∷ [])))

abbrev pub head_text : Naming → Naming → ℕ → Found → List ℕ
head_text old new count f = count_text count ++ (now_text new f ++ (was_text count ++ before_text old f))

-- the line of a group, and the lines of its regions
abbrev pub group_head : Naming → Naming → List Found → Found → List ℕ
group_head old new found f = head_text old new (length (group_of found f)) f

abbrev pub group_text : Naming → Naming → ℕ → List Found → Found → List ℕ
group_text old new most found f = found_text old new most (group_of found f)

-- a line for each group, and then the lines of each
abbrev pub groups_text : Naming → Naming → ℕ → List Found → List ℕ
groups_text old new most found =
    flat_map (group_head old new found) (firsts found) ++ flat_map (group_text old new most found) (firsts found)

-- more than forty regions are grouped
abbrev pub regions_text : Naming → Naming → ℕ → List Found → List ℕ
regions_text old new most found =
    if nat_lt 40 (length found) then groups_text old new most found else found_text old new most found
