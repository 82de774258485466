-- What is reported of a state that is kept and of a configuration that is read again.
use Rattle.std.specs.Prelude.{ℕ, ◌==◌, Bool, true, false, if◌then◌else◌, List, [], ◌∷◌, ◌++◌, Option, Some, None, codes, decimal}
use Rattle.gw_notices.specs.declared.reload.ReloadCounts.{ReloadCounts}

-- how often the state couldn't be kept, if it is
abbrev pub unkept_text : Bool → ℕ → List ℕ
unkept_text false unkept = []
unkept_text true unkept = codes "stats unkept=" ++ (decimal unkept ++ 10 ∷ [])

-- how often a configuration was taken over and refused, and the tick since which the one in force is, if it is read again
abbrev pub reloads_text : Bool → ReloadCounts → List ℕ
reloads_text false counts = []
reloads_text true counts =
    codes "stats reloads=" ++ (decimal counts.taken_over ++ (codes " refused=" ++ (decimal counts.refused
    ++ (codes " since=" ++ (decimal counts.since ++ 10 ∷ [])))))

-- how many texts of metrics were lost
abbrev pub lost_line : ℕ → List ℕ
lost_line lost = codes "stats lost_metrics=" ++ decimal lost ++ codes "\n"

-- so it is reported if metrics are written
abbrev pub lost_metrics_text : Option ℕ → List ℕ
lost_metrics_text None = []
lost_metrics_text (Some lost) = lost_line lost

-- how often an announcement that was due wasn't tried
abbrev pub put_off_line : ℕ → List ℕ
put_off_line put_off = codes "stats announcements_put_off=" ++ (decimal put_off ++ 10 ∷ [])

-- so it is reported if one wasn't
abbrev pub put_off_text : ℕ → List ℕ
put_off_text put_off = if put_off == 0 then [] else put_off_line put_off
