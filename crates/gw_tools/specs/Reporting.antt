-- What `report` makes, at each outcome: over the definitions of `gw_report`.
use Rattle.std.specs.Prelude.{◌≡◌, ⊤, ℕ, List, [], true, false, Option, Some, None, Result, Ok, Err}
use Rattle.gw_report.specs.Report.{IsReport}
use Rattle.gw_report.specs.page.Page.{IsPage}
use Rattle.gw_ending.specs.declared.fault.Fault.{Fault}
use Rattle.gw_ending.specs.declared.fault.Fault.TheVariants as fault
use Rattle.gw_tools.specs.declared.placed.Placed.{Placed}

-- a page about the configuration, in which every foreign text is escaped; or memory ran out
abbrev pub IsPageAlone : Placed → Result (List ℕ) Fault → Type 0
IsPageAlone p (Ok page) = IsPage page × IsReport p.config p.lines.items false [] page
IsPageAlone p (Err fault.Memory) = ⊤
IsPageAlone p (Err _) = ⊥

-- the same of a log too, with how often each rule denied; or a read of it failed, or it couldn't be opened
abbrev pub IsPageWith : Placed → Result (Option (List ℕ)) Fault → Result (List ℕ) Fault → Type 0
IsPageWith p (Ok log) (Ok page) = IsPage page × ((times : List ℕ) × IsReport p.config p.lines.items true times page)
IsPageWith p (Ok log) (Err fault.Read) = ⊤
IsPageWith p (Ok log) (Err fault.Memory) = ⊤
IsPageWith p (Ok log) (Err _) = ⊥
IsPageWith p (Err f) made = made ≡ Err f

-- what is made with the log of this name, if there is one
abbrev pub IsPageOf : (ReadsLog : List ℕ → Result (Option (List ℕ)) Fault → Type 0) → Option (List ℕ) → Placed
    → Result (List ℕ) Fault → Type 0
IsPageOf ReadsLog None p made = IsPageAlone p made
IsPageOf ReadsLog (Some log) p made = (opened : Result (Option (List ℕ)) Fault) × ReadsLog log opened × IsPageWith p opened made
