-- What is reported of lines that show no ask.
use Rattle.std.specs.Prelude.{◌==◌, ℕ, List, [], ◌++◌, Result, Ok, Err, codes, decimal, if◌then◌else◌}
use Rattle.gw_ending.specs.declared.fault.Fault.{Fault}

-- what is reported of so many lines that show no ask
abbrev pub unread_text : ℕ → List ℕ
unread_text n =
    if n == 0 then []
    else if n == 1 then codes "bacgwctl: 1 line shows no ask\n"
    else codes "bacgwctl: " ++ (decimal n ++ codes " lines show no ask\n")

-- the same after an outcome: nothing after a fault
abbrev pub unread_after : ℕ → Result (Unit {0}) Fault → List ℕ
unread_after n (Ok done) = unread_text n
unread_after n (Err f) = []
