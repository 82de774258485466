use Rattle.std.proofs.Common.{rules, ◌≡◌, pos, to_z, of_z, w8, w16, true, false}
use Rattle.gw_log_words.proofs.MomentLemmas.{is_date}
use Rattle.gw_log_words.proofs.dates.civil_date.Goals as goal

pub returns-in-Err : goal.returns-in-Err
returns-in-Err c = λ d since e.
    let year : to_z w16 (of_z w16 c.in_ok-year.year) ≡ pos c.args.date.year = search rules in
    let month : to_z w8 (of_z w8 c.in_ok-month.month) ≡ pos c.args.date.month = search rules in
    let day : to_z w8 (of_z w8 c.in_ok-day.day) ≡ pos c.args.date.day = search rules in
    let bad : false ≡ true = c.in-Err.ensures.succeeds.1 (is_date c.args.date d _ _ _ year month day since e) in
    absurd cc
