use Rattle.std.proofs.Common.{◌∙◌, ◌++◌, ap, List, ℕ}
use Rattle.gw_report.specs.Report.{first_text, last_text}
use Rattle.gw_report.proofs.document.page_of.Goals as goal

pub returns : goal.returns
returns c =
    let parts = c.in_ok-parts.parts in
    let config = c.args.config.now in
    let times = c.args.times.now in record {
      picture = parts.picture;
      is_picture = c.in_ok-parts.ensures.picture;
      access = parts.access;
      is_access = c.in_ok-parts.ensures.access;
      lines = parts.lines;
      are_lines = c.in_ok-parts.ensures.lines;
      plots = parts.plots;
      are_plots = c.in_ok-parts.ensures.plots;
      judged = parts.judged.items;
      are_judged = c.in_ok-parts.ensures.judged;
      whole =
          c.in_ok-put_last.ensures
          ∙ ap (λ (t : List ℕ). t ++ last_text config c.args.lines.now times.are_shown times.counts.items parts.judged.items parts.plots)
          (c.in_ok-put_first.ensures ∙ ap (λ (t : List ℕ). t ++ first_text config parts.picture parts.access parts.lines) c.new-page.ensures);
    }
