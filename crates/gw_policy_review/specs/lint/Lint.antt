-- What `bacgwctl lint` says of a configuration.
use Rattle.std.specs.Prelude.{◌≡◌, ℕ, Bool, List, ◌++◌}
use Rattle.gw_configuration.specs.Configuration.{Configuration}
use Rattle.gw_policy_review.specs.lint.Finding.{AreTrue}
use Rattle.gw_policy_review.specs.lint.Notes.{AreNotes}
use Rattle.gw_script.specs.Order.{in_order}
use Rattle.gw_ask_sets.specs.shapes.Shapes.{shapes}
use Rattle.gw_policy_review.specs.lint.Text.{line_text}
use Rattle.gw_policy_review.specs.declared.lint.finding.Finding.{Finding}

-- the lines of what is found of the rules, in their order, and the notes after them; the tables of the rules begin on these lines
-- of the text
abbrev pub lint_text : Configuration → (lines : List ℕ) → Bool → List Finding → (notes : List ℕ) → List ℕ
lint_text c lines explains findings notes = in_order (line_text explains c lines findings) 1 findings ++ notes

-- A text is a lint of a configuration: it is the text of one finding for each rule, each true over the shapes of the
-- gateway's asks, and the notes over these shapes. The searches for all findings share 262,144 steps.
pub record IsLint (c : Configuration) (lines : List ℕ) (explains : Bool) (text : List ℕ) : Type 0 where
  pub findings : List Finding
  pub rest : ℕ
  pub are_true : AreTrue (shapes c) c.rules 262144 rest findings
  pub notes : List ℕ
  pub are_notes : AreNotes (shapes c) c lines notes
  pub shown : text ≡ lint_text c lines explains findings notes

-- a lint follows what a buffer held
abbrev pub AppendsLint : Configuration → (lines : List ℕ) → Bool → List ℕ → List ℕ → Type 0
AppendsLint c lines explains old new = (text : List ℕ) × IsLint c lines explains text × (new ≡ old ++ text)
