-- Believed: what a scan of a text finds next.
use Rattle.std.specs.Prelude.{◌≡◌, ℕ, ◌+◌, ◌≤◌, List, ◌∷◌, length}
use Rattle.plan_files.specs.declared.lines.Written.{Written}
use Rattle.plan_files.specs.Lines.{lines_of, written_from}

-- It is the first line that isn't blank, where the first line of the text has this number.
pub record FindsWritten (text : List ℕ) (number : ℕ) (found : Written) : Type 0 where
  pub lines : written_from number (lines_of text)
      ≡ (found.number, found.line.now) ∷ written_from (found.number + 1) (lines_of found.rest.now)
  pub within : found.number + 1 + length found.rest.now ≤ number + length text
