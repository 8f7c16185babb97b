-- Private: what a walk over a part of a tree answers.
use Rattle.std.specs.Prelude.{◌≡◌, ℕ, ◌+◌, min, List, Result}
use Rattle.std.specs.Result.{MatchResult}
use Rattle.cert_core.specs.declared.tree.TreeFault.{TreeFault}
use Rattle.cert_core.specs.Soft.{SoftProgram}
use Rattle.basics.specs.Duties.{AllMet, IsFirstUnmet}
use Rattle.cert_core.specs.Trees.{Leaf, between_duties}

-- Ok names the number of leaves up to the end of the part, at most `to`, where all that is asked of its leaves is met; else the answer is the first fault
abbrev pub JudgesLeaves : {E : Type 0} → Result ℕ E → (E → TreeFault ℕ ℕ) → ℕ → SoftProgram → ℕ → ℕ → ℕ → ℕ → List Leaf → Type 0
JudgesLeaves result named limit p from to done count leaves = MatchResult result
    (λ end. AllMet (between_duties limit p from to (done + 1) leaves) × (end ≡ min (done + count) to))
    (λ e. IsFirstUnmet (between_duties limit p from to (done + 1) leaves) (named e))
