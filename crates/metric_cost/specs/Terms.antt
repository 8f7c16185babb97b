-- Private: soft terms reckoned one after the other, each added to the sum at once.
use Rattle.std.specs.Prelude.{ℕ, ◌≡◌, Bool, IsTrue, List, [], ◌∷◌, ◌++◌, length, Result, Ok, Err}
use Rattle.std.specs.List.{AllByRecursion}
use Rattle.rational.specs.Rational.{ℚ, zeroℚ, ◌+ℚ◌, ◌*ℚ◌}
use Rattle.exact_lin.specs.Forms.{Covers}
use Rattle.exact_lin.specs.Reckonings.{Reckoning, Sum, Product, Value}
use Rattle.exact_lin.specs.declared.scalars.Wide.{Wide}
use Rattle.task_types.specs.declared.costs.Metric.{Metric}
use Rattle.task_types.specs.declared.costs.Soft.{Soft}
use Rattle.task_types.specs.declared.costs.Soft.TheVariants as soft
use Rattle.task_types.specs.Tests.{◌<?◌}
use Rattle.task_types.specs.State.{State, value}
use Rattle.task_types.specs.Trace.{Trace}
use Rattle.task_types.specs.Touch.{tree_facts}
use Rattle.task_types.specs.Cost.{soft_cost}
use Rattle.task_types.specs.Reckoned.{soft_reckoned}
use Rattle.task_types.specs.WellMade.{pieces_rise}
use Rattle.trajectory.specs.Facts.{AreCovered}
use Rattle.metric_cost.specs.Answers.{Amounts}

-- what a soft term of a well made task offers in the lists of a state
abbrev pub CanReckon : Soft → List Bool → List ℚ → Type 0
CanReckon (soft.Trail c weight) facts fluents = Unit {0}
CanReckon (soft.Goal formula forms weight) facts fluents = AreCovered (tree_facts formula) facts × AllByRecursion (λ e. Covers (length fluents) e.terms) forms
CanReckon (soft.Late formula c weight) facts fluents = IsTrue (c.soft <? c.hard)
CanReckon (soft.Pieces formula ps weight) facts fluents = IsTrue (pieces_rise zeroℚ zeroℚ ps)

-- a value times its weight
abbrev pub IsWeighed : ℚ → Result ℚ Wide → Result ℚ Wide → Type 0
IsWeighed weight (Ok q) result = Amounts result (Product weight q ∷ []) (λ r. r ≡ weight *ℚ q)
IsWeighed weight (Err w) result = result ≡ Err w

-- a soft term, then its sum with what came before
abbrev pub term_reckoned : ℚ → Soft → Trace → State → List Reckoning
term_reckoned q s xs last = soft_reckoned s xs last ++ Sum q (soft_cost s xs last) ∷ []

abbrev pub terms_reckoned : ℚ → List Soft → Trace → State → List Reckoning
terms_reckoned q [] xs last = []
terms_reckoned q (s ∷ ss) xs last = term_reckoned q s xs last ++ terms_reckoned (q +ℚ soft_cost s xs last) ss xs last

-- the cost but for the soft terms, at a total time and some fluents
abbrev pub base_of : Metric → ℚ → (ℕ → ℚ) → ℚ
base_of m total fluents = m.constant +ℚ m.last *ℚ total +ℚ value m.fluents fluents

abbrev pub base_reckoned : Metric → ℚ → (ℕ → ℚ) → List Reckoning
base_reckoned m total fluents = Product m.last total ∷ Sum m.constant (m.last *ℚ total) ∷ Value m.fluents fluents
    ∷ Sum (m.constant +ℚ m.last *ℚ total) (value m.fluents fluents) ∷ []
