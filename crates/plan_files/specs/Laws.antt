-- Believed: lines and texts have one meaning, and small lines cut by hand.
use Rattle.std.specs.Prelude.{ℕ, ◌≡◌, List, [], ◌∷◌, codes}
use Rattle.task_types.specs.declared.parts.TaskParts.{TaskParts}
use Rattle.task_types.specs.Order.{Order}
use Rattle.task_types.specs.Plan.{Plan}
use Rattle.plan_files.specs.declared.faults.LineKind.{LineKind}
use Rattle.plan_files.specs.Lines.{written_lines}
use Rattle.plan_files.specs.Tokens.{tokens}
use Rattle.plan_files.specs.PlanWords.{PlanWords, Says}
use Rattle.plan_files.specs.PlanFiles.{IsPlanFile, IsRefusedAt}
use Rattle.plan_files.specs.OrderFiles.{IsOrderFile, IsOrderRefusedAt}

-- A line is made of one list of words at most.
abbrev pub WordsAreOne : Type 0
WordsAreOne = (line : List ℕ) (v w : PlanWords) → Says line v → Says line w → v ≡ w

-- A text stands for one plan of a task at most, is refused in one way at most, and not both.
pub record PlanFilesAreOne : Type 0 where
  pub plans : (task : TaskParts) (text : List ℕ) (p q : Plan) → IsPlanFile task text p → IsPlanFile task text q → p ≡ q
  pub refusals : (task : TaskParts) (text : List ℕ) (f g : ℕ × LineKind) → IsRefusedAt task text f → IsRefusedAt task text g → f ≡ g
  pub either : (task : TaskParts) (text : List ℕ) (p : Plan) (f : ℕ × LineKind) → IsPlanFile task text p → ¬ IsRefusedAt task text f

-- A text stands for one ordering of a task at most, is refused in one way at most, and not both.
pub record OrderFilesAreOne : Type 0 where
  pub orders : (task : TaskParts) (text : List ℕ) (o p : Order) → IsOrderFile task text o → IsOrderFile task text p → o ≡ p
  pub refusals : (task : TaskParts) (text : List ℕ) (f g : ℕ × LineKind) → IsOrderRefusedAt task text f → IsOrderRefusedAt task text g → f ≡ g
  pub either : (task : TaskParts) (text : List ℕ) (o : Order) (f : ℕ × LineKind) → IsOrderFile task text o → ¬ IsOrderRefusedAt task text f

pub record LinesComeOut : Type 0 where
  -- blanks may stand anywhere between tokens, or nowhere
  pub spread : tokens (codes " 1 : ( go a ) [ 2 ] ") ≡ codes "1" ∷ codes ":" ∷ codes "(" ∷ codes "go" ∷ codes "a" ∷ codes ")" ∷ codes "[" ∷ codes "2" ∷ codes "]" ∷ []
  pub tight : tokens (codes "1:(go a)[2]") ≡ codes "1" ∷ codes ":" ∷ codes "(" ∷ codes "go" ∷ codes "a" ∷ codes ")" ∷ codes "[" ∷ codes "2" ∷ codes "]" ∷ []
  pub nothing : tokens (codes "  ") ≡ []
  -- a comment begins with a semicolon, and blank lines are counted
  pub written : written_lines (codes "a\n ;b\nc;d") ≡ (1, codes "a") ∷ (3, codes "c") ∷ []
