-- Believed: the soft terms of an ordering: what each costs whatever the times are, or in which ways it can be decided,
-- with the rows and the amount of each way.
use Rattle.std.specs.Prelude.{ℕ, zero, suc, ◌+◌, Bool, not, ◌&&◌, ◌||◌, if◌then◌else◌, IsTrue, List, [], ◌∷◌, map, length, take, Option, Some, None}
use Rattle.std.specs.List.{list_all, find}
use Rattle.rational.specs.Rational.{ℚ, zeroℚ, oneℚ, neg_ℚ, inverse, ◌*ℚ◌, ◌-ℚ◌}
use Rattle.exact_lin.specs.Reckoning.{wide_limit}
use Rattle.exact_lin.specs.Forms.{LinearForm, Terms, with_term, CanEvaluate}
use Rattle.task_types.specs.declared.constraints.Trail.{Trail}
use Rattle.task_types.specs.declared.constraints.TrailKind.{TrailKind}
use Rattle.task_types.specs.declared.constraints.TrailKind.TheVariants.{Within}
use Rattle.task_types.specs.declared.costs.LateCost.{LateCost}
use Rattle.task_types.specs.declared.costs.Piece.{Piece}
use Rattle.task_types.specs.declared.costs.Soft.{Soft}
use Rattle.task_types.specs.declared.costs.Soft.TheVariants as soft
use Rattle.task_types.specs.declared.formulas.FactTree.{FactTree}
use Rattle.task_types.specs.declared.parts.TaskParts.{TaskParts}
use Rattle.task_types.specs.Tests.{◌≤?◌, ◌=?◌}
use Rattle.task_types.specs.Sets.{numbers}
use Rattle.task_types.specs.State.{tree_holds}
use Rattle.task_types.specs.Trace.{met}
use Rattle.task_types.specs.Cost.{last_to}
use Rattle.task_types.specs.Blocking.{facts_after, list_trace}
use Rattle.exact_lin.specs.Reckonings.{Reckoning, Sum, Product}
use Rattle.rate_ledger.specs.Sums.{FormSum, form_of, sum_at, put}
use Rattle.rate_ledger.specs.Entries.{value_end}
use Rattle.rate_ledger.specs.Reckoned.{Made, OfForm, OfNumbers}

-- a row without an origin
pub record SparseRow : Type 0 where
  pub terms : Terms
  pub bound : ℚ

-- the first of the states of the list, from the initial state on, in which a formula holds
abbrev pub first_held : TaskParts → List ℕ → FactTree → Option ℕ
first_held task steps formula = find (λ k. tree_holds formula (facts_after task (take k steps))) (numbers (suc (length steps)))

-- A soft term that the times decide: the formula of a `within` or of a time cost first holds after step k; of a
-- goal preference the formula holds in the end, and the sums are its comparisons; v is the late variable.
pub data Term : Type 0 where
  WithinTerm : (k : ℕ) (moment weight : ℚ) → Term
  GoalTerm : (sums : List FormSum) (weight : ℚ) → Term
  LateTerm : (k : ℕ) (c : LateCost) (weight : ℚ) (v : ℕ) → Term
  PiecesTerm : (k : ℕ) (ps : List Piece) (weight : ℚ) (v : ℕ) → Term

-- A soft term costs nothing, its weight, or its weight times a number, whatever the times are, or it is a term to
-- decide.
pub data Part : Type 0 where
  Nothing : Part
  Paid : (weight : ℚ) → Part
  PaidTimes : (weight factor : ℚ) → Part
  ToDecide : (term : Term) → Part

abbrev pub within_part : Trail → ℚ → Option ℕ → Part
within_part c weight None = Paid weight
within_part c weight (Some zero) = if zeroℚ ≤? c.moment then Nothing else Paid weight
within_part c weight (Some (suc k)) = ToDecide (WithinTerm k c.moment weight)

abbrev pub trail_part : TaskParts → List ℕ → TrailKind → Trail → ℚ → Part
trail_part task steps Within c weight = within_part c weight (first_held task steps c.first)
trail_part task steps kind c weight = if met c (list_trace task steps) then Nothing else Paid weight

abbrev pub goal_part : TaskParts → List ℕ → List LinearForm → ℚ → Part
goal_part task steps [] weight = Nothing
goal_part task steps (e ∷ es) weight = ToDecide (GoalTerm (map (put (value_end task steps)) (e ∷ es)) weight)

abbrev pub late_part : LateCost → ℚ → ℕ → Option ℕ → Part
late_part c weight v None = PaidTimes weight c.top
late_part c weight v (Some zero) = Nothing
late_part c weight v (Some (suc k)) = ToDecide (LateTerm k c weight v)

abbrev pub first_from : List Piece → ℚ
first_from [] = zeroℚ
first_from (p ∷ ps) = p.from

abbrev pub pieces_part : List Piece → ℚ → ℕ → Option ℕ → Part
pieces_part ps weight v None = PaidTimes weight (last_to zeroℚ ps)
pieces_part ps weight v (Some zero) = PaidTimes weight (first_from ps)
pieces_part ps weight v (Some (suc k)) = ToDecide (PiecesTerm k ps weight v)

-- v is the next late variable
abbrev pub part_of : TaskParts → List ℕ → ℕ → Soft → Part
part_of task steps v (soft.Trail c weight) = trail_part task steps c.kind c weight
part_of task steps v (soft.Goal formula forms weight) = if tree_holds formula (facts_after task steps) then goal_part task steps forms weight else Paid weight
part_of task steps v (soft.Late formula c weight) = late_part c weight v (first_held task steps formula)
part_of task steps v (soft.Pieces formula ps weight) = pieces_part ps weight v (first_held task steps formula)

abbrev pub late_weights : Part → List ℚ
late_weights Nothing = []
late_weights (Paid weight) = []
late_weights (PaidTimes weight factor) = []
late_weights (ToDecide (WithinTerm k moment weight)) = []
late_weights (ToDecide (GoalTerm sums weight)) = []
late_weights (ToDecide (LateTerm k c weight v)) = weight ∷ []
late_weights (ToDecide (PiecesTerm k ps weight v)) = weight ∷ []

-- the parts of soft terms, where v is the first late variable
abbrev pub parts : TaskParts → List ℕ → ℕ → List Soft → List Part
parts task steps v [] = []
parts task steps v (s ∷ ss) = part_of task steps v s ∷ parts task steps (v + length (late_weights (part_of task steps v s))) ss

abbrev pub terms_of_part : Part → List Term
terms_of_part Nothing = []
terms_of_part (Paid weight) = []
terms_of_part (PaidTimes weight factor) = []
terms_of_part (ToDecide term) = term ∷ []

abbrev pub paid_of_part : Part → List ℚ
paid_of_part Nothing = []
paid_of_part (Paid weight) = weight ∷ []
paid_of_part (PaidTimes weight factor) = (weight *ℚ factor) ∷ []
paid_of_part (ToDecide term) = []

abbrev pub part_reckoned : Part → List Made
part_reckoned Nothing = []
part_reckoned (Paid weight) = []
part_reckoned (PaidTimes weight factor) = OfNumbers (Product weight factor) ∷ []
part_reckoned (ToDecide term) = []

-- ---- ways

-- One way of a term: its rows, and what it adds to the base, where it adds something.
pub record WayOf : Type 0 where
  pub rows : List SparseRow
  pub amount : Option ℚ

abbrev pub soon_row : ℕ → ℚ → SparseRow
soon_row k t = record { terms = (k, oneℚ) ∷ []; bound = t }

-- the late variable is at least the slope times the time past the lower end
abbrev pub slope_row : ℕ → ℕ → ℚ → ℚ → SparseRow
slope_row k v slope lower = record { terms = with_term k slope ((v, neg_ℚ oneℚ) ∷ []); bound = slope *ℚ lower }

abbrev pub at_least_row : FormSum → SparseRow
at_least_row sum = record { terms = map (λ t. (t.0, neg_ℚ t.1)) (form_of sum).terms; bound = (form_of sum).constant }

abbrev pub late_slope : LateCost → ℚ
late_slope c = c.top *ℚ inverse (c.hard -ℚ c.soft)

abbrev pub piece_slope : ℚ → Piece → ℚ
piece_slope lower p = (p.to -ℚ p.from) *ℚ inverse (p.until -ℚ lower)

abbrev pub piece_ways : ℕ → ℕ → ℚ → ℚ → ℚ → List Piece → List WayOf
piece_ways k v weight lower last [] = record { rows = []; amount = Some (weight *ℚ last) } ∷ []
piece_ways k v weight lower last (p ∷ ps) = record { rows = soon_row k p.until ∷ slope_row k v (piece_slope lower p) lower ∷ []; amount = Some (weight *ℚ p.from) } ∷ piece_ways k v weight p.until p.to ps

unfoldable pub ways_of_term : Term → List WayOf
ways_of_term (WithinTerm k moment weight) = record { rows = soon_row k moment ∷ []; amount = None } ∷ record { rows = []; amount = Some weight } ∷ []
ways_of_term (GoalTerm sums weight) = record { rows = map at_least_row sums; amount = None } ∷ record { rows = []; amount = Some weight } ∷ []
ways_of_term (LateTerm k c weight v) = record { rows = soon_row k c.hard ∷ slope_row k v (late_slope c) c.soft ∷ []; amount = None } ∷ record { rows = []; amount = Some (weight *ℚ c.top) } ∷ []
ways_of_term (PiecesTerm k ps weight v) = piece_ways k v weight zeroℚ zeroℚ ps

abbrev pub pieces_made : ℚ → ℚ → ℚ → List Piece → List Reckoning
pieces_made weight lower last [] = Product weight last ∷ []
pieces_made weight lower last (p ∷ ps) = Sum p.until (neg_ℚ lower) ∷ Sum p.to (neg_ℚ p.from) ∷ Product (p.to -ℚ p.from) (inverse (p.until -ℚ lower)) ∷ Product (piece_slope lower p) lower ∷ Product weight p.from ∷ pieces_made weight p.until p.to ps

-- what the rows and amounts of all ways of a term reckon
abbrev pub term_reckoned : Term → List Made
term_reckoned (WithinTerm k moment weight) = []
term_reckoned (GoalTerm sums weight) = map OfForm sums
term_reckoned (LateTerm k c weight v) = map OfNumbers (Sum c.hard (neg_ℚ c.soft) ∷ Product c.top (inverse (c.hard -ℚ c.soft)) ∷ Product (late_slope c) c.soft ∷ Product weight c.top ∷ [])
term_reckoned (PiecesTerm k ps weight v) = map OfNumbers (pieces_made weight zeroℚ zeroℚ ps)

-- ---- free terms

-- the until of the last piece whose `to` is 0, or 0
abbrev pub free_until : ℚ → List Piece → ℚ
free_until found [] = found
free_until found (p ∷ ps) = free_until (if p.to =? zeroℚ then p.until else found) ps

-- A term is free at a point where it costs nothing there, whatever is decided: its weight or greatest value is 0,
-- or its moment comes soon enough, or its comparisons hold.
unfoldable pub is_free : Term → (ℕ → ℚ) → Bool
is_free (WithinTerm k moment weight) x = (weight =? zeroℚ) || (x k ≤? moment)
is_free (GoalTerm sums weight) x = (weight =? zeroℚ) || list_all (λ sum. zeroℚ ≤? sum_at sum x) sums
is_free (LateTerm k c weight v) x = (weight =? zeroℚ) || (c.top =? zeroℚ) || (x k ≤? c.soft)
is_free (PiecesTerm k ps weight v) x = (weight =? zeroℚ) || (last_to zeroℚ ps =? zeroℚ) || ((first_from ps =? zeroℚ) && (x k ≤? free_until zeroℚ ps))

-- the comparisons are evaluated one by one, up to the first below 0
abbrev pub CanTellSums : List FormSum → (ℕ → ℚ) → Type 0
CanTellSums [] x = Unit {0}
CanTellSums (sum ∷ sums) x = CanEvaluate wide_limit (form_of sum) x × (IsTrue (zeroℚ ≤? sum_at sum x) → CanTellSums sums x)

abbrev pub CanTell : Term → (ℕ → ℚ) → Type 0
CanTell (WithinTerm k moment weight) x = Unit {0}
CanTell (GoalTerm sums weight) x = IsTrue (not (weight =? zeroℚ)) → CanTellSums sums x
CanTell (LateTerm k c weight v) x = Unit {0}
CanTell (PiecesTerm k ps weight v) x = Unit {0}
