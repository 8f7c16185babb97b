-- Believed: the costs of small plans, worked out by hand.
use Rattle.std.specs.Prelude.{◌≡◌, List, [], ◌∷◌, Some, None, negsuc}
use Rattle.rational.specs.Rational.{ℚ, ratio}
use Rattle.task_types.specs.declared.constraints.TrailKind.TheVariants.{Within}
use Rattle.task_types.specs.declared.costs.Piece.{Piece}
use Rattle.task_types.specs.declared.costs.Soft.TheVariants as soft
use Rattle.task_types.specs.Trace.{trace, first_state}
use Rattle.task_types.specs.Cost.{cost}
use Rattle.task_types.specs.Examples.{n, linear, lasting, once, tank, fill, small, gate, passing, meters, work, given, done, trail, late}

abbrev pub piece : ℚ → ℚ → ℚ → Piece
piece until from to = record { until = until; from = from; to = to }

-- 0 up to 2, evenly from 1 to 5 up to 6, then 8 up to 9
abbrev pub three_pieces : List Piece
three_pieces = piece (n 2) (n 0) (n 0) ∷ piece (n 6) (n 1) (n 5) ∷ piece (n 9) (n 8) (n 8) ∷ []

pub record CostsComeOut : Type 0 where
  -- the last plan step counts, and no timed step
  pub full_cost : cost (tank (n 0)) fill ≡ n 5
  pub its_end : cost gate (passing (n 5)) ≡ n 9
  -- an amount by the duration, and assignments one after the other
  pub by_duration : cost small (once 1 (n 1) 1 ∷ lasting 2 (n 2) (n 3) 2 ∷ []) ≡ n 8
  pub in_turn : cost small (once 1 (n 1) 1 ∷ once 1 (n 2) 2 ∷ []) ≡ n 7
  -- time costs in three numbers: at the end of the rise, within it, never, from the first, the first of two times
  pub at_hard : cost (work (n 6) (soft.Late done late (n 1) ∷ [])) (lasting 0 (n 0) (n 6) 1 ∷ []) ≡ n 8
  pub between : cost (work (n 5) (soft.Late done late (n 1) ∷ [])) (lasting 0 (n 0) (n 5) 1 ∷ []) ≡ n 6
  pub never : cost (work (n 5) (soft.Late done late (n 2) ∷ [])) [] ≡ n 16
  pub from_the_first : cost (given (soft.Late done late (n 2) ∷ [])) [] ≡ n 0
  pub the_first_counts : cost (work (n 5) (soft.Late done late (n 2) ∷ [])) (lasting 0 (n 0) (n 5) 1 ∷ lasting 0 (n 10) (n 5) 2 ∷ []) ≡ n 12
  -- time costs in pieces: at the end of a piece, past them all, never, at 0 and before
  pub in_pieces : cost (work (n 6) (soft.Pieces done three_pieces (n 1) ∷ [])) (lasting 0 (n 0) (n 6) 1 ∷ []) ≡ n 5
  pub past_all : cost (work (n 10) (soft.Pieces done three_pieces (n 1) ∷ [])) (lasting 0 (n 0) (n 10) 1 ∷ []) ≡ n 8
  pub never_in_pieces : cost (work (n 10) (soft.Pieces done three_pieces (n 2) ∷ [])) [] ≡ n 16
  pub at_zero : cost (given (soft.Pieces done (piece (n 6) (n 1) (n 5) ∷ []) (n 2) ∷ [])) [] ≡ n 2
  pub below_zero : cost (work (n 1) (soft.Pieces done (piece (n 6) (n 1) (n 5) ∷ []) (n 2) ∷ [])) (lasting 0 (ratio (negsuc 5) 1) (n 1) 1 ∷ []) ≡ n 2
  -- preferences: two instances of one, one of a constraint, one with a comparison that fails
  pub twice : cost (work (n 5) (soft.Goal done [] (n 2) ∷ soft.Goal done [] (n 2) ∷ [])) [] ≡ n 4
  pub violated : cost (work (n 5) (soft.Trail (trail Within done (n 4)) (n 3) ∷ [])) (lasting 0 (n 0) (n 5) 1 ∷ []) ≡ n 3
  pub violated_by_nothing : cost (work (n 5) (soft.Trail (trail Within done (n 4)) (n 3) ∷ [])) [] ≡ n 3
  pub just_in_time : cost (work (n 5) (soft.Trail (trail Within done (n 5)) (n 3) ∷ [])) (lasting 0 (n 0) (n 5) 1 ∷ []) ≡ n 0
  pub too_dear : cost (record meters { soft = soft.Goal done (linear (n 3) ((0, ratio (negsuc 0) 1) ∷ []) ∷ []) (n 1) ∷ [] }) (once 0 (n 0) 1 ∷ once 1 (n 0) 2 ∷ []) ≡ n 5
  -- the first state of a formula
  pub first_done : first_state done (trace (work (n 5) []) (lasting 0 (n 0) (n 5) 1 ∷ [])) ≡ Some 2
  pub never_done : first_state done (trace (work (n 5) []) []) ≡ None
