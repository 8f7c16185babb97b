-- Believed: which small tasks are well made, and tasks broken in one place that aren't, field by field.
use Rattle.std.specs.Prelude.{ℕ, zero, suc, ◌+◌, ◌≡◌, ◌&&◌, true, false, List, [], ◌∷◌, length, replicate, Some, negsuc, codes}
use Rattle.std.specs.List.{list_all}
use Rattle.rational.specs.Rational.{ℚ, ratio}
use Rattle.exact_lin.specs.Forms.{LinearForm}
use Rattle.task_types.specs.declared.actions.Action.{Action}
use Rattle.task_types.specs.declared.actions.Bound.{Bound}
use Rattle.task_types.specs.declared.actions.Schema.{Schema}
use Rattle.task_types.specs.declared.actions.Snap.{Snap}
use Rattle.task_types.specs.declared.conditions.Condition.{Condition}
use Rattle.task_types.specs.declared.conditions.Effect.{Effect}
use Rattle.task_types.specs.declared.constraints.Trail.{Trail}
use Rattle.task_types.specs.declared.constraints.TrailKind.TheVariants.{Always, SometimeAfter}
use Rattle.task_types.specs.declared.costs.Piece.{Piece}
use Rattle.task_types.specs.declared.costs.Soft.{Soft}
use Rattle.task_types.specs.declared.costs.Soft.TheVariants as soft
use Rattle.task_types.specs.declared.formulas.FactTree.{FactTree}
use Rattle.task_types.specs.declared.formulas.FactTree.TheVariants as tree
use Rattle.task_types.specs.declared.parts.Fact.{Fact}
use Rattle.task_types.specs.declared.parts.Fluent.{Fluent}
use Rattle.task_types.specs.declared.parts.TaskParts.{TaskParts}
use Rattle.task_types.specs.WellMade.{IsWellMade, is_short, are_below}
use Rattle.task_types.specs.Examples.{n, linear, always_true, asks, fact_holds, nothing, makes, ends_fact, just, raises, assigns_to, exactly, instant, at_start, at_end, at_once, at_moment, fluent, unset, by_time, done, trail, pair_trail, late, tank, flags, meters, pair_watch, gate, charge, small, puts}
use Rattle.task_types.specs.ExampleCosts.{piece}

-- ---- a task with something of each kind, to be broken in one place

abbrev pub run : Schema
run = record { name = codes "run"; durative = true; params = (0 ∷ 1 ∷ []) ∷ [] }

abbrev pub stop : Schema
stop = record { name = codes "stop"; durative = false; params = [] }

-- running raises f by 1 per unit of time
abbrev pub running : Action
running = record { name = codes "run"; args = 0 ∷ []; start = 0; end = Some 1; bounds = exactly (n 1); over_all = always_true }

abbrev pub stopping : Action
stopping = instant (codes "stop") 2

abbrev pub plain : TaskParts
plain = record {
  objects = codes "a" ∷ codes "b" ∷ codes "c" ∷ [];
  schemas = run ∷ stop ∷ [];
  facts = unset (codes "p") ∷ [];
  fluents = fluent (codes "f") (n 0) ∷ [];
  actions = running ∷ stopping ∷ [];
  snaps = at_start 0 ((0, n 1) ∷ []) ∷ at_end 0 nothing ∷ at_once 1 always_true nothing ∷ at_moment (makes 0) ∷ at_moment (ends_fact 0) ∷ [];
  timed = (n 5, 3) ∷ (n 6, 4) ∷ [];
  goal = always_true;
  hard = [];
  soft = [];
  metric = by_time;
}

-- with another instantaneous action, and with another start or end
abbrev pub stopping_by : Condition → Effect → TaskParts
stopping_by c e = record plain { snaps = at_start 0 ((0, n 1) ∷ []) ∷ at_end 0 nothing ∷ at_once 1 c e ∷ at_moment (makes 0) ∷ at_moment (ends_fact 0) ∷ [] }

abbrev pub with_snaps : (s e i : Snap) → TaskParts
with_snaps s e i = record plain { snaps = s ∷ e ∷ i ∷ at_moment (makes 0) ∷ at_moment (ends_fact 0) ∷ [] }

-- with another first timed step, and with other moments
abbrev pub opening_by : Snap → TaskParts
opening_by s = record plain { snaps = at_start 0 ((0, n 1) ∷ []) ∷ at_end 0 nothing ∷ at_once 1 always_true nothing ∷ s ∷ at_moment (ends_fact 0) ∷ [] }

abbrev pub at_moments : List (ℚ × ℕ) → TaskParts
at_moments moments = record plain { timed = moments }

-- with an action of other bounds or another over-all condition, or another one altogether
abbrev pub running_under : List Bound → Condition → TaskParts
running_under bounds c = record plain { actions = record running { bounds = bounds; over_all = c } ∷ stopping ∷ [] }

abbrev pub with_action : Action → TaskParts
with_action a = record plain { actions = a ∷ stopping ∷ [] }

abbrev pub with_schemas : List Schema → TaskParts
with_schemas schemas = record plain { schemas = schemas }

-- with names of objects, with a soft term, with a constraint
abbrev pub with_objects : List (List ℕ) → TaskParts
with_objects names = record plain { objects = names }

abbrev pub with_soft : Soft → TaskParts
with_soft term = record plain { soft = term ∷ [] }

abbrev pub with_hard : Trail → TaskParts
with_hard c = record plain { hard = c ∷ [] }

-- a comparison of a fluent with 0
abbrev pub reads : ℕ → LinearForm
reads f = linear (n 0) ((f, n 1) ∷ [])

abbrev pub pieces : List Piece → TaskParts
pieces ps = with_soft (soft.Pieces done ps (n 1))

-- k timed steps, one after the other
abbrev pub moments_from : ℕ → ℕ → List (ℚ × ℕ)
moments_from zero i = []
moments_from (suc k) i = (n (i + 1), i + 3) ∷ moments_from k (i + 1)

abbrev pub many_moments : ℕ → TaskParts
many_moments k = record plain {
  snaps = at_start 0 ((0, n 1) ∷ []) ∷ at_end 0 nothing ∷ at_once 1 always_true nothing ∷ replicate k (at_moment (makes 0));
  timed = moments_from k 0;
}

-- k pieces, each of which rises by 1
abbrev pub rising : ℕ → ℕ → List Piece
rising zero i = []
rising (suc k) i = piece (n (i + 1)) (n i) (n (i + 1)) ∷ rising k (i + 1)

-- fact 1, which the task doesn't have
abbrev pub unknown : FactTree
unknown = tree.Is (record { fact = 1; holds = true })

abbrev pub minus_one : ℚ
minus_one = ratio (negsuc 0) 1

-- ---- well made

pub record TasksAreWellMade : Type 0 where
  pub tank : IsWellMade (tank (n 0))
  pub flags : IsWellMade flags
  pub meters : IsWellMade meters
  pub pair_watch : IsWellMade pair_watch
  pub gate : IsWellMade gate
  pub charge : IsWellMade (charge true)
  pub small : IsWellMade small
  pub puts : IsWellMade (puts [])
  pub plain : IsWellMade plain

-- Tasks that stand just inside a limit.
pub record LimitsAreReached : Type 0 where
  -- a name of 64 bytes, and one with each kind of byte
  pub longest_name : IsWellMade (with_objects (replicate 64 97 ∷ codes "b" ∷ []))
  pub each_byte : IsWellMade (with_objects (codes "az09-_z" ∷ codes "b" ∷ []))
  -- 64 timed steps
  pub timed_steps : IsWellMade (many_moments 64)
  -- 8 comparisons over all
  pub comparisons : IsWellMade (running_under [] (asks (replicate 8 (reads 0))))
  -- 16 pieces; weights and tops of 0; a cost that begins to rise at 0
  pub sixteen_pieces : IsWellMade (pieces (rising 16 0))
  pub no_weight : IsWellMade (with_soft (soft.Late done (record { soft = n 0; hard = n 1; top = n 0 }) (n 0)))
  -- 512 terms
  pub terms : IsWellMade (record plain { soft = replicate 512 (soft.Goal done [] (n 1)) })
  -- 1,048,576 facts
  pub facts : (many : List Fact) → length many ≡ 1048576 → list_all (λ f. is_short f.name && are_below (length plain.objects) f.args) many ≡ true → IsWellMade (record plain { facts = many })

-- ---- broken

-- a name twice, in upper case, beginning with a digit, empty, of 65 bytes, with a point
pub record NamesAreRefused : Type 0 where
  pub twice : ¬ IsWellMade (with_objects (codes "a" ∷ codes "b" ∷ codes "a" ∷ []))
  pub upper_case : ¬ IsWellMade (with_objects (codes "a" ∷ codes "bC" ∷ []))
  pub digit_first : ¬ IsWellMade (with_objects (codes "a" ∷ codes "4b" ∷ []))
  pub empty : ¬ IsWellMade (with_objects (codes "a" ∷ [] ∷ []))
  pub too_long : ¬ IsWellMade (with_objects (replicate 65 97 ∷ codes "b" ∷ []))
  pub point : ¬ IsWellMade (with_objects (codes "a" ∷ codes "b.c" ∷ []))

-- schemas twice or in upper case, an object out of range; of an action: no schema, one of the other kind, too few, too
-- many or other arguments
pub record SchemasAreRefused : Type 0 where
  pub twice : ¬ IsWellMade (with_schemas (run ∷ stop ∷ run ∷ []))
  pub upper_case : ¬ IsWellMade (with_schemas (run ∷ stop ∷ record stop { name = codes "Go" } ∷ []))
  pub unknown_object : ¬ IsWellMade (with_schemas (record run { params = (0 ∷ 3 ∷ []) ∷ [] } ∷ stop ∷ []))
  pub missing : ¬ IsWellMade (with_schemas (run ∷ []))
  pub other_kind : ¬ IsWellMade (with_schemas (run ∷ record stop { durative = true } ∷ []))
  pub no_argument : ¬ IsWellMade (with_action (record running { args = [] }))
  pub two_arguments : ¬ IsWellMade (with_action (record running { args = 0 ∷ 0 ∷ [] }))
  pub other_argument : ¬ IsWellMade (with_action (record running { args = 2 ∷ [] }))

-- lists of more than 1,048,576 entries
pub record LongListsAreRefused : Type 0 where
  pub objects : (many : List (List ℕ)) → length many ≡ 1048577 → ¬ IsWellMade (with_objects many)
  pub schemas : (many : List Schema) → length many ≡ 1048577 → ¬ IsWellMade (with_schemas many)
  pub facts : (many : List Fact) → length many ≡ 1048577 → ¬ IsWellMade (record plain { facts = many })
  pub fluents : (many : List Fluent) → length many ≡ 1048577 → ¬ IsWellMade (record plain { fluents = many })
  pub actions : (many : List Action) → length many ≡ 1048577 → ¬ IsWellMade (record plain { actions = many })
  pub snaps : (many : List Snap) → length many ≡ 1048577 → ¬ IsWellMade (record plain { snaps = many })

-- facts and fluents with an argument out of range
pub record FactsAndFluentsAreRefused : Type 0 where
  pub fact_of_no_object : ¬ IsWellMade (record plain { facts = record { name = codes "p"; args = 3 ∷ []; holds = false } ∷ [] })
  pub fluent_of_no_object : ¬ IsWellMade (record plain { fluents = record { name = codes "f"; args = 3 ∷ []; value = n 0 } ∷ [] })

-- of an action: a fact or fluent out of range, nine comparisons over all
pub record ActionsAreRefused : Type 0 where
  pub bound : ¬ IsWellMade (running_under (record { at_least = true; at_end = false; form = reads 1 } ∷ []) always_true)
  pub over_all_fact : ¬ IsWellMade (running_under [] (fact_holds 1))
  pub over_all_fluent : ¬ IsWellMade (running_under [] (asks (reads 1 ∷ [])))
  pub nine_comparisons : ¬ IsWellMade (running_under [] (asks (replicate 9 (reads 0))))

-- of a snap action: a fact or fluent out of range, a fluent assigned twice, a factor of the duration at an
-- instantaneous action, rates anywhere but at a start
pub record SnapsAreRefused : Type 0 where
  pub condition_fact : ¬ IsWellMade (stopping_by (fact_holds 1) nothing)
  pub condition_fluent : ¬ IsWellMade (stopping_by (asks (reads 1 ∷ [])) nothing)
  pub added : ¬ IsWellMade (stopping_by always_true (makes 1))
  pub deleted : ¬ IsWellMade (stopping_by always_true (ends_fact 1))
  pub assigned : ¬ IsWellMade (stopping_by always_true (assigns_to 1 (n 1)))
  pub raised : ¬ IsWellMade (stopping_by always_true (raises 1 (n 1)))
  pub assigned_by : ¬ IsWellMade (stopping_by always_true (record nothing { assigns = (0, record { form = reads 1; duration = n 0 }) ∷ [] }))
  pub raised_by : ¬ IsWellMade (stopping_by always_true (record nothing { increases = (0, record { form = reads 1; duration = n 0 }) ∷ [] }))
  pub assigned_twice : ¬ IsWellMade (stopping_by always_true (record nothing { assigns = (0, just (n 1)) ∷ (0, just (n 2)) ∷ [] }))
  pub by_no_duration : ¬ IsWellMade (stopping_by always_true (record nothing { increases = (0, record { form = linear (n 0) []; duration = n 1 }) ∷ [] }))
  pub rate_fluent : ¬ IsWellMade (with_snaps (at_start 0 ((1, n 1) ∷ [])) (at_end 0 nothing) (at_once 1 always_true nothing))
  pub rate_at_end : ¬ IsWellMade (with_snaps (at_start 0 []) (record (at_end 0 nothing) { rates = (0, n 1) ∷ [] }) (at_once 1 always_true nothing))
  pub rate_at_once : ¬ IsWellMade (with_snaps (at_start 0 []) (at_end 0 nothing) (record (at_once 1 always_true nothing) { rates = (0, n 1) ∷ [] }))

-- snap actions that don't have the numbers of their actions, a spare one, a wrong kind, another action's
pub record NumbersAreRefused : Type 0 where
  pub start : ¬ IsWellMade (with_action (record running { start = 1 }))
  pub end : ¬ IsWellMade (with_action (record running { end = Some 2 }))
  pub of_other_action : ¬ IsWellMade (with_snaps (at_start 1 []) (at_end 0 nothing) (at_once 1 always_true nothing))
  pub of_no_action : ¬ IsWellMade (with_snaps (at_start 0 []) (at_end 0 nothing) (at_once 2 always_true nothing))
  pub wrong_kind : ¬ IsWellMade (with_snaps (at_end 0 nothing) (at_end 0 nothing) (at_once 1 always_true nothing))
  pub spare : ¬ IsWellMade (record plain { timed = (n 5, 3) ∷ [] })

-- timed steps that have an action, ask for something or change a fluent; moments of 0, twice or out of order; numbers
-- out of order; 65 of them
pub record TimedStepsAreRefused : Type 0 where
  pub with_action : ¬ IsWellMade (opening_by (record (at_moment (makes 0)) { action = Some 0 }))
  pub with_condition : ¬ IsWellMade (opening_by (record (at_moment (makes 0)) { condition = fact_holds 0 }))
  pub with_comparison : ¬ IsWellMade (opening_by (record (at_moment (makes 0)) { condition = asks (reads 0 ∷ []) }))
  pub assigning : ¬ IsWellMade (opening_by (at_moment (assigns_to 0 (n 1))))
  pub raising : ¬ IsWellMade (opening_by (at_moment (raises 0 (n 1))))
  pub no_timed_kind : ¬ IsWellMade (opening_by (at_once 1 always_true nothing))
  pub at_zero : ¬ IsWellMade (at_moments ((n 0, 3) ∷ (n 6, 4) ∷ []))
  pub twice : ¬ IsWellMade (at_moments ((n 5, 3) ∷ (n 5, 4) ∷ []))
  pub falling : ¬ IsWellMade (at_moments ((n 6, 3) ∷ (n 5, 4) ∷ []))
  pub out_of_order : ¬ IsWellMade (at_moments ((n 5, 4) ∷ (n 6, 3) ∷ []))
  pub too_many : ¬ IsWellMade (many_moments 65)

-- of the goal: a fact or fluent out of range
pub record GoalsAreRefused : Type 0 where
  pub fact : ¬ IsWellMade (record plain { goal = fact_holds 1 })
  pub fluent : ¬ IsWellMade (record plain { goal = asks (reads 1 ∷ []) })

-- of a constraint or soft term: a fact or fluent out of range; 513 of them; a weight or top below 0, a rise from below
-- 0 or up to no later moment
pub record TermsAreRefused : Type 0 where
  pub first : ¬ IsWellMade (with_hard (trail Always unknown (n 0)))
  pub second : ¬ IsWellMade (with_hard (pair_trail SometimeAfter done unknown))
  pub preference : ¬ IsWellMade (with_soft (soft.Trail (trail Always unknown (n 0)) (n 1)))
  pub second_of_preference : ¬ IsWellMade (with_soft (soft.Trail (pair_trail SometimeAfter done unknown) (n 1)))
  pub goal_preference : ¬ IsWellMade (with_soft (soft.Goal unknown [] (n 1)))
  pub its_comparison : ¬ IsWellMade (with_soft (soft.Goal done (reads 1 ∷ []) (n 1)))
  pub time_cost : ¬ IsWellMade (with_soft (soft.Late unknown late (n 1)))
  pub cost_in_pieces : ¬ IsWellMade (with_soft (soft.Pieces unknown (rising 1 0) (n 1)))
  pub too_many : ¬ IsWellMade (record plain { soft = replicate 513 (soft.Goal done [] (n 1)) })
  pub weight_of_trail : ¬ IsWellMade (with_soft (soft.Trail (pair_trail SometimeAfter done done) minus_one))
  pub weight_of_goal : ¬ IsWellMade (with_soft (soft.Goal done [] minus_one))
  pub weight_of_time_cost : ¬ IsWellMade (with_soft (soft.Late done late minus_one))
  pub weight_of_pieces : ¬ IsWellMade (with_soft (soft.Pieces done (rising 1 0) minus_one))
  pub top : ¬ IsWellMade (with_soft (soft.Late done (record late { top = minus_one }) (n 1)))
  pub soft_below_zero : ¬ IsWellMade (with_soft (soft.Late done (record late { soft = minus_one }) (n 1)))
  pub no_rise : ¬ IsWellMade (with_soft (soft.Late done (record late { hard = n 2 }) (n 1)))

-- no pieces, 17, an end at 0, ends out of order, a piece that falls, begins below 0 or begins below the end of the one
-- before
pub record PiecesAreRefused : Type 0 where
  pub none : ¬ IsWellMade (pieces [])
  pub seventeen : ¬ IsWellMade (pieces (rising 17 0))
  pub ends_at_zero : ¬ IsWellMade (pieces (piece (n 0) (n 0) (n 0) ∷ []))
  pub ends_twice : ¬ IsWellMade (pieces (piece (n 2) (n 0) (n 0) ∷ piece (n 2) (n 0) (n 0) ∷ []))
  pub falls : ¬ IsWellMade (pieces (piece (n 2) (n 1) (n 0) ∷ []))
  pub below_zero : ¬ IsWellMade (pieces (piece (n 2) minus_one (n 0) ∷ []))
  pub falls_between : ¬ IsWellMade (pieces (piece (n 2) (n 0) (n 3) ∷ piece (n 4) (n 2) (n 3) ∷ []))

-- of the metric: a factor below 0, a fluent out of range, a constant in the form
pub record MetricsAreRefused : Type 0 where
  pub last : ¬ IsWellMade (record plain { metric = record by_time { last = minus_one } })
  pub fluent : ¬ IsWellMade (record plain { metric = record by_time { fluents = reads 1 } })
  pub constant : ¬ IsWellMade (record plain { metric = record by_time { fluents = linear (n 1) [] } })
