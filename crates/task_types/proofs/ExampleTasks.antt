-- Small tasks are well made, and tasks broken in one place aren't.
use Rattle.std.proofs.Common.{◌≡◌, refl, ◌∙◌, ℕ, zero, suc, Bool, true, false, []}
use Rattle.std.specs.Prelude.{replicate}
use Rattle.std.specs.List.{list_all}
use Rattle.rational.specs.Gcd.{gcd}
use Rattle.rational.specs.Rational.{ratio, whole, cmp_ℚ}
use Rattle.basics.proofs.Bools.{and_in}
use Rattle.task_types.specs.declared.costs.Soft.TheVariants as soft
use Rattle.task_types.specs.WellMade.{soft_fits}
use Rattle.task_types.specs.Examples.{n, done}
use Rattle.task_types.specs.ExampleTasks.{plain, TasksAreWellMade, LimitsAreReached, NamesAreRefused, SchemasAreRefused, LongListsAreRefused, FactsAndFluentsAreRefused, ActionsAreRefused, SnapsAreRefused, NumbersAreRefused, TimedStepsAreRefused, GoalsAreRefused, TermsAreRefused, PiecesAreRefused, MetricsAreRefused}
use Rattle.task_types.proofs.FormulaParts.{tree_fits-is}

-- a test that fails doesn't pass
pub no : false ≡ true → ⊥
no e = cc

pub well_made : TasksAreWellMade
unfolding gcd ratio whole cmp_ℚ
well_made = record {
  tank = record { objects = refl; schemas = refl; facts = refl; fluents = refl; actions = refl; snaps = refl; numbered = refl; timed = refl; goal = refl; terms = refl; metric = refl };
  flags = record { objects = refl; schemas = refl; facts = refl; fluents = refl; actions = refl; snaps = refl; numbered = refl; timed = refl; goal = refl; terms = refl; metric = refl };
  meters = record { objects = refl; schemas = refl; facts = refl; fluents = refl; actions = refl; snaps = refl; numbered = refl; timed = refl; goal = refl; terms = refl; metric = refl };
  pair_watch = record { objects = refl; schemas = refl; facts = refl; fluents = refl; actions = refl; snaps = refl; numbered = refl; timed = refl; goal = refl; terms = refl; metric = refl };
  gate = record { objects = refl; schemas = refl; facts = refl; fluents = refl; actions = refl; snaps = refl; numbered = refl; timed = refl; goal = refl; terms = refl; metric = refl };
  charge = record { objects = refl; schemas = refl; facts = refl; fluents = refl; actions = refl; snaps = refl; numbered = refl; timed = refl; goal = refl; terms = refl; metric = refl };
  small = record { objects = refl; schemas = refl; facts = refl; fluents = refl; actions = refl; snaps = refl; numbered = refl; timed = refl; goal = refl; terms = refl; metric = refl };
  puts = record { objects = refl; schemas = refl; facts = refl; fluents = refl; actions = refl; snaps = refl; numbered = refl; timed = refl; goal = refl; terms = refl; metric = refl };
  plain = record { objects = refl; schemas = refl; facts = refl; fluents = refl; actions = refl; snaps = refl; numbered = refl; timed = refl; goal = refl; terms = refl; metric = refl };
}

-- copies of what passes pass
copies_pass : {X : Type 0} (p : X → Bool) (x : X) → p x ≡ true → (k : ℕ) → list_all p (replicate k x) ≡ true
copies_pass p x h zero = refl
copies_pass p x h (suc k) = and_in (p x) (list_all p (replicate k x)) h (copies_pass p x h k)

preference_fits : soft_fits (record plain { soft = replicate 512 (soft.Goal done [] (n 1)) }) (soft.Goal done [] (n 1)) ≡ true
unfolding gcd ratio whole cmp_ℚ
preference_fits = simp tree_fits-is

pub limits_reached : LimitsAreReached
unfolding gcd ratio whole cmp_ℚ
limits_reached = record {
  longest_name = record { objects = refl; schemas = refl; facts = refl; fluents = refl; actions = refl; snaps = refl; numbered = refl; timed = refl; goal = refl; terms = refl; metric = refl };
  each_byte = record { objects = refl; schemas = refl; facts = refl; fluents = refl; actions = refl; snaps = refl; numbered = refl; timed = refl; goal = refl; terms = refl; metric = refl };
  timed_steps = record { objects = refl; schemas = refl; facts = refl; fluents = refl; actions = refl; snaps = refl; numbered = refl; timed = refl; goal = refl; terms = refl; metric = refl };
  comparisons = record { objects = refl; schemas = refl; facts = refl; fluents = refl; actions = refl; snaps = refl; numbered = refl; timed = refl; goal = refl; terms = refl; metric = refl };
  sixteen_pieces = record { objects = refl; schemas = refl; facts = refl; fluents = refl; actions = refl; snaps = refl; numbered = refl; timed = refl; goal = refl; terms = simp tree_fits-is; metric = refl };
  no_weight = record { objects = refl; schemas = refl; facts = refl; fluents = refl; actions = refl; snaps = refl; numbered = refl; timed = refl; goal = refl; terms = simp tree_fits-is; metric = refl };
  terms = record { objects = refl; schemas = refl; facts = refl; fluents = refl; actions = refl; snaps = refl; numbered = refl; timed = refl; goal = refl; terms = copies_pass (soft_fits (record plain { soft = replicate 512 (soft.Goal done [] (n 1)) })) (soft.Goal done [] (n 1)) preference_fits 512; metric = refl };
  facts = λ many e h. record { objects = refl; schemas = refl; facts = rw e h; fluents = refl; actions = refl; snaps = rw e refl; numbered = refl; timed = refl; goal = refl; terms = refl; metric = refl };
}

pub names_are_refused : NamesAreRefused
unfolding gcd ratio whole cmp_ℚ
names_are_refused = record {
  twice = λ w. no w.objects;
  upper_case = λ w. no w.objects;
  digit_first = λ w. no w.objects;
  empty = λ w. no w.objects;
  too_long = λ w. no w.objects;
  point = λ w. no w.objects;
}

pub schemas_are_refused : SchemasAreRefused
unfolding gcd ratio whole cmp_ℚ
schemas_are_refused = record {
  twice = λ w. no w.schemas;
  upper_case = λ w. no w.schemas;
  unknown_object = λ w. no w.schemas;
  missing = λ w. no w.actions;
  other_kind = λ w. no w.actions;
  no_argument = λ w. no w.actions;
  two_arguments = λ w. no w.actions;
  other_argument = λ w. no w.actions;
}

pub long_lists_are_refused : LongListsAreRefused
unfolding gcd ratio whole cmp_ℚ
long_lists_are_refused = record {
  objects = λ many e w. no (rw e at w.objects);
  schemas = λ many e w. no (rw e at w.schemas);
  facts = λ many e w. no (rw e at w.facts);
  fluents = λ many e w. no (rw e at w.fluents);
  actions = λ many e w. no (rw e at w.actions);
  snaps = λ many e w. no (rw e at w.snaps);
}

pub facts_and_fluents_are_refused : FactsAndFluentsAreRefused
unfolding gcd ratio whole cmp_ℚ
facts_and_fluents_are_refused = record {
  fact_of_no_object = λ w. no w.facts;
  fluent_of_no_object = λ w. no w.fluents;
}

pub actions_are_refused : ActionsAreRefused
unfolding gcd ratio whole cmp_ℚ
actions_are_refused = record {
  bound = λ w. no w.actions;
  over_all_fact = λ w. no w.actions;
  over_all_fluent = λ w. no w.actions;
  nine_comparisons = λ w. no w.actions;
}

pub snaps_are_refused : SnapsAreRefused
unfolding gcd ratio whole cmp_ℚ
snaps_are_refused = record {
  condition_fact = λ w. no w.snaps;
  condition_fluent = λ w. no w.snaps;
  added = λ w. no w.snaps;
  deleted = λ w. no w.snaps;
  assigned = λ w. no w.snaps;
  raised = λ w. no w.snaps;
  assigned_by = λ w. no w.snaps;
  raised_by = λ w. no w.snaps;
  assigned_twice = λ w. no w.snaps;
  by_no_duration = λ w. no w.snaps;
  rate_fluent = λ w. no w.snaps;
  rate_at_end = λ w. no w.snaps;
  rate_at_once = λ w. no w.snaps;
}

pub numbers_are_refused : NumbersAreRefused
unfolding gcd ratio whole cmp_ℚ
numbers_are_refused = record {
  start = λ w. no w.numbered;
  end = λ w. no w.numbered;
  of_other_action = λ w. no w.numbered;
  of_no_action = λ w. no w.numbered;
  wrong_kind = λ w. no w.numbered;
  spare = λ w. no w.numbered;
}

pub timed_steps_are_refused : TimedStepsAreRefused
unfolding gcd ratio whole cmp_ℚ
timed_steps_are_refused = record {
  with_action = λ w. no w.timed;
  with_condition = λ w. no w.snaps;
  with_comparison = λ w. no w.snaps;
  assigning = λ w. no w.snaps;
  raising = λ w. no w.snaps;
  no_timed_kind = λ w. no w.timed;
  at_zero = λ w. no w.timed;
  twice = λ w. no w.timed;
  falling = λ w. no w.timed;
  out_of_order = λ w. no w.timed;
  too_many = λ w. no w.timed;
}

pub goals_are_refused : GoalsAreRefused
unfolding gcd ratio whole cmp_ℚ
goals_are_refused = record {
  fact = λ w. no w.goal;
  fluent = λ w. no w.goal;
}

pub terms_are_refused : TermsAreRefused
unfolding gcd ratio whole cmp_ℚ
terms_are_refused = record {
  first = λ w. no (simp tree_fits-is at w.terms);
  second = λ w. no (simp tree_fits-is at w.terms);
  preference = λ w. no (simp tree_fits-is at w.terms);
  second_of_preference = λ w. no (simp tree_fits-is at w.terms);
  goal_preference = λ w. no (simp tree_fits-is at w.terms);
  its_comparison = λ w. no (simp tree_fits-is at w.terms);
  time_cost = λ w. no (simp tree_fits-is at w.terms);
  cost_in_pieces = λ w. no (simp tree_fits-is at w.terms);
  too_many = λ w. no w.terms;
  weight_of_trail = λ w. no (simp tree_fits-is at w.terms);
  weight_of_goal = λ w. no (simp tree_fits-is at w.terms);
  weight_of_time_cost = λ w. no (simp tree_fits-is at w.terms);
  weight_of_pieces = λ w. no (simp tree_fits-is at w.terms);
  top = λ w. no (simp tree_fits-is at w.terms);
  soft_below_zero = λ w. no (simp tree_fits-is at w.terms);
  no_rise = λ w. no (simp tree_fits-is at w.terms);
}

pub pieces_are_refused : PiecesAreRefused
unfolding gcd ratio whole cmp_ℚ
pieces_are_refused = record {
  none = λ w. no (simp tree_fits-is at w.terms);
  seventeen = λ w. no (simp tree_fits-is at w.terms);
  ends_at_zero = λ w. no (simp tree_fits-is at w.terms);
  ends_twice = λ w. no (simp tree_fits-is at w.terms);
  falls = λ w. no (simp tree_fits-is at w.terms);
  below_zero = λ w. no (simp tree_fits-is at w.terms);
  falls_between = λ w. no (simp tree_fits-is at w.terms);
}

pub metrics_are_refused : MetricsAreRefused
unfolding gcd ratio whole cmp_ℚ
metrics_are_refused = record {
  last = λ w. no w.metric;
  fluent = λ w. no w.metric;
  constant = λ w. no w.metric;
}
