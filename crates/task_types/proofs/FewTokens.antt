-- A well made task has fewer than 2^32 tokens.
use Rattle.std.proofs.Common.{◌≡◌, ℕ, suc, ◌+◌, ◌*◌, ◌^◌, ◌<◌, ◌≤◌, Bool, true, false, cond, List, [], ◌∷◌, ◌++◌, length, map, arith, length-append}
use Rattle.std.specs.Prelude.{nat_le, is_some}
use Rattle.std.specs.List.{list_all, filter, flat_map, enumerate_from}
use Rattle.std.proofs.lemmas.Bool.Decides.{nat_tests}
use Rattle.std.proofs.lemmas.List.{length-map}
use Rattle.std.proofs.lemmas.List.FromFn.{length-range_with_len, length-enumerate_from}
use Rattle.task_types.specs.declared.actions.Action.{Action}
use Rattle.task_types.specs.declared.parts.TaskParts.{TaskParts}
use Rattle.task_types.specs.declared.tokens.Token.TheVariants as token
use Rattle.task_types.specs.Sets.{is_in, are_several, numbers}
use Rattle.task_types.specs.Clash.{form_fluents}
use Rattle.task_types.specs.Touch.{tokens, comparison_tokens, tracked_fluents, trail_facts, soft_facts}
use Rattle.task_types.specs.WellMade.{IsWellMade, is_short, action_fits}
use Rattle.basics.proofs.Bools.{and_left, and_right}
use Rattle.basics.proofs.Naturals.{le_out}
use Rattle.basics.proofs.Lists.{filter-shorter}

watches_few : (task : TaskParts) (a : ℕ) (action : Action) → action_fits task action ≡ true → length (comparison_tokens a action) ≤ 8
watches_few task a action h =
    omega (arith, length-map (filter (λ form. are_several (form_fluents form)) action.over_all.comparisons) (λ form. token.Comparison a (form_fluents form)), filter-shorter (λ form. are_several (form_fluents form)) action.over_all.comparisons, le_out (length action.over_all.comparisons) 8 (and_right _ _ h))

comparisons_few : (task : TaskParts) (n : ℕ) (actions : List Action) → list_all (action_fits task) actions ≡ true → length (flat_map (λ a. comparison_tokens a.0 a.1) (enumerate_from n actions)) ≤ 8 * length actions
comparisons_few task n [] h = omega arith
comparisons_few task n (a ∷ as_) h =
    omega (arith, length-append (comparison_tokens n a) (flat_map (λ a. comparison_tokens a.0 a.1) (enumerate_from (n + 1) as_)), watches_few task n a (and_left (action_fits task a) (list_all (action_fits task) as_) h), comparisons_few task (n + 1) as_ (and_right (action_fits task a) (list_all (action_fits task) as_) h))

short_out : {X : Type 0} (xs : List X) → is_short xs ≡ true → length xs ≤ 1048576
short_out xs h = le_out (length xs) 1048576 h

pub few_tokens : (task : TaskParts) → IsWellMade task → length (tokens task) < 2 ^ 32
unfolding tokens
few_tokens task w = omega (
  arith,
  short_out task.facts (and_left (is_short task.facts) _ w.facts),
  short_out task.fluents (and_left (is_short task.fluents) _ w.fluents),
  short_out task.actions (and_left (is_short task.actions) (list_all (action_fits task) task.actions) w.actions),
  le_out (length task.hard + length task.soft) 512 (and_left _ _ (and_left _ _ w.terms)),
  length-append (map token.Fact (numbers (length task.facts)) ++ map token.Fluent (filter (λ f. is_in f (tracked_fluents task)) (numbers (length task.fluents))) ++ flat_map (λ a. comparison_tokens a.0 a.1) (enumerate_from 0 task.actions) ++ map token.Formulas (filter are_several (map trail_facts task.hard ++ map soft_facts task.soft))) (map (λ a. token.Action a.0) (filter (λ a. is_some a.1.end) (enumerate_from 0 task.actions))),
  length-append (map token.Fact (numbers (length task.facts)) ++ map token.Fluent (filter (λ f. is_in f (tracked_fluents task)) (numbers (length task.fluents))) ++ flat_map (λ a. comparison_tokens a.0 a.1) (enumerate_from 0 task.actions)) (map token.Formulas (filter are_several (map trail_facts task.hard ++ map soft_facts task.soft))),
  length-append (map token.Fact (numbers (length task.facts)) ++ map token.Fluent (filter (λ f. is_in f (tracked_fluents task)) (numbers (length task.fluents)))) (flat_map (λ a. comparison_tokens a.0 a.1) (enumerate_from 0 task.actions)),
  length-append (map token.Fact (numbers (length task.facts))) (map token.Fluent (filter (λ f. is_in f (tracked_fluents task)) (numbers (length task.fluents)))),
  length-map (numbers (length task.facts)) token.Fact,
  length-range_with_len 0 (length task.facts),
  length-map (filter (λ f. is_in f (tracked_fluents task)) (numbers (length task.fluents))) token.Fluent,
  filter-shorter (λ f. is_in f (tracked_fluents task)) (numbers (length task.fluents)),
  length-range_with_len 0 (length task.fluents),
  comparisons_few task 0 task.actions (and_right (is_short task.actions) (list_all (action_fits task) task.actions) w.actions),
  length-map (filter are_several (map trail_facts task.hard ++ map soft_facts task.soft)) token.Formulas,
  filter-shorter are_several (map trail_facts task.hard ++ map soft_facts task.soft),
  length-append (map trail_facts task.hard) (map soft_facts task.soft),
  length-map task.hard trail_facts,
  length-map task.soft soft_facts,
  length-map (filter (λ a. is_some a.1.end) (enumerate_from 0 task.actions)) (λ a. token.Action a.0),
  filter-shorter (λ a. is_some a.1.end) (enumerate_from 0 task.actions),
  length-enumerate_from 0 task.actions,
)
