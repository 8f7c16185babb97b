use Rattle.task_types.proofs.ExampleTasks.{names_are_refused, schemas_are_refused, long_lists_are_refused, facts_and_fluents_are_refused, actions_are_refused, snaps_are_refused, numbers_are_refused, timed_steps_are_refused, goals_are_refused, terms_are_refused, pieces_are_refused, metrics_are_refused}
use Rattle.task_types.proofs.laws.broken_tasks_are_refused.Goals as goal

pub returns : goal.returns
returns c = record {
  names = names_are_refused;
  schemas = schemas_are_refused;
  long_lists = long_lists_are_refused;
  facts = facts_and_fluents_are_refused;
  actions = actions_are_refused;
  snaps = snaps_are_refused;
  numbers = numbers_are_refused;
  timed = timed_steps_are_refused;
  goals = goals_are_refused;
  terms = terms_are_refused;
  pieces = pieces_are_refused;
  metrics = metrics_are_refused;
}
