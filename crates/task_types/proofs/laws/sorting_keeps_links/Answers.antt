use Rattle.task_types.proofs.Sorting.{sorting_keeps_links as sorted}
use Rattle.task_types.proofs.laws.sorting_keeps_links.Goals as goal

pub returns : goal.returns
returns c = sorted
