use Rattle.ordered_course.proofs.Watching.{held_before, held_after}
use Rattle.ordered_course.proofs.laws.held_between.Goals as goal

pub returns : goal.returns
returns c = record {
  before_each = λ task plan form xs mid ys from to t h. held_before task plan form xs mid ys from to h.tells h.left h.first h.second h.here h.there t;
  after_each = λ task plan form xs mid ys from to t h. held_after task plan form xs mid ys from to h.tells h.left h.first h.second h.here h.there t;
}
