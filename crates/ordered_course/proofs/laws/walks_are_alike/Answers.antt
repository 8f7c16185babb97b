use Rattle.ordered_course.proofs.Stories.{walks_alike}
use Rattle.ordered_course.proofs.laws.walks_are_alike.Goals as goal

pub returns : goal.returns
returns c = walks_alike
