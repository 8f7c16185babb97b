use Rattle.ordered_course.proofs.Blocked.{no_valid_times}
use Rattle.ordered_course.proofs.laws.blocked_is_sound.Goals as goal

pub returns : goal.returns
returns c = λ task rules o times b w p e v. no_valid_times task rules o times w p v b e
