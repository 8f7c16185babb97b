use Rattle.std.proofs.Common.{[], take}
use Rattle.plan_validator.specs.Following.{AreFollowing}
use Rattle.plan_validator.proofs.following.follow_all.Given as goal

abbrev pub invariant-loop-trail : goal.invariant-loop-trail
invariant-loop-trail l = AreFollowing (take l.trail-index l.hard) l.automata.items []
