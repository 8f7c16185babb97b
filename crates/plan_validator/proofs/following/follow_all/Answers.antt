use Rattle.std.proofs.Common.{sym, subst, List, [], ◌∷◌, ◌++◌, take, arith}
use Rattle.task_types.specs.declared.constraints.Trail.{Trail}
use Rattle.trajectory.specs.declared.automaton.Automaton.{Automaton}
use Rattle.plan_validator.specs.Following.{AreFollowing}
use Rattle.plan_validator.proofs.Followers.{following-put}
use Rattle.plan_validator.proofs.Loops.{take-one, whole}
use Rattle.plan_validator.proofs.following.follow_all.Goals as goal

pub loop-trail-preserved : goal.loop-trail-preserved
loop-trail-preserved c =
    let begun = c.in_ok-automaton.ensures in
    subst (λ (cs : List Trail). AreFollowing cs c.push.new.self.items []) (sym (take-one c.args.hard.now c.loop-trail.trail-index c.trail-item.result c.loop-trail-test.true c.trail-item.is))
    (subst (λ (xs : List Automaton). AreFollowing (take c.loop-trail.trail-index c.args.hard.now ++ c.trail-item.result ∷ []) xs []) (sym (c.in_ok-push.ensures {u = tt}).items)
    (following-put (take c.loop-trail.trail-index c.args.hard.now) c.loop-trail.automata.items c.trail-item.result c.in_ok-automaton.automaton [] c.loop-trail.invariant
    (record { constraint = begun.constraint; taken = begun.taken; follows = begun.follows })))

pub returns : goal.returns
returns c = subst (λ (cs : List Trail). AreFollowing cs c.loop-trail.automata.items []) (whole c.args.hard.now c.loop-trail.trail-index (omega arith)) c.loop-trail.invariant
