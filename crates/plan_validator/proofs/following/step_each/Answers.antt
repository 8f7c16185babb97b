use Rattle.std.proofs.Common.{sym, ap, subst, [], ◌∷◌, ◌++◌, ◌<◌, ◌-◌, ◌^◌, length, add-one, arith}
use Rattle.std.specs.Prelude.{slice_index_or, slice_set}
use Rattle.task_types.specs.Touch.{trail_facts}
use Rattle.trajectory.specs.Facts.{AreCovered, moment_of}
use Rattle.trajectory.specs.Following.{constraint_of, states_taken}
use Rattle.plan_validator.specs.Following.{HaveFollowed}
use Rattle.plan_validator.proofs.Followers.{followed-next, followed-all, follows-on, each-there, each-rest}
use Rattle.plan_validator.proofs.following.step_each.Goals as goal

pub loop-i-init : goal.loop-i-init
loop-i-init c = record { followed = λ hard states time f. f; covered = c.requires.covered; room = c.requires.room }

pub step-requires-clause-covered : goal.step-requires-clause-covered
step-requires-clause-covered c = let h : c.loop-i.i < length c.loop-i.automata = omega arith in
    each-there (λ a. AreCovered (trail_facts (constraint_of a)) c.args.facts.now) c.loop-i.automata c.loop-i.i c.index-automata-i.result h c.loop-i.invariant.covered

pub step-requires-clause-room : goal.step-requires-clause-room
step-requires-clause-room c = let h : c.loop-i.i < length c.loop-i.automata = omega arith in
    each-there (λ a. states_taken a < 2 ^ 32 - 1) c.loop-i.automata c.loop-i.i c.index-automata-i.result h c.loop-i.invariant.room

pub loop-i-preserved : goal.loop-i-preserved
loop-i-preserved c = let h : c.loop-i.i < length c.loop-i.automata = omega arith in
    let a = slice_index_or c.loop-i.automata c.loop-i.i c.index-automata-i.result in
    record {
      followed = λ hard states time f. subst (λ n. HaveFollowed n hard (slice_set c.loop-i.automata c.loop-i.i c.step.new.self) (states ++ moment_of c.args.facts.now time ∷ []) states) (sym (add-one c.loop-i.i))
          (followed-next a c.step.new.self (states ++ moment_of c.args.facts.now time ∷ []) states
          (λ t g. follows-on t a c.step.new.self states (moment_of c.args.facts.now time) c.step.ensures.constraint c.step.ensures.taken (c.step.ensures.follows states time) g)
          c.loop-i.i hard c.loop-i.automata h (ap (slice_index_or c.loop-i.automata c.loop-i.i) c.index-automata-i.is) (c.loop-i.invariant.followed hard states time f));
      covered = each-rest (λ a. AreCovered (trail_facts (constraint_of a)) c.args.facts.now) c.loop-i.automata c.loop-i.i c.index-automata-i.result c.step.new.self h c.loop-i.invariant.covered;
      room = each-rest (λ a. states_taken a < 2 ^ 32 - 1) c.loop-i.automata c.loop-i.i c.index-automata-i.result c.step.new.self h c.loop-i.invariant.room;
    }

pub returns : goal.returns
returns c = λ hard states time f. followed-all (states ++ moment_of c.args.facts.now time ∷ []) states c.loop-i.i hard c.loop-i.automata (omega arith) (c.loop-i.invariant.followed hard states time f)
