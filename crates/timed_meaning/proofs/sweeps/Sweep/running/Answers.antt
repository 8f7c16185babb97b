use Rattle.std.proofs.Common.{◌∙◌, ap, refl, suc, subst, sym}
use Rattle.std.specs.Prelude.{IsPermutation}
use Rattle.std.specs.List.{filter}
use Rattle.task_types.specs.Course.{time_of, runs_between}
use Rattle.timed_meaning.specs.Owned.{placed_lines, lines_of}
use Rattle.timed_meaning.proofs.Onward.{running-lines, running-placed}
use Rattle.timed_meaning.proofs.sweeps.Sweep.running.Goals as goal

pub returns-clause-lines : goal.returns-clause-lines
returns-clause-lines c = λ task plan at h. ap lines_of c.as_slice.ensures.value ∙ running-lines task plan c.args.self.now.agenda at h (time_of task plan c.args.self.now.agenda.place) (time_of task plan (suc c.args.self.now.agenda.place)) refl refl

pub returns-clause-places : goal.returns-clause-places
returns-clause-places c = λ task plan at h. subst (IsPermutation (filter (λ p. runs_between (time_of task plan c.args.self.now.agenda.place) (time_of task plan (suc c.args.self.now.agenda.place)) p.line) (placed_lines plan))) (sym c.as_slice.ensures.value)
    (running-placed task plan c.args.self.now.agenda at h (time_of task plan c.args.self.now.agenda.place) (time_of task plan (suc c.args.self.now.agenda.place)) refl refl)
