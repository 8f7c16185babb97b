use Rattle.std.proofs.Common.{◌≡◌, sym, ap, subst, ◌∙◌, List, ◌++◌, OnOk}
use Rattle.std.proofs.lemmas.List.{append-nil}
use Rattle.pddl_terms.specs.declared.files.InitEntry.{InitEntry}
use Rattle.ground_world.specs.Shown.{world_of}
use Rattle.grounder.specs.Task.{Timing, timing}
use Rattle.grounder.specs.ShownTimings.{timings_of}
use Rattle.grounder.proofs.timings.push_entry.Goals as goal

pub returns-in-Timed : goal.returns-in-Timed
returns-in-Timed c =
    subst (λ (l : List Timing). OnOk c.push_literal.result (timings_of c.push_literal.new.out ≡ timings_of c.args.out.now ++ l))
    (ap (timing (world_of c.args.tables.now)) (sym c.in-Timed.is)) c.push_literal.ensures

pub returns-in-Holds : goal.returns-in-Holds
returns-in-Holds c =
    sym (append-nil (timings_of c.args.out.now))
    ∙ ap (λ (e : InitEntry). timings_of c.args.out.now ++ timing (world_of c.args.tables.now) e) (sym c.in-Holds.is)

pub returns-in-Not : goal.returns-in-Not
returns-in-Not c =
    sym (append-nil (timings_of c.args.out.now))
    ∙ ap (λ (e : InitEntry). timings_of c.args.out.now ++ timing (world_of c.args.tables.now) e) (sym c.in-Not.is)

pub returns-in-Value : goal.returns-in-Value
returns-in-Value c =
    sym (append-nil (timings_of c.args.out.now))
    ∙ ap (λ (e : InitEntry). timings_of c.args.out.now ++ timing (world_of c.args.tables.now) e) (sym c.in-Value.is)

pub returns-in-LeftOut : goal.returns-in-LeftOut
returns-in-LeftOut c =
    sym (append-nil (timings_of c.args.out.now))
    ∙ ap (λ (e : InitEntry). timings_of c.args.out.now ++ timing (world_of c.args.tables.now) e) (sym c.in-LeftOut.is)
