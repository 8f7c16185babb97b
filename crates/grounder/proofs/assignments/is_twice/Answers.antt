use Rattle.std.proofs.Common.{sym, ap, ◌∙◌, ◌||◌, List, ℕ, [], ◌∷◌}
use Rattle.std.proofs.lemmas.List.{drop_all}
use Rattle.pddl_names.specs.Declarations.{among, with_new}
use Rattle.grounder.specs.Instances.{is_twice}
use Rattle.grounder.proofs.Twice.{met, none-met, twice-here, twice-later}
use Rattle.grounder.proofs.assignments.is_twice.Goals as goal

pub loop-fluent-init : goal.loop-fluent-init
loop-fluent-init c =
    let fs = c.args.fluents.now in
    sym (ap (λ (s : List (List ℕ)). met s fs || is_twice fs) c.new-seen.ensures ∙ ap (λ b. b || is_twice fs) (none-met fs))

pub returns-then-has : goal.returns-then-has
returns-then-has c =
    twice-here c.args.fluents.now c.loop-fluent.fluent-index c.fluent-item.result c.loop-fluent-test.true c.fluent-item.is c.loop-fluent.seen c.loop-fluent.invariant
    (ap (among c.loop-fluent.seen) (sym c.as_slice-key.ensures) ∙ sym c.has.ensures ∙ c.if-has.true)

pub loop-fluent-preserved : goal.loop-fluent-preserved
loop-fluent-preserved c =
    twice-later c.args.fluents.now c.loop-fluent.fluent-index c.fluent-item.result c.loop-fluent-test.true c.fluent-item.is c.loop-fluent.seen c.loop-fluent.invariant
    (ap (among c.loop-fluent.seen) (sym c.as_slice-key.ensures) ∙ sym c.has.ensures ∙ c.if-has.false) c.add.new.self
    (c.in_ok-add.ensures ∙ ap (λ (k : List ℕ). with_new c.loop-fluent.seen (k ∷ [])) (c.in_ok-from_slice.ensures.items ∙ c.as_slice-key.ensures))

pub returns : goal.returns
returns c =
    sym (c.loop-fluent.invariant ∙ ap (λ (l : List (List ℕ)). met c.loop-fluent.seen l || is_twice l) (drop_all c.loop-fluent.fluent-index c.args.fluents.now c.loop-fluent-test.false))
