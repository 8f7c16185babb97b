use Rattle.std.proofs.Common.{◌≡◌, sym, ap, subst, ◌∙◌, ◌<◌, ◌++◌, min, map, ℕ, List, arith}
use Rattle.std.specs.List.{filter, flat_map}
use Rattle.std.proofs.lemmas.List.{append-nil}
use Rattle.ground_world.specs.World.{columns}
use Rattle.ground_world.specs.Bindings.{numbers, choice_count}
use Rattle.ground_world.specs.Shown.{world_of, columns_of}
use Rattle.grounder.specs.Answer.{least}
use Rattle.grounder.specs.Instances.{Instance, is_kept, wide_in_instance}
use Rattle.grounder.specs.Bindings.{lower, numbered}
use Rattle.grounder.specs.ShownInstances.{all_of}
use Rattle.grounder.proofs.BindingSteps.{instances-numbered, kept-more, wide-more, count-within, parts-within, lower-none}
use Rattle.grounder.proofs.judging.judge_action.Goals as goal

pub loop-number-init : goal.loop-number-init
loop-number-init c = record { instances = sym (append-nil _); wide = lower-none c.args.found.now.wide }

pub judge_number-requires-clause-fits : goal.judge_number-requires-clause-fits
judge_number-requires-clause-fits c =
    let w = world_of c.args.tables.now in
    let a = c.args.action.now in
    let columns_are = ap columns_of c.as_slice-slots.ensures ∙ c.in_ok-variables.ensures.columns ∙ ap (columns w) c.as_slice.ensures in
    let count_is = c.choices_within-count.ensures ∙ ap (λ (l : List (List ℕ)). min 1048576 (choice_count l)) columns_are ∙ count-within w a c.requires in
    parts-within w a c.requires c.loop-number.number (subst (λ n. c.loop-number.number < n) count_is c.loop-number-test.true)

pub judge_number-requires-clause-count : goal.judge_number-requires-clause-count
judge_number-requires-clause-count c =
    let w = world_of c.args.tables.now in
    let a = c.args.action.now in
    let columns_are = ap columns_of c.as_slice-slots.ensures ∙ c.in_ok-variables.ensures.columns ∙ ap (columns w) c.as_slice.ensures in
    c.choices_within-count.ensures ∙ ap (λ (l : List (List ℕ)). min 1048576 (choice_count l)) columns_are ∙ count-within w a c.requires ∙ ap choice_count (sym columns_are)

pub loop-number-preserved : goal.loop-number-preserved
loop-number-preserved c =
    let w = world_of c.args.tables.now in
    let a = c.args.action.now in
    record {
      instances = kept-more w a (all_of c.args.found.now.instances) (all_of c.loop-number.found.instances) (all_of c.judge_number.new.found.instances) c.loop-number.number c.loop-number.invariant.instances c.in_ok-judge_number.ensures.instances;
      wide = wide-more w a c.args.found.now.wide c.loop-number.found.wide c.judge_number.new.found.wide c.loop-number.number c.loop-number.invariant.wide c.in_ok-judge_number.ensures.wide;
    }

pub returns-clause-instances : goal.returns-clause-instances
returns-clause-instances c =
    let w = world_of c.args.tables.now in
    let a = c.args.action.now in
    let columns_are = ap columns_of c.as_slice-slots.ensures ∙ c.in_ok-variables.ensures.columns ∙ ap (columns w) c.as_slice.ensures in
    let count_is = c.choices_within-count.ensures ∙ ap (λ (l : List (List ℕ)). min 1048576 (choice_count l)) columns_are ∙ count-within w a c.requires in
    let all : c.loop-number.number ≡ choice_count (columns w a.parameters) = omega (arith, count_is, c.loop-number-test.false) in
    c.loop-number.invariant.instances ∙ ap (λ n. all_of c.args.found.now.instances ++ filter (is_kept w) (map (numbered w a) (numbers n))) all
    ∙ ap (λ (is : List Instance). all_of c.args.found.now.instances ++ filter (is_kept w) is) (instances-numbered w a)

pub returns-clause-wide : goal.returns-clause-wide
returns-clause-wide c =
    let w = world_of c.args.tables.now in
    let a = c.args.action.now in
    let columns_are = ap columns_of c.as_slice-slots.ensures ∙ c.in_ok-variables.ensures.columns ∙ ap (columns w) c.as_slice.ensures in
    let count_is = c.choices_within-count.ensures ∙ ap (λ (l : List (List ℕ)). min 1048576 (choice_count l)) columns_are ∙ count-within w a c.requires in
    let all : c.loop-number.number ≡ choice_count (columns w a.parameters) = omega (arith, count_is, c.loop-number-test.false) in
    c.loop-number.invariant.wide ∙ ap (λ n. lower c.args.found.now.wide (least (flat_map (wide_in_instance w) (map (numbered w a) (numbers n))))) all
    ∙ ap (λ (is : List Instance). lower c.args.found.now.wide (least (flat_map (wide_in_instance w) is))) (instances-numbered w a)
