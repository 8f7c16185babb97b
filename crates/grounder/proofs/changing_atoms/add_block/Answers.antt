use Rattle.std.proofs.Common.{◌≡◌, ◌≤◌, ◌<◌, sym, ap, subst, ◌∙◌, List, min, arith}
use Rattle.pddl_names.specs.Declarations.{with_new}
use Rattle.ground_world.specs.Bindings.{choice_count}
use Rattle.ground_world.specs.Shown.{env_of, columns_of}
use Rattle.ground_world.specs.declared.binding.Bound.{Bound}
use Rattle.ground_world.specs.declared.choosing.Variable.{Variable}
use Rattle.grounder.specs.Blocks.{block_atoms}
use Rattle.grounder.proofs.ChangingBlocks.{binding-more, bindings-all}
use Rattle.grounder.proofs.changing_atoms.add_block.Goals as goal

pub bound-requires-clause-count : goal.bound-requires-clause-count
bound-requires-clause-count c =
    let few : choice_count (columns_of c.as_slice-slots.result.now) ≤ 16384 = subst (λ (vs : List Variable). choice_count (columns_of vs) ≤ 16384) (sym c.as_slice-slots.ensures) c.requires in
    let e : c.choices_within-count.result ≡ min 16385 (choice_count (columns_of c.as_slice-slots.result.now)) = c.choices_within-count.ensures in
    omega arith

pub loop-number-preserved : goal.loop-number-preserved
loop-number-preserved c =
    let vs = c.as_slice-slots.result.now in
    let few : choice_count (columns_of vs) ≤ 16384 = subst (λ (vs : List Variable). choice_count (columns_of vs) ≤ 16384) (sym c.as_slice-slots.ensures) c.requires in
    let e : c.choices_within-count.result ≡ min 16385 (choice_count (columns_of vs)) = c.choices_within-count.ensures in
    let t : c.loop-number.number < c.choices_within-count.result = c.loop-number-test.true in
    let lt : c.loop-number.number < choice_count (columns_of vs) = omega arith in
    binding-more c.args.block.now.predicate vs c.loop-number.number (env_of c.as_slice.result.now) c.args.atoms.now c.loop-number.atoms c.add_bound.new.atoms lt
    (ap (λ (l : List Bound). env_of l) c.as_slice.ensures ∙ c.in_ok-env.ensures) c.loop-number.invariant c.in_ok-add_bound.ensures

pub returns : goal.returns
returns c =
    let vs = c.as_slice-slots.result.now in
    let few : choice_count (columns_of vs) ≤ 16384 = subst (λ (vs : List Variable). choice_count (columns_of vs) ≤ 16384) (sym c.as_slice-slots.ensures) c.requires in
    let e : c.choices_within-count.result ≡ min 16385 (choice_count (columns_of vs)) = c.choices_within-count.ensures in
    let t : c.choices_within-count.result ≤ c.loop-number.number = c.loop-number-test.false in
    let h : choice_count (columns_of vs) ≤ c.loop-number.number = omega arith in
    bindings-all c.args.block.now.predicate vs c.loop-number.number c.args.atoms.now c.loop-number.atoms h c.loop-number.invariant
    ∙ ap (λ (l : List Variable). with_new c.args.atoms.now (block_atoms (c.args.block.now.predicate, columns_of l))) c.as_slice-slots.ensures
