use Rattle.std.proofs.Common.{ap, ◌∙◌, List, []}
use Rattle.std.specs.List.{flat_map}
use Rattle.std.proofs.lemmas.List.{take_all}
use Rattle.pddl_terms.specs.declared.files.Declared.{Declared}
use Rattle.pddl_names.specs.Declarations.{with_new, signature_of}
use Rattle.ground_world.specs.FirstState.{names_of}
use Rattle.grounder.proofs.NameSteps.{declared-named}
use Rattle.grounder.proofs.OneByOne.{added_more}
use Rattle.grounder.proofs.declared_names.declared_names.Goals as goal

pub loop-declared-preserved : goal.loop-declared-preserved
loop-declared-preserved c = record {
  same = c.in_ok-add_declared.ensures.seen;
  told = added_more c.args.declarations.now c.loop-declared.declared-index c.declared-item.result c.loop-declared-test.true c.declared-item.is
      (λ d. names_of (signature_of d)) [] c.loop-declared.found.list c.add_declared.new.found.list c.loop-declared.invariant.told c.in_ok-add_declared.ensures.list;
}

pub returns : goal.returns
returns c =
    c.loop-declared.invariant.told
    ∙ ap (λ (ds : List Declared). with_new [] (flat_map (λ d. names_of (signature_of d)) ds)) (take_all c.loop-declared.declared-index c.args.declarations.now c.loop-declared-test.false)
    ∙ declared-named c.args.declarations.now
