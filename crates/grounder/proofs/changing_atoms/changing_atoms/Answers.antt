use Rattle.std.proofs.Common.{ap, ◌∙◌, [], List}
use Rattle.std.specs.List.{flat_map}
use Rattle.pddl_names.specs.Declarations.{with_new}
use Rattle.ground_world.specs.Shown.{world_of}
use Rattle.grounder.specs.Blocks.{block_atoms}
use Rattle.grounder.specs.Blocks as blocks
use Rattle.grounder.specs.ShownBlocks.{blocks_of}
use Rattle.grounder.proofs.ChangingBlocks.{many-atoms, atoms-once}
use Rattle.grounder.proofs.changing_atoms.changing_atoms.Goals as goal

pub returns-then-atoms_within-eq-FACT_CAP : goal.returns-then-atoms_within-eq-FACT_CAP
returns-then-atoms_within-eq-FACT_CAP c =
    many-atoms (world_of c.args.tables.now) c.args.declarations.now (blocks_of c.as_slice.result.now) c.atoms_within.result
    (ap blocks_of c.as_slice.ensures ∙ c.in_ok-blocks.ensures) c.atoms_within.ensures c.if-atoms_within-eq-FACT_CAP.true

pub returns : goal.returns
returns c =
    c.in_ok-atoms.ensures ∙ ap (λ (l : List blocks.Block). with_new [] (flat_map block_atoms l)) (ap blocks_of c.as_slice-2.ensures ∙ c.in_ok-blocks.ensures)
    ∙ atoms-once (world_of c.args.tables.now) c.args.declarations.now c.requires.ascending
