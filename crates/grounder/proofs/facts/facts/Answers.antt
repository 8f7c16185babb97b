use Rattle.std.proofs.Common.{◌≡◌, ◌<◌, ◌≤◌, sym, ap, subst, ◌∙◌, not, List, length, IfOk, Option}
use Rattle.std.specs.Prelude.{MatchOption}
use Rattle.pddl_terms.specs.declared.files.Declared.{Declared}
use Rattle.ground_world.specs.World.{GroundAtom}
use Rattle.ground_world.specs.FirstState.{all_atoms, names_of, signatures_of}
use Rattle.ground_world.specs.Shown.{world_of}
use Rattle.grounder.proofs.FactSteps.{world-ascending, facts-are, facts-many}
use Rattle.grounder.proofs.NameSteps.{world-predicates}
use Rattle.grounder.proofs.facts.facts.Goals as goal

pub changing_atoms-requires-clause-names : goal.changing_atoms-requires-clause-names
changing_atoms-requires-clause-names c =
    world-predicates (world_of c.args.tables.now) c.args.domain.now c.args.problem.now c.requires.world ∙ ap (λ (l : List Declared). names_of (signatures_of l)) (sym c.as_slice.ensures)

pub changing_atoms-requires-clause-ascending : goal.changing_atoms-requires-clause-ascending
changing_atoms-requires-clause-ascending c = world-ascending (world_of c.args.tables.now) c.args.domain.now c.args.problem.now c.requires.world

pub returns-in-Some : goal.returns-in-Some
returns-in-Some c =
    let all = λ (l : List Declared). all_atoms (world_of c.args.tables.now) (λ p. not ((world_of c.args.tables.now).is_static p)) l in
    let told = subst (λ (o : Option (List GroundAtom)). MatchOption o (16384 < length (all c.as_slice.result.now)) (λ atoms. atoms ≡ all c.as_slice.result.now)) c.in-Some.is c.in_ok-changing.ensures in
    let are = told ∙ ap all c.as_slice.ensures in
    subst (λ (x : List GroundAtom). IfOk c.with_mentioned.result (λ (o : Option (List GroundAtom)). MatchOption o (16384 < length x) (λ facts. (facts ≡ x) × (length x ≤ 16384))))
    (facts-are (world_of c.args.tables.now) c.args.domain.now c.args.problem.now c.in-Some.changing are) c.with_mentioned.ensures

pub returns-in-None : goal.returns-in-None
returns-in-None c =
    let all = λ (l : List Declared). all_atoms (world_of c.args.tables.now) (λ p. not ((world_of c.args.tables.now).is_static p)) l in
    let told = subst (λ (o : Option (List GroundAtom)). MatchOption o (16384 < length (all c.as_slice.result.now)) (λ atoms. atoms ≡ all c.as_slice.result.now)) c.in-None.is c.in_ok-changing.ensures in
    facts-many (world_of c.args.tables.now) c.args.domain.now c.args.problem.now (subst (λ (l : List Declared). 16384 < length (all l)) c.as_slice.ensures told)
