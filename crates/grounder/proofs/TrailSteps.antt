-- A trajectory constraint with one formula, and with two.
use Rattle.std.proofs.Common.{◌≡◌, sym, ap, ◌∙◌, ℕ}
use Rattle.rational.specs.Rational.{ℚ, zeroℚ}
use Rattle.task_types.specs.declared.constraints.Trail.{Trail}
use Rattle.task_types.specs.declared.constraints.TrailKind.{TrailKind}
use Rattle.task_types.specs.declared.constraints.TrailKind.TheVariants as kind
use Rattle.task_types.specs.declared.formulas.FactTree.{FactTree}
use Rattle.task_types.specs.declared.formulas.FactTree.TheVariants as fact
use Rattle.pddl_terms.specs.declared.trees.FactForm.{FactForm}
use Rattle.pddl_terms.specs.declared.trees.FactForm.TheVariants as form
use Rattle.pddl_terms.specs.declared.trees.Trajectory.{Trajectory}
use Rattle.pddl_terms.specs.declared.trees.Trajectory.TheVariants as trail
use Rattle.ground_world.specs.World.{Env}
use Rattle.grounder.specs.Terms.{Watched, formula, watched, one_formula, two_formulas}
use Rattle.grounder.specs.Task.{Ground, fact_number, trail_of}
use Rattle.grounder.proofs.Walks as walk

abbrev made : TrailKind → FactTree → FactTree → ℚ → Trail
made k f s m = record { kind = k; first = f; second = s; moment = m }

module _ (g : Ground) (env : Env) (t : Trajectory) where
  of_watched : (x : Watched) → watched t ≡ x → made x.kind (formula g.world (fact_number g) env x.first) (formula g.world (fact_number g) env x.second) x.moment ≡ trail_of g t env
  of_watched x e = sym (ap (λ (y : Watched). made y.kind (formula g.world (fact_number g) env y.first) (formula g.world (fact_number g) env y.second) y.moment) e)

  pub trail-one : (k : TrailKind) (f : FactForm) (m n : ℚ) → watched t ≡ one_formula k f m → n ≡ m → made k (formula g.world (fact_number g) env f) fact.True n ≡ trail_of g t env
  trail-one k f m n e z =
      ap (made k (formula g.world (fact_number g) env f) fact.True) z
      ∙ ap (λ (s : FactTree). made k (formula g.world (fact_number g) env f) s m) (sym (walk.formula-Empty g.world (fact_number g) env 0))
      ∙ of_watched (one_formula k f m) e

  pub trail-two : (k : TrailKind) (f h : FactForm) → watched t ≡ two_formulas k f h → made k (formula g.world (fact_number g) env f) (formula g.world (fact_number g) env h) zeroℚ ≡ trail_of g t env
  trail-two k f h e = of_watched (two_formulas k f h) e

  pub trail-none : {at : ℕ} (n : ℚ) → t ≡ trail.LeftOut at → n ≡ zeroℚ → made kind.Always fact.True fact.True n ≡ trail_of g t env
  trail-none {at} n e z =
      ap (λ (s : FactTree). made kind.Always s fact.True n) (sym (walk.formula-LeftOut g.world (fact_number g) env at))
      ∙ trail-one kind.Always (form.LeftOut at) zeroℚ n (ap watched e) z
