-- Believed: a state, the value of a form in it, and what holds in it.
-- States and satisfaction are those of Fox and Long 2003.
use Rattle.std.specs.Prelude.{ℕ, Bool, true, not, ◌&&◌, if◌then◌else◌}
use Rattle.std.specs.List.{list_all, list_any}
use Rattle.rational.specs.Rational.{ℚ, zeroℚ}
use Rattle.exact_lin.specs.Forms.{LinearForm, form_at}
use Rattle.task_types.specs.declared.conditions.Literal.{Literal}
use Rattle.task_types.specs.declared.conditions.Condition.{Condition}
use Rattle.task_types.specs.declared.formulas.FactTree.{FactTree, fold-FactTree}
use Rattle.task_types.specs.declared.formulas.FactTree.TheOpen.{FactTree-F}
use Rattle.task_types.specs.Tests.{◌≤?◌}

-- A state tells which facts hold, and the value of each fluent; facts and fluents go by their numbers.
pub record State : Type 0 where
  pub facts : ℕ → Bool
  pub fluents : ℕ → ℚ

-- The value of a form in a state is that of its linear function at the values of the fluents.
unfoldable pub value : LinearForm → (ℕ → ℚ) → ℚ
value form fluents = form_at form fluents

-- A literal holds where its fact does, or where it doesn't, as the literal asks.
abbrev pub literal_holds : Literal → (ℕ → Bool) → Bool
literal_holds l facts = if l.holds then facts l.fact else not (facts l.fact)

-- A comparison holds where its form is at least 0.
abbrev pub comparison_holds : LinearForm → (ℕ → ℚ) → Bool
comparison_holds form fluents = zeroℚ ≤? value form fluents

-- A condition holds where each of its literals and each of its comparisons does.
unfoldable pub holds : Condition → State → Bool
holds c s = list_all (λ l. literal_holds l s.facts) c.literals && list_all (λ form. comparison_holds form s.fluents) c.comparisons

-- The truth of a formula from the truths of its parts goes by the usual truth tables.
abbrev pub truth : (ℕ → Bool) → FactTree-F Bool → Bool
truth facts FactTree-F.True = true
truth facts (FactTree-F.Is l) = literal_holds l facts
truth facts (FactTree-F.Not part) = not part
truth facts (FactTree-F.And parts) = list_all (λ part. part) parts
truth facts (FactTree-F.Or parts) = list_any (λ part. part) parts

-- A formula holds where its truth, from its parts up, is true.
unfoldable pub tree_holds : FactTree → (ℕ → Bool) → Bool
tree_holds formula facts = fold-FactTree Bool (truth facts) formula
