-- Believed: the trees of conditions and effects of durative actions.
use Rattle.std.specs.Prelude.{ℕ, Bool, List, [], ◌∷◌, if◌then◌else◌}
use Rattle.pddl_terms.specs.declared.domain_heads.TimedCondHead.{TimedCondHead}
use Rattle.pddl_terms.specs.declared.domain_heads.TimedCondHead.TheVariants as cond_heads
use Rattle.pddl_terms.specs.declared.domain_heads.TimedEffHead.{TimedEffHead}
use Rattle.pddl_terms.specs.declared.domain_heads.TimedEffHead.TheVariants as eff_heads
use Rattle.pddl_terms.specs.declared.trees.CondTree.{CondTree}
use Rattle.pddl_terms.specs.declared.trees.EffTree.{EffTree}
use Rattle.pddl_terms.specs.declared.trees.RateTree.{RateTree}
use Rattle.pddl_terms.specs.declared.trees.RateTree.TheVariants as rate
use Rattle.pddl_terms.specs.declared.trees.ExprTree.{ExprTree}
use Rattle.pddl_terms.specs.declared.trees.TimedCond.{TimedCond}
use Rattle.pddl_terms.specs.declared.trees.TimedCond.TheVariants as cond
use Rattle.pddl_terms.specs.declared.trees.Trend.{Trend}
use Rattle.pddl_terms.specs.declared.trees.TimedEff.{TimedEff}
use Rattle.pddl_terms.specs.declared.trees.TimedEff.TheVariants as eff
use Rattle.pddl_terms.specs.Words.{is_left_out, is_time}
use Rattle.pddl_terms.specs.Content.{Content, End, Word, Inner, behind}
use Rattle.pddl_terms.specs.Shape.{kind_ahead}
use Rattle.pddl_terms.specs.Durations.{is_start}
use Rattle.pddl_terms.specs.Conditions.{cond_tree}
use Rattle.pddl_terms.specs.Expressions.{expr_tree}
use Rattle.pddl_terms.specs.Calls.{call_tree}
use Rattle.pddl_terms.specs.Effects.{timed_eff_head, timed_cond_head}
use Rattle.pddl_domain.specs.Effects.{eff_tree}

-- Conditions.

abbrev pub timed_cond_at : Bool → ℕ → CondTree → TimedCond
timed_cond_at start at body = if start then cond.AtStart at body else cond.AtEnd at body

-- a condition that opens at a place, `parts` being the conditions that follow in the list
abbrev pub timed_cond_by : TimedCondHead → ℕ → List TimedCond → Content → TimedCond
timed_cond_by cond_heads.LeftOut at parts x = cond.LeftOut at
timed_cond_by cond_heads.And at parts x = cond.And at parts
timed_cond_by cond_heads.At at parts x = timed_cond_at (is_start x) at (cond_tree (behind x))
timed_cond_by cond_heads.Over at parts x = cond.OverAll at (cond_tree (behind x))
timed_cond_by cond_heads.Unknown at parts x = cond.LeftOut at

unfoldable mutual
  pub timed_cond_list : ℕ → Content → TimedCond
  timed_cond_list at (Word w more) = timed_cond_by (timed_cond_head w.bytes) at (timed_conds more) more
  timed_cond_list at (End close) = cond.Empty at
  timed_cond_list at (Inner place inner more) = cond.Empty at

  -- tcond*
  pub timed_conds : Content → List TimedCond
  timed_conds (End close) = []
  timed_conds (Word w more) = timed_conds more
  timed_conds (Inner at inner more) = timed_cond_list at inner ∷ timed_conds more

-- the condition that stands next
unfoldable pub timed_cond_tree : Content → TimedCond
timed_cond_tree (Inner at inner more) = timed_cond_list at inner
timed_cond_tree (End close) = cond.Empty 0
timed_cond_tree (Word w more) = cond.Empty 0

-- Rates.

-- the expression beside the time
abbrev pub factor : Content → ExprTree
factor x = if is_time (kind_ahead x) then expr_tree (behind x) else expr_tree x

abbrev pub rate_by : Bool → ℕ → Content → RateTree
rate_by left_out at x = if left_out then rate.LeftOut at else rate.Times at (factor x)

abbrev pub rate_list : ℕ → Content → RateTree
rate_list at (Word w more) = rate_by (is_left_out w.bytes) at more
rate_list at (End close) = rate.LeftOut at
rate_list at (Inner place inner more) = rate.LeftOut at

-- the rate that stands next
unfoldable pub rate_tree : Content → RateTree
rate_tree (End close) = rate.LeftOut 0
rate_tree (Word w more) = rate.One w.at
rate_tree (Inner at inner more) = rate_list at inner

-- Effects.

abbrev pub timed_eff_at : Bool → ℕ → EffTree → TimedEff
timed_eff_at start at body = if start then eff.AtStart at body else eff.AtEnd at body

-- a rate of a fluent
abbrev pub change_rate : Trend → ℕ → Content → TimedEff
change_rate t at x = eff.Rate at t (call_tree x) (rate_tree (behind x))

-- an effect that opens at a place, `parts` being the effects that follow in the list
abbrev pub timed_eff_by : TimedEffHead → ℕ → List TimedEff → Content → TimedEff
timed_eff_by eff_heads.LeftOut at parts x = eff.LeftOut at
timed_eff_by eff_heads.And at parts x = eff.And at parts
timed_eff_by eff_heads.At at parts x = timed_eff_at (is_start x) at (eff_tree (behind x))
timed_eff_by (eff_heads.Rate t) at parts x = change_rate t at x
timed_eff_by eff_heads.Unknown at parts x = eff.LeftOut at

unfoldable mutual
  pub timed_eff_list : ℕ → Content → TimedEff
  timed_eff_list at (Word w more) = timed_eff_by (timed_eff_head w.bytes) at (timed_effs more) more
  timed_eff_list at (End close) = eff.Empty at
  timed_eff_list at (Inner place inner more) = eff.Empty at

  -- teff*
  pub timed_effs : Content → List TimedEff
  timed_effs (End close) = []
  timed_effs (Word w more) = timed_effs more
  timed_effs (Inner at inner more) = timed_eff_list at inner ∷ timed_effs more

-- the effect that stands next
unfoldable pub timed_eff_tree : Content → TimedEff
timed_eff_tree (Inner at inner more) = timed_eff_list at inner
timed_eff_tree (End close) = eff.Empty 0
timed_eff_tree (Word w more) = eff.Empty 0
