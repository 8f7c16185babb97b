-- Believed: the trees of effects.
use Rattle.std.specs.Prelude.{ℕ, List, [], ◌∷◌}
use Rattle.pddl_terms.specs.declared.domain_heads.EffHead.{EffHead}
use Rattle.pddl_terms.specs.declared.domain_heads.EffHead.TheVariants as heads
use Rattle.pddl_terms.specs.declared.trees.Call.{Call}
use Rattle.pddl_terms.specs.declared.trees.Call.TheVariants as call
use Rattle.pddl_terms.specs.declared.trees.ChangeKind.{ChangeKind}
use Rattle.pddl_terms.specs.declared.trees.EffTree.{EffTree}
use Rattle.pddl_terms.specs.declared.trees.EffTree.TheVariants as eff
use Rattle.pddl_terms.specs.Content.{Lexeme, Content, End, Word, Inner, behind}
use Rattle.pddl_terms.specs.Typed.{atom_of}
use Rattle.pddl_terms.specs.Expressions.{expr_tree}
use Rattle.pddl_terms.specs.Calls.{call_of, call_tree}
use Rattle.pddl_terms.specs.Effects.{is_left_out_of_effect, eff_head}

-- what the `not` of an effect holds
abbrev pub deleted_list : ℕ → Content → Call
deleted_list at (Word w more) = call_of (is_left_out_of_effect w.bytes) at w more
deleted_list at (End close) = call.LeftOut at
deleted_list at (Inner place inner more) = call.LeftOut at

unfoldable pub deleted_tree : Content → Call
deleted_tree (Inner at inner more) = deleted_list at inner
deleted_tree (End close) = call.LeftOut 0
deleted_tree (Word w more) = call.LeftOut 0

-- a change of a fluent
abbrev pub change : ChangeKind → ℕ → Content → EffTree
change c at x = eff.Change at c (call_tree x) (expr_tree (behind x))

-- an effect that opens at a place with the word, `parts` being the effects that follow in the list
abbrev pub eff_by : EffHead → ℕ → Lexeme → List EffTree → Content → EffTree
eff_by heads.LeftOut at w parts x = eff.LeftOut at
eff_by heads.And at w parts x = eff.And at parts
eff_by heads.Not at w parts x = eff.Delete at (deleted_tree x)
eff_by (heads.Change c) at w parts x = change c at x
eff_by heads.Named at w parts x = eff.Add (atom_of at w x)

unfoldable mutual
  -- the effect of a list that opens at a place
  pub eff_list : ℕ → Content → EffTree
  eff_list at (Word w more) = eff_by (eff_head w.bytes) at w (effs more) more
  eff_list at (End close) = eff.Empty at
  eff_list at (Inner place inner more) = eff.Empty at

  -- eff*
  pub effs : Content → List EffTree
  effs (End close) = []
  effs (Word w more) = effs more
  effs (Inner at inner more) = eff_list at inner ∷ effs more

-- the effect that stands next
unfoldable pub eff_tree : Content → EffTree
eff_tree (Inner at inner more) = eff_list at inner
eff_tree (End close) = eff.Empty 0
eff_tree (Word w more) = eff.Empty 0
