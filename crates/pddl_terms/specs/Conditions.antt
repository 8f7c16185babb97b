-- Believed: conditions of the grammar.
--   cond = ( ) | ( and cond* ) | ( forall ( typedvars ) cond ) | lit | cmp
--   lit  = atom | ( not atom ) | ( = term term ) | ( not ( = term term ) )
--   cmp  = ( cop expr expr ) | ( not cmp )                cop = = | <= | >= | < | >
use Rattle.std.specs.Prelude.{ℕ, List, [], ◌∷◌, Option, Some, None, if◌then◌else◌}
use lib.Chars.{codes}
use Rattle.sexpr_text.specs.declared.token.TokenKind.{TokenKind}
use Rattle.pddl_terms.specs.declared.grammar.Line.TheVariants.{Expr, Cond, Denied, Cmp, VariableList}
use Rattle.pddl_terms.specs.declared.grammar.Rest.{Rest}
use Rattle.pddl_terms.specs.declared.grammar.Rest.TheVariants.{One, Two, Many, Skipped, Sides}
use Rattle.pddl_terms.specs.declared.heads.CondHead.{CondHead}
use Rattle.pddl_terms.specs.declared.heads.CondHead.TheVariants as heads
use Rattle.pddl_terms.specs.declared.trees.Comparison.{Comparison}
use Rattle.pddl_terms.specs.declared.trees.Comparison.TheVariants as comparison
use Rattle.pddl_terms.specs.declared.trees.CondTree.{CondTree}
use Rattle.pddl_terms.specs.declared.trees.CondTree.TheVariants as cond
use Rattle.pddl_terms.specs.Words.{same_word, is_left_out_of_condition}
use Rattle.pddl_terms.specs.Content.{Lexeme, Content, End, Word, Inner, behind}
use Rattle.pddl_terms.specs.Typed.{named, atom_of, variables}
use Rattle.pddl_terms.specs.Expressions.{expr_tree, side_tree}

-- What may follow in a list.

-- the comparison that a mark stands for, other than `=`
abbrev pub comparison_of : List ℕ → Option Comparison
comparison_of word =
    if same_word word (codes "<=") then Some comparison.AtMost
    else (if same_word word (codes ">=") then Some comparison.AtLeast
    else (if same_word word (codes "<") then Some comparison.Below
    else (if same_word word (codes ">") then Some comparison.Above
    else None)))

abbrev pub compared : Option Comparison → CondHead
compared None = heads.Named
compared (Some c) = heads.Compare c

-- what a word begins in a condition
unfoldable pub cond_head : List ℕ → CondHead
cond_head word =
    if is_left_out_of_condition word then heads.LeftOut
    else (if same_word word (codes "and") then heads.And
    else (if same_word word (codes "forall") then heads.Forall
    else (if same_word word (codes "not") then heads.Not
    else (if same_word word (codes "=") then heads.Equal
    else compared (comparison_of word)))))

abbrev pub cond_rest : CondHead → TokenKind → Option Rest
cond_rest heads.LeftOut kind = Some Skipped
cond_rest heads.And kind = Some (Many Cond)
cond_rest heads.Forall kind = Some (Two VariableList Cond)
cond_rest heads.Not kind = Some (One Denied)
cond_rest heads.Equal kind = Some Sides
cond_rest (heads.Compare c) kind = Some (Two Expr Expr)
cond_rest heads.Named kind = named kind

-- what the `not` of a condition holds: an atom, an equality of terms, or a cmp
abbrev pub denied_rest : CondHead → TokenKind → Option Rest
denied_rest heads.LeftOut kind = Some Skipped
denied_rest heads.And kind = named kind
denied_rest heads.Forall kind = named kind
denied_rest heads.Not kind = Some (One Cmp)
denied_rest heads.Equal kind = Some Sides
denied_rest (heads.Compare c) kind = Some (Two Expr Expr)
denied_rest heads.Named kind = named kind

-- what a second `not` holds: a cmp, so that its `=` is a comparison
abbrev pub cmp_rest : CondHead → Option Rest
cmp_rest heads.LeftOut = Some Skipped
cmp_rest heads.And = None
cmp_rest heads.Forall = None
cmp_rest heads.Not = Some (One Cmp)
cmp_rest heads.Equal = Some (Two Expr Expr)
cmp_rest (heads.Compare c) = Some (Two Expr Expr)
cmp_rest heads.Named = None

-- Trees.

-- ( = .. ) with its two sides
abbrev pub equal : ℕ → Content → CondTree
equal at x = cond.Equal at (side_tree x) (side_tree (behind x))

-- ( cop expr expr )
abbrev pub compare : ℕ → Comparison → Content → CondTree
compare at c x = cond.Compare at c (expr_tree x) (expr_tree (behind x))

-- a cmp that opens at a place, `inner` being the cmp that stands next in its list
abbrev pub cmp_by : CondHead → ℕ → CondTree → Content → CondTree
cmp_by heads.LeftOut at inner x = cond.LeftOut at
cmp_by heads.And at inner x = cond.LeftOut at
cmp_by heads.Forall at inner x = cond.LeftOut at
cmp_by heads.Not at inner x = cond.Not at inner
cmp_by heads.Equal at inner x = compare at comparison.Equal x
cmp_by (heads.Compare c) at inner x = compare at c x
cmp_by heads.Named at inner x = cond.LeftOut at

unfoldable mutual
  pub cmp_list : ℕ → Content → CondTree
  cmp_list at (Word w more) = cmp_by (cond_head w.bytes) at (cmp_tree more) more
  cmp_list at (End close) = cond.Empty at
  cmp_list at (Inner place inner more) = cond.Empty at

  -- the cmp that stands next
  pub cmp_tree : Content → CondTree
  cmp_tree (Inner at inner more) = cmp_list at inner
  cmp_tree (End close) = cond.Empty 0
  cmp_tree (Word w more) = cond.Empty 0

-- what the `not` of a condition holds, where it opens at a place with the word
abbrev pub denied_by : CondHead → ℕ → Lexeme → Content → CondTree
denied_by heads.LeftOut at w x = cond.LeftOut at
denied_by heads.And at w x = cond.Atom (atom_of at w x)
denied_by heads.Forall at w x = cond.Atom (atom_of at w x)
denied_by heads.Not at w x = cond.Not at (cmp_tree x)
denied_by heads.Equal at w x = equal at x
denied_by (heads.Compare c) at w x = compare at c x
denied_by heads.Named at w x = cond.Atom (atom_of at w x)

unfoldable pub denied_list : ℕ → Content → CondTree
denied_list at (Word w more) = denied_by (cond_head w.bytes) at w more
denied_list at (End close) = cond.Empty at
denied_list at (Inner place inner more) = cond.Empty at

-- what the `not` of a condition holds, where it stands next
unfoldable pub denied_tree : Content → CondTree
denied_tree (Inner at inner more) = denied_list at inner
denied_tree (End close) = cond.Empty 0
denied_tree (Word w more) = cond.Empty 0

-- A condition that opens at a place with the word, `parts` being the conditions that follow in the list and `body` the
-- one behind what stands next.
abbrev pub cond_by : CondHead → ℕ → Lexeme → List CondTree → CondTree → Content → CondTree
cond_by heads.LeftOut at w parts body x = cond.LeftOut at
cond_by heads.And at w parts body x = cond.And at parts
cond_by heads.Forall at w parts body x = cond.Forall at (variables x) body
cond_by heads.Not at w parts body x = cond.Not at (denied_tree x)
cond_by heads.Equal at w parts body x = equal at x
cond_by (heads.Compare c) at w parts body x = compare at c x
cond_by heads.Named at w parts body x = cond.Atom (atom_of at w x)

unfoldable mutual
  -- the condition of a list that opens at a place
  pub cond_list : ℕ → Content → CondTree
  cond_list at (End close) = cond.Empty at
  cond_list at (Word w more) = cond_by (cond_head w.bytes) at w (conds more) (cond_behind more) more
  cond_list at (Inner place inner more) = cond.Empty at

  -- cond*
  pub conds : Content → List CondTree
  conds (End close) = []
  conds (Word w more) = conds more
  conds (Inner at inner more) = cond_list at inner ∷ conds more

  -- the condition behind what stands next
  pub cond_behind : Content → CondTree
  cond_behind (End close) = cond.Empty 0
  cond_behind (Word w more) = cond_tree more
  cond_behind (Inner at inner more) = cond_tree more

  -- the condition that stands next
  pub cond_tree : Content → CondTree
  cond_tree (Inner at inner more) = cond_list at inner
  cond_tree (End close) = cond.Empty 0
  cond_tree (Word w more) = cond.Empty 0
