-- Believed: formulas over facts of the grammar.
--   tree = ( ) | lit | ( and tree* ) | ( or tree* ) | ( not tree ) | ( imply tree tree )
--        | ( exists ( typedvars ) tree ) | ( forall ( typedvars ) tree )
--   lit  = atom | ( not atom ) | ( = term term ) | ( not ( = term term ) )
use Rattle.std.specs.Prelude.{ℕ, List, [], ◌∷◌, Option, Some, if◌then◌else◌}
use lib.Chars.{codes}
use Rattle.sexpr_text.specs.declared.token.TokenKind.{TokenKind}
use Rattle.pddl_terms.specs.declared.grammar.Line.TheVariants.{Tree, VariableList}
use Rattle.pddl_terms.specs.declared.grammar.Rest.{Rest}
use Rattle.pddl_terms.specs.declared.grammar.Rest.TheVariants.{One, Two, Many, Skipped, Sides}
use Rattle.pddl_terms.specs.declared.heads.TreeHead.{TreeHead}
use Rattle.pddl_terms.specs.declared.heads.TreeHead.TheVariants as heads
use Rattle.pddl_terms.specs.declared.trees.FactForm.{FactForm}
use Rattle.pddl_terms.specs.declared.trees.FactForm.TheVariants as fact
use Rattle.pddl_terms.specs.Words.{same_word, is_left_out}
use Rattle.pddl_terms.specs.Content.{Lexeme, Content, End, Word, Inner, behind}
use Rattle.pddl_terms.specs.Typed.{named, atom_of, variables}
use Rattle.pddl_terms.specs.Expressions.{side_tree}

-- What may follow in a list.

-- what a word begins in a tree
unfoldable pub tree_head : List ℕ → TreeHead
tree_head word =
    if is_left_out word then heads.LeftOut
    else (if same_word word (codes "=") then heads.Equal
    else (if same_word word (codes "and") then heads.And
    else (if same_word word (codes "or") then heads.Or
    else (if same_word word (codes "not") then heads.Not
    else (if same_word word (codes "imply") then heads.Imply
    else (if same_word word (codes "exists") then heads.Exists
    else (if same_word word (codes "forall") then heads.Forall
    else heads.Named)))))))

abbrev pub tree_rest : TreeHead → TokenKind → Option Rest
tree_rest heads.LeftOut kind = Some Skipped
tree_rest heads.Named kind = named kind
tree_rest heads.Equal kind = Some Sides
tree_rest heads.And kind = Some (Many Tree)
tree_rest heads.Or kind = Some (Many Tree)
tree_rest heads.Not kind = Some (One Tree)
tree_rest heads.Imply kind = Some (Two Tree Tree)
tree_rest heads.Exists kind = Some (Two VariableList Tree)
tree_rest heads.Forall kind = Some (Two VariableList Tree)

-- Trees.

-- A tree that opens at a place with the word, `parts` being the trees that follow in the list, `first` the one that
-- stands next and `second` the one behind it.
abbrev pub fact_by : TreeHead → ℕ → Lexeme → List FactForm → FactForm → FactForm → Content → FactForm
fact_by heads.LeftOut at w parts first second x = fact.LeftOut at
fact_by heads.Named at w parts first second x = fact.Atom (atom_of at w x)
fact_by heads.Equal at w parts first second x = fact.Equal at (side_tree x) (side_tree (behind x))
fact_by heads.And at w parts first second x = fact.And at parts
fact_by heads.Or at w parts first second x = fact.Or at parts
fact_by heads.Not at w parts first second x = fact.Not at first
fact_by heads.Imply at w parts first second x = fact.Imply at first second
fact_by heads.Exists at w parts first second x = fact.Exists at (variables x) second
fact_by heads.Forall at w parts first second x = fact.Forall at (variables x) second

unfoldable mutual
  -- the tree of a list that opens at a place
  pub fact_list : ℕ → Content → FactForm
  fact_list at (End close) = fact.Empty at
  fact_list at (Word w more) = fact_by (tree_head w.bytes) at w (facts more) (fact_tree more) (fact_behind more) more
  fact_list at (Inner place inner more) = fact.Empty at

  -- tree*
  pub facts : Content → List FactForm
  facts (End close) = []
  facts (Word w more) = facts more
  facts (Inner at inner more) = fact_list at inner ∷ facts more

  -- the tree behind what stands next
  pub fact_behind : Content → FactForm
  fact_behind (End close) = fact.Empty 0
  fact_behind (Word w more) = fact_tree more
  fact_behind (Inner at inner more) = fact_tree more

  -- the tree that stands next
  pub fact_tree : Content → FactForm
  fact_tree (Inner at inner more) = fact_list at inner
  fact_tree (End close) = fact.Empty 0
  fact_tree (Word w more) = fact.Empty 0
