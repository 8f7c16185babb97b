-- Believed: expressions of the grammar, and the sides of an `=`.
--   expr   = NUMBER | fluent | ?duration | ( + expr expr+ ) | ( * expr expr+ ) | ( - expr ) | ( - expr expr )
--          | ( / expr expr )
--   fluent = ( NAME term* ) | NAME
-- Outside of effects no `?duration` stands in an expression.
use Rattle.std.specs.Prelude.{ℕ, Bool, true, false, ◌||◌, ◌&&◌, List, [], ◌∷◌, Option, Some, if◌then◌else◌}
use lib.Chars.{codes}
use Rattle.sexpr_text.specs.declared.token.TokenKind.{TokenKind}
use Rattle.pddl_terms.specs.declared.grammar.Line.{Line}
use Rattle.pddl_terms.specs.declared.grammar.Rest.{Rest}
use Rattle.pddl_terms.specs.declared.grammar.Rest.TheVariants.{Two, OneAndSome, OneAndMaybe, Side, Skipped, Nothing}
use Rattle.pddl_terms.specs.declared.heads.ExprHead.{ExprHead}
use Rattle.pddl_terms.specs.declared.heads.ExprHead.TheVariants as heads
use Rattle.pddl_terms.specs.declared.trees.ExprTree.{ExprTree}
use Rattle.pddl_terms.specs.declared.trees.ExprTree.TheVariants as expr
use Rattle.pddl_terms.specs.declared.trees.Side as sides
use Rattle.pddl_terms.specs.declared.trees.Side.TheVariants as side
use Rattle.pddl_terms.specs.Words.{same_word, is_left_out, is_name, is_number, is_variable, is_term_or_end}
use Rattle.pddl_terms.specs.Content.{Lexeme, Content, End, Word, Inner, behind}
use Rattle.pddl_terms.specs.Grammar.{only_if}
use Rattle.pddl_terms.specs.Numbers.{number_value}
use Rattle.pddl_terms.specs.Typed.{named, name_of, atom_of, bare_atom}

-- What may follow in a list.

-- what a word begins in an expression
unfoldable pub expr_head : List ℕ → ExprHead
expr_head word =
    if is_left_out word then heads.LeftOut
    else (if same_word word (codes "+") then heads.Sum
    else (if same_word word (codes "*") then heads.Product
    else (if same_word word (codes "-") then heads.Minus
    else (if same_word word (codes "/") then heads.Quotient
    else heads.Named))))

-- what follows in a list of the line, an expression with or without `?duration`
abbrev pub expr_rest : Line → ExprHead → TokenKind → Option Rest
expr_rest l heads.LeftOut kind = Some Skipped
expr_rest l heads.Sum kind = Some (OneAndSome l)
expr_rest l heads.Product kind = Some (OneAndSome l)
expr_rest l heads.Minus kind = Some (OneAndMaybe l)
expr_rest l heads.Quotient kind = Some (Two l l)
expr_rest l heads.Named kind = named kind

-- the word `?duration`
abbrev pub is_duration : List ℕ → TokenKind → Bool
is_duration word kind = is_variable kind && same_word word (codes "?duration")

-- The first side of an `=`. A variable stands there only before a name, a variable or the end, for else the `=` is a
-- comparison, and in a comparison stands no variable.
abbrev pub first_side : TokenKind → TokenKind → Option Rest
first_side kind ahead =
    if is_variable kind then only_if (is_term_or_end ahead) (Side true)
    else (if is_name kind then Some (Side true) else only_if (is_number kind) (Side false))

-- The other side, where a variable may stand if the first side is a variable or a name.
abbrev pub other_side : Bool → TokenKind → Option Rest
other_side plain kind = if is_variable kind then only_if plain Nothing else only_if (is_name kind || is_number kind) Nothing

-- Trees.

-- a word as an expression
abbrev pub expr_word : Lexeme → ExprTree
expr_word w =
    if is_number w.kind then expr.Number w.at (number_value w.bytes)
    else (if is_variable w.kind then expr.Duration w.at else expr.Fluent (bare_atom w))

-- a minus before one expression, or between two; `x` is what stands behind the first
abbrev pub minus : ℕ → ExprTree → ExprTree → Content → ExprTree
minus at first second (End close) = expr.Negative at first
minus at first second (Word w more) = expr.Difference at first second
minus at first second (Inner place inner more) = expr.Difference at first second

-- An expression that opens at a place with the word, `parts` being the expressions that follow in the list, `first` the
-- one that stands next and `second` the one behind it.
abbrev pub expr_by : ExprHead → ℕ → Lexeme → List ExprTree → ExprTree → ExprTree → Content → ExprTree
expr_by heads.LeftOut at w parts first second x = expr.LeftOut at
expr_by heads.Sum at w parts first second x = expr.Sum at parts
expr_by heads.Product at w parts first second x = expr.Product at parts
expr_by heads.Minus at w parts first second x = minus at first second (behind x)
expr_by heads.Quotient at w parts first second x = expr.Quotient at first second
expr_by heads.Named at w parts first second x = expr.Fluent (atom_of at w x)

unfoldable mutual
  -- the expression of a list that opens at a place
  pub expr_list : ℕ → Content → ExprTree
  expr_list at (Word w more) = expr_by (expr_head w.bytes) at w (exprs more) (expr_tree more) (expr_behind more) more
  expr_list at (End close) = expr.LeftOut at
  expr_list at (Inner place inner more) = expr.LeftOut at

  -- expr*
  pub exprs : Content → List ExprTree
  exprs (End close) = []
  exprs (Word w more) = expr_word w ∷ exprs more
  exprs (Inner at inner more) = expr_list at inner ∷ exprs more

  -- the expression behind what stands next
  pub expr_behind : Content → ExprTree
  expr_behind (End close) = expr.LeftOut 0
  expr_behind (Word w more) = expr_tree more
  expr_behind (Inner at inner more) = expr_tree more

  -- the expression that stands next
  pub expr_tree : Content → ExprTree
  expr_tree (End close) = expr.LeftOut 0
  expr_tree (Word w more) = expr_word w
  expr_tree (Inner at inner more) = expr_list at inner

-- a word as a side of an `=`
abbrev pub side_word : Lexeme → sides.Side
side_word w =
    if is_number w.kind then side.Expression (expr_word w)
    else (if is_variable w.kind then side.Variable (name_of w) else side.Bare (name_of w))

-- the side of an `=` that stands next
unfoldable pub side_tree : Content → sides.Side
side_tree (End close) = side.Expression (expr.LeftOut 0)
side_tree (Word w more) = side_word w
side_tree (Inner at inner more) = side.Expression (expr_list at inner)
