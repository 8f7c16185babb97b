-- Believed: the table of all lines: where a word may stand alone, what may follow a first word, and what a list may hold.
use Rattle.std.specs.Prelude.{ℕ, Bool, true, false, ◌||◌, List, Option, Some, None, if◌then◌else◌}
use Rattle.sexpr_text.specs.declared.token.TokenKind.{TokenKind}
use Rattle.pddl_terms.specs.declared.grammar.Line.{Line}
use Rattle.pddl_terms.specs.declared.grammar.Line.TheVariants as line
use Rattle.pddl_terms.specs.declared.grammar.Listed.TheVariants.{Variables}
use Rattle.pddl_terms.specs.declared.grammar.Rest.{Rest}
use Rattle.pddl_terms.specs.declared.grammar.Rest.TheVariants.{Whole, Typed, Skipped}
use Rattle.pddl_terms.specs.Words.{is_left_out, is_name, is_variable, is_number, is_keyword}
use Rattle.pddl_terms.specs.Typed.{named}
use Rattle.pddl_terms.specs.Grammar.{only_if}
use Rattle.pddl_terms.specs.Expressions.{expr_head, expr_rest, is_duration}
use Rattle.pddl_terms.specs.Conditions.{cond_head, cond_rest, denied_rest, cmp_rest}
use Rattle.pddl_terms.specs.Formulas.{tree_head, tree_rest}
use Rattle.pddl_terms.specs.Constraints.{con_head, con_rest, trail_rest}
use Rattle.pddl_terms.specs.Durations.{dur_head, dur_rest, untagged_rest}
use Rattle.pddl_terms.specs.Domains.{domain_stands, domain_begins, domain_may_be_empty, domain_has_lists}
use Rattle.pddl_terms.specs.Problems.{problem_stands, problem_begins, problem_may_be_empty}

-- whether the word may stand alone where the line is wanted
abbrev pub stands : Line → List ℕ → TokenKind → Bool
stands line.Term word kind = is_name kind || is_variable kind
stands line.Number word kind = is_number kind
stands line.Expr word kind = is_name kind || is_number kind
stands line.EffectExpr word kind = (is_name kind || is_number kind) || is_duration word kind
stands line.DurationName word kind = is_duration word kind
stands line.Name word kind = is_name kind
stands line.Keyword word kind = is_keyword kind
stands line.Fluent word kind = is_name kind
stands (line.Domain l) word kind = domain_stands l kind
stands (line.Problem l) word kind = problem_stands l kind
stands l word kind = false

-- ( NAME term* ), or a left-out list in its place
abbrev pub call_rest : List ℕ → TokenKind → Option Rest
call_rest word kind = if is_left_out word then Some Skipped else named kind

-- what may follow the word where it begins a list of the line
abbrev pub begins : Line → List ℕ → TokenKind → Option Rest
begins line.Expr word kind = expr_rest line.Expr (expr_head word) kind
begins line.EffectExpr word kind = expr_rest line.EffectExpr (expr_head word) kind
begins line.Cond word kind = cond_rest (cond_head word) kind
begins line.Denied word kind = denied_rest (cond_head word) kind
begins line.Cmp word kind = cmp_rest (cond_head word)
begins line.Tree word kind = tree_rest (tree_head word) kind
begins line.Con word kind = con_rest (con_head word)
begins line.Trail word kind = trail_rest (con_head word)
begins line.Dur word kind = dur_rest (dur_head word)
begins line.UntaggedDur word kind = untagged_rest (dur_head word)
begins line.Fluent word kind = call_rest word kind
begins line.Atom word kind = call_rest word kind
begins (line.Domain l) word kind = domain_begins l word kind
begins (line.Problem l) word kind = problem_begins l word kind
begins line.Term word kind = None
begins line.Number word kind = None
begins line.VariableList word kind = None
begins line.DurationName word kind = None
begins line.Name word kind = None
begins line.Keyword word kind = None

-- whether ( ) is a list of the line
abbrev pub may_be_empty : Line → Bool
may_be_empty line.Cond = true
may_be_empty line.Tree = true
may_be_empty (line.Domain l) = domain_may_be_empty l
may_be_empty (line.Problem l) = problem_may_be_empty l
may_be_empty l = false

-- what a list may hold where the line is wanted, if one may stand there
abbrev pub inside : Line → Option Rest
inside line.Term = None
inside line.Number = None
inside line.DurationName = None
inside line.Name = None
inside line.Keyword = None
inside (line.Domain l) = only_if (domain_has_lists l) (Whole (line.Domain l))
inside line.VariableList = Some (Typed Variables)
inside l = Some (Whole l)
