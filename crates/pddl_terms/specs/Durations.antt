-- Believed: durations of the grammar.
--   dur = ( and dur* ) | ( at start dur ) | ( at end dur ) | ( dop ?duration expr )          dop = = | <= | >=
-- Below a tag stands no other tag.
use Rattle.std.specs.Prelude.{ℕ, Bool, false, List, [], ◌∷◌, Option, Some, None, if◌then◌else◌}
use lib.Chars.{codes}
use Rattle.pddl_terms.specs.declared.grammar.Line.TheVariants.{Dur, DurationName, Expr}
use Rattle.pddl_terms.specs.declared.grammar.Rest.{Rest}
use Rattle.pddl_terms.specs.declared.grammar.Rest.TheVariants.{Two, Many, Skipped, Tag, ManyUntagged}
use Rattle.pddl_terms.specs.declared.heads.DurHead.{DurHead}
use Rattle.pddl_terms.specs.declared.heads.DurHead.TheVariants as heads
use Rattle.pddl_terms.specs.declared.trees.Comparison.TheVariants as comparison
use Rattle.pddl_terms.specs.declared.trees.DurTree.{DurTree}
use Rattle.pddl_terms.specs.declared.trees.DurTree.TheVariants as dur
use Rattle.pddl_terms.specs.Words.{same_word, is_left_out}
use Rattle.pddl_terms.specs.Content.{Content, End, Word, Inner, behind}
use Rattle.pddl_terms.specs.Expressions.{expr_tree}

-- What may follow in a list.

-- what the mark of a bound begins
abbrev pub bound_head : List ℕ → DurHead
bound_head word =
    if same_word word (codes "=") then heads.Bound comparison.Equal
    else (if same_word word (codes "<=") then heads.Bound comparison.AtMost
    else (if same_word word (codes ">=") then heads.Bound comparison.AtLeast
    else heads.Unknown))

-- what a word begins in a duration
unfoldable pub dur_head : List ℕ → DurHead
dur_head word =
    if is_left_out word then heads.LeftOut
    else (if same_word word (codes "and") then heads.And
    else (if same_word word (codes "at") then heads.At
    else bound_head word))

abbrev pub dur_rest : DurHead → Option Rest
dur_rest heads.LeftOut = Some Skipped
dur_rest heads.And = Some (Many Dur)
dur_rest heads.At = Some Tag
dur_rest (heads.Bound c) = Some (Two DurationName Expr)
dur_rest heads.Unknown = None

-- the same below a tag
abbrev pub untagged_rest : DurHead → Option Rest
untagged_rest heads.LeftOut = Some Skipped
untagged_rest heads.And = Some ManyUntagged
untagged_rest heads.At = None
untagged_rest (heads.Bound c) = Some (Two DurationName Expr)
untagged_rest heads.Unknown = None

-- Trees.

abbrev pub is_start : Content → Bool
is_start (Word w more) = same_word w.bytes (codes "start")
is_start (End close) = false
is_start (Inner at inner more) = false

abbrev pub tagged : Bool → ℕ → DurTree → DurTree
tagged start at body = if start then dur.AtStart at body else dur.AtEnd at body

-- A duration that opens at a place, `parts` being the durations that follow in the list and `body` the one behind what
-- stands next.
abbrev pub dur_by : DurHead → ℕ → List DurTree → DurTree → Content → DurTree
dur_by heads.LeftOut at parts body x = dur.LeftOut at
dur_by heads.And at parts body x = dur.And at parts
dur_by heads.At at parts body x = tagged (is_start x) at body
dur_by (heads.Bound c) at parts body x = dur.Bound at c (expr_tree (behind x))
dur_by heads.Unknown at parts body x = dur.LeftOut at

unfoldable mutual
  -- the duration of a list that opens at a place
  pub dur_list : ℕ → Content → DurTree
  dur_list at (Word w more) = dur_by (dur_head w.bytes) at (durs more) (dur_behind more) more
  dur_list at (End close) = dur.LeftOut at
  dur_list at (Inner place inner more) = dur.LeftOut at

  -- dur*
  pub durs : Content → List DurTree
  durs (End close) = []
  durs (Word w more) = durs more
  durs (Inner at inner more) = dur_list at inner ∷ durs more

  -- the duration behind what stands next
  pub dur_behind : Content → DurTree
  dur_behind (End close) = dur.LeftOut 0
  dur_behind (Word w more) = dur_tree more
  dur_behind (Inner at inner more) = dur_tree more

  -- the duration that stands next
  pub dur_tree : Content → DurTree
  dur_tree (Inner at inner more) = dur_list at inner
  dur_tree (End close) = dur.LeftOut 0
  dur_tree (Word w more) = dur.LeftOut 0
