-- Believed: constraints of the grammar.
--   con   = ( and con* ) | ( forall ( typedvars ) con ) | trail | ( preference [NAME] trail )
--   trail = ( always tree ) | ( sometime tree ) | ( within NUMBER tree ) | ( at-most-once tree )
--         | ( sometime-after tree tree ) | ( sometime-before tree tree ) | ( at end tree )
use Rattle.std.specs.Prelude.{ℕ, List, [], ◌∷◌, Option, Some, None, if◌then◌else◌}
use lib.Chars.{codes}
use Rattle.pddl_terms.specs.declared.grammar.Line.TheVariants.{Number, Tree, Con, Trail, VariableList}
use Rattle.pddl_terms.specs.declared.grammar.Rest.{Rest}
use Rattle.pddl_terms.specs.declared.grammar.Rest.TheVariants.{One, Two, Many, Skipped, OptionalName, EndAnd}
use Rattle.pddl_terms.specs.declared.heads.TrailHead.{TrailHead}
use Rattle.pddl_terms.specs.declared.heads.TrailHead.TheVariants as trails
use Rattle.pddl_terms.specs.declared.heads.ConHead.{ConHead}
use Rattle.pddl_terms.specs.declared.heads.ConHead.TheVariants as heads
use Rattle.pddl_terms.specs.declared.trees.Trajectory.{Trajectory}
use Rattle.pddl_terms.specs.declared.trees.Trajectory.TheVariants as trail
use Rattle.pddl_terms.specs.declared.trees.ConForm.{ConForm}
use Rattle.pddl_terms.specs.declared.trees.ConForm.TheVariants as con
use Rattle.pddl_terms.specs.Words.{same_word, is_left_out}
use Rattle.pddl_terms.specs.Content.{Content, End, Word, Inner, behind}
use Rattle.pddl_terms.specs.Numbers.{number_at}
use Rattle.pddl_terms.specs.Typed.{name_of, variables}
use Rattle.pddl_terms.specs.Formulas.{fact_tree}

-- What may follow in a list.

-- the trajectory constraint that a word begins
abbrev pub trail_head : List ℕ → Option TrailHead
trail_head word =
    if same_word word (codes "always") then Some trails.Always
    else (if same_word word (codes "sometime") then Some trails.Sometime
    else (if same_word word (codes "within") then Some trails.Within
    else (if same_word word (codes "at-most-once") then Some trails.AtMostOnce
    else (if same_word word (codes "sometime-after") then Some trails.SometimeAfter
    else (if same_word word (codes "sometime-before") then Some trails.SometimeBefore
    else (if same_word word (codes "at") then Some trails.AtEnd
    else None))))))

abbrev pub or_unknown : Option TrailHead → ConHead
or_unknown None = heads.Unknown
or_unknown (Some h) = heads.Trail h

-- what a word begins in a constraint
unfoldable pub con_head : List ℕ → ConHead
con_head word =
    if is_left_out word then heads.LeftOut
    else (if same_word word (codes "and") then heads.And
    else (if same_word word (codes "forall") then heads.Forall
    else (if same_word word (codes "preference") then heads.Preference
    else or_unknown (trail_head word))))

abbrev pub behind_trail : TrailHead → Rest
behind_trail trails.Always = One Tree
behind_trail trails.Sometime = One Tree
behind_trail trails.Within = Two Number Tree
behind_trail trails.AtMostOnce = One Tree
behind_trail trails.SometimeAfter = Two Tree Tree
behind_trail trails.SometimeBefore = Two Tree Tree
behind_trail trails.AtEnd = EndAnd Tree

abbrev pub con_rest : ConHead → Option Rest
con_rest heads.LeftOut = Some Skipped
con_rest heads.And = Some (Many Con)
con_rest heads.Forall = Some (Two VariableList Con)
con_rest heads.Preference = Some (OptionalName Trail)
con_rest (heads.Trail h) = Some (behind_trail h)
con_rest heads.Unknown = None

abbrev pub trail_rest : ConHead → Option Rest
trail_rest heads.LeftOut = Some Skipped
trail_rest heads.And = None
trail_rest heads.Forall = None
trail_rest heads.Preference = None
trail_rest (heads.Trail h) = Some (behind_trail h)
trail_rest heads.Unknown = None

-- Trees.

-- a trajectory constraint that opens at a place, from behind its word on
abbrev pub trail_by : TrailHead → ℕ → Content → Trajectory
trail_by trails.Always at x = trail.Always at (fact_tree x)
trail_by trails.Sometime at x = trail.Sometime at (fact_tree x)
trail_by trails.Within at x = trail.Within at (number_at x) (fact_tree (behind x))
trail_by trails.AtMostOnce at x = trail.AtMostOnce at (fact_tree x)
trail_by trails.SometimeAfter at x = trail.SometimeAfter at (fact_tree x) (fact_tree (behind x))
trail_by trails.SometimeBefore at x = trail.SometimeBefore at (fact_tree x) (fact_tree (behind x))
trail_by trails.AtEnd at x = trail.AtEnd at (fact_tree (behind x))

abbrev pub trail_of : ConHead → ℕ → Content → Trajectory
trail_of (heads.Trail h) at x = trail_by h at x
trail_of h at x = trail.LeftOut at

unfoldable pub trail_list : ℕ → Content → Trajectory
trail_list at (Word w more) = trail_of (con_head w.bytes) at more
trail_list at (End close) = trail.LeftOut at
trail_list at (Inner place inner more) = trail.LeftOut at

-- the trajectory constraint that stands next
unfoldable pub trail_tree : Content → Trajectory
trail_tree (Inner at inner more) = trail_list at inner
trail_tree (End close) = trail.LeftOut 0
trail_tree (Word w more) = trail.LeftOut 0

-- [NAME] trail
unfoldable pub preference : ℕ → Content → ConForm
preference at (Word w more) = con.Preference at (Some (name_of w)) (trail_tree more)
preference at (Inner place inner more) = con.Preference at None (trail_list place inner)
preference at (End close) = con.Preference at None (trail.LeftOut 0)

-- A constraint that opens at a place, `parts` being the constraints that follow in the list and `body` the one behind
-- what stands next.
abbrev pub con_by : ConHead → ℕ → List ConForm → ConForm → Content → ConForm
con_by heads.LeftOut at parts body x = con.Hard (trail.LeftOut at)
con_by heads.And at parts body x = con.And at parts
con_by heads.Forall at parts body x = con.Forall at (variables x) body
con_by heads.Preference at parts body x = preference at x
con_by (heads.Trail h) at parts body x = con.Hard (trail_by h at x)
con_by heads.Unknown at parts body x = con.Hard (trail.LeftOut at)

unfoldable mutual
  -- the constraint of a list that opens at a place
  pub con_list : ℕ → Content → ConForm
  con_list at (Word w more) = con_by (con_head w.bytes) at (cons more) (con_behind more) more
  con_list at (End close) = con.Hard (trail.LeftOut at)
  con_list at (Inner place inner more) = con.Hard (trail.LeftOut at)

  -- con*
  pub cons : Content → List ConForm
  cons (End close) = []
  cons (Word w more) = cons more
  cons (Inner at inner more) = con_list at inner ∷ cons more

  -- the constraint behind what stands next
  pub con_behind : Content → ConForm
  con_behind (End close) = con.Hard (trail.LeftOut 0)
  con_behind (Word w more) = con_tree more
  con_behind (Inner at inner more) = con_tree more

  -- the constraint that stands next
  pub con_tree : Content → ConForm
  con_tree (Inner at inner more) = con_list at inner
  con_tree (End close) = con.Hard (trail.LeftOut 0)
  con_tree (Word w more) = con.Hard (trail.LeftOut 0)
