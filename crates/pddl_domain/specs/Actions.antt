-- Believed: the trees of actions.
use Rattle.std.specs.Prelude.{ℕ, List, [], ◌∷◌, ◌++◌, Option, Some, None}
use lib.Chars.{codes}
use Rattle.pddl_terms.specs.declared.domain_heads.DomainHead.{DomainHead}
use Rattle.pddl_terms.specs.declared.domain_heads.DomainHead.TheVariants as section
use Rattle.pddl_terms.specs.declared.grammar.ActionSort.{ActionSort}
use Rattle.pddl_terms.specs.declared.grammar.ActionSort.TheVariants.{Instant, Durative}
use Rattle.pddl_terms.specs.declared.files.ActionBody.{ActionBody}
use Rattle.pddl_terms.specs.declared.files.ActionBody.TheVariants as body
use Rattle.pddl_terms.specs.declared.files.ActionDef.{ActionDef}
use Rattle.pddl_terms.specs.declared.trees.CondTree.{CondTree}
use Rattle.pddl_terms.specs.declared.trees.DurTree.{DurTree}
use Rattle.pddl_terms.specs.declared.trees.DurTree.TheVariants as dur
use Rattle.pddl_terms.specs.declared.trees.EffTree.{EffTree}
use Rattle.pddl_terms.specs.declared.trees.Group.{Group}
use Rattle.pddl_terms.specs.declared.trees.TimedCond.{TimedCond}
use Rattle.pddl_terms.specs.declared.trees.TimedEff.{TimedEff}
use Rattle.pddl_terms.specs.Content.{Content, End, Word, Inner, behind}
use Rattle.pddl_terms.specs.Shape.{word_ahead}
use Rattle.pddl_terms.specs.Typed.{variables}
use Rattle.pddl_terms.specs.Conditions.{cond_tree}
use Rattle.pddl_terms.specs.Durations.{dur_tree}
use Rattle.pddl_terms.specs.Domains.{domain_head}
use Rattle.pddl_terms.specs.Sections.{behind_word, name_at}
use Rattle.pddl_domain.specs.Effects.{eff_tree}
use Rattle.pddl_domain.specs.Timed.{timed_cond_tree, timed_eff_tree}

-- What stands behind a keyword, where the action has it.

abbrev pub parameters_of : Option Content → List Group
parameters_of None = []
parameters_of (Some x) = variables x

abbrev pub condition_of : Option Content → Option CondTree
condition_of None = None
condition_of (Some x) = Some (cond_tree x)

abbrev pub effect_of : Option Content → Option EffTree
effect_of None = None
effect_of (Some x) = Some (eff_tree x)

abbrev pub duration_of : Option Content → DurTree
duration_of None = dur.LeftOut 0
duration_of (Some x) = dur_tree x

abbrev pub timed_condition_of : Option Content → Option TimedCond
timed_condition_of None = None
timed_condition_of (Some x) = Some (timed_cond_tree x)

abbrev pub timed_effect_of : Option Content → Option TimedEff
timed_effect_of None = None
timed_effect_of (Some x) = Some (timed_eff_tree x)

abbrev pub instant_body : Content → ActionBody
instant_body x = body.Instant (condition_of (behind_word (codes ":precondition") x)) (effect_of (behind_word (codes ":effect") x))

abbrev pub durative_body : Content → ActionBody
durative_body x =
    body.Durative (duration_of (behind_word (codes ":duration") x)) (timed_condition_of (behind_word (codes ":condition") x))
    (timed_effect_of (behind_word (codes ":effect") x))

abbrev pub action_body : ActionSort → Content → ActionBody
action_body Instant x = instant_body x
action_body Durative x = durative_body x

-- an action that opens at a place, from its name on
unfoldable pub action_tree : ActionSort → ℕ → Content → ActionDef
action_tree sort at x = record {
  at = at;
  name = name_at x;
  parameters = parameters_of (behind_word (codes ":parameters") x);
  body = action_body sort x;
}

-- the action that a section is, if it is one
abbrev pub as_action : DomainHead → ℕ → Content → List ActionDef
as_action (section.Action sort) at x = action_tree sort at x ∷ []
as_action h at x = []

-- the actions among the sections
unfoldable pub actions : Content → List ActionDef
actions (End close) = []
actions (Word w more) = actions more
actions (Inner at inner more) = as_action (domain_head (word_ahead inner)) at (behind inner) ++ actions more
