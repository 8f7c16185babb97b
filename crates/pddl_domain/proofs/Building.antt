-- The trees of a domain, one item after the other.
use Rattle.std.proofs.Common.{◌≡◌, ℕ, List, [], ◌∷◌, ◌++◌, refl, sym, ap, ◌∙◌, Bool, Option}
use Rattle.pddl_terms.specs.declared.domain_heads.EffHead.{EffHead}
use Rattle.pddl_terms.specs.declared.domain_heads.TimedCondHead.{TimedCondHead}
use Rattle.pddl_terms.specs.declared.domain_heads.TimedEffHead.{TimedEffHead}
use lib.Chars.{codes}
use Rattle.pddl_terms.specs.declared.files.ActionBody.{ActionBody}
use Rattle.pddl_terms.specs.declared.files.ActionBody.TheVariants as bodies
use Rattle.pddl_terms.specs.declared.trees.DurTree.{DurTree}
use Rattle.pddl_terms.specs.declared.trees.TimedCond.{TimedCond}
use Rattle.pddl_terms.specs.declared.trees.TimedEff.{TimedEff}
use Rattle.pddl_terms.proofs.Building.{both}
use Rattle.pddl_terms.specs.declared.files.Domain.{Domain}
use Rattle.pddl_terms.specs.declared.grammar.ActionSort.{ActionSort}
use Rattle.pddl_terms.specs.declared.trees.Group.{Group}
use Rattle.pddl_terms.specs.declared.trees.Name.{Name}
use Rattle.pddl_terms.specs.declared.files.Declared.TheVariants as declared
use Rattle.pddl_terms.specs.declared.trees.Call.TheVariants as call
use Rattle.pddl_terms.specs.declared.trees.EffTree.TheVariants as eff
use Rattle.pddl_terms.specs.declared.trees.RateTree.TheVariants as rate
use Rattle.pddl_terms.specs.declared.trees.TimedCond.TheVariants as timed_cond
use Rattle.pddl_terms.specs.declared.trees.TimedEff.TheVariants as timed_eff
use Rattle.pddl_terms.specs.Content.{Content, Lexeme, End, Word, Inner, behind}
use Rattle.pddl_terms.specs.Items.{IsNoList, IsNoWord}
use Rattle.pddl_terms.specs.Words.{is_left_out}
use Rattle.pddl_terms.specs.Effects.{is_left_out_of_effect, eff_head, timed_eff_head, timed_cond_head}
use Rattle.pddl_terms.specs.Domains.{domain_head}
use Rattle.pddl_terms.specs.Shape.{word_ahead}
use Rattle.pddl_terms.specs.Calls.{call_of}
use Rattle.pddl_terms.specs.Sections.{section, behind_word, left_out, name_at, heading, names_of, groups_of, constraints_of}
use Rattle.pddl_domain.specs.Effects.{deleted_list, deleted_tree, eff_by, eff_list, effs, eff_tree}
use Rattle.pddl_domain.specs.Timed.{timed_cond_by, timed_cond_list, timed_conds, timed_cond_tree, rate_by, rate_list, rate_tree, timed_eff_by, timed_eff_list, timed_effs, timed_eff_tree}
use Rattle.pddl_domain.specs.Actions.{parameters_of, duration_of, timed_condition_of, timed_effect_of, durative_body, action_body, action_tree, as_action, actions}
use Rattle.pddl_domain.specs.Domains.{declared_by, declared_list, declarations, declarations_of, domain_of, domain_tree}

module _ (x : Content) where
  pub effs-end : (c : ℕ) → x ≡ End c → effs x ≡ []
  unfolding effs
  effs-end c e = ap effs e

  pub effs-word : (w : Lexeme) (more : Content) → x ≡ Word w more → effs x ≡ effs more
  unfolding effs
  effs-word w more e = ap effs e

  pub effs-list : (at : ℕ) (inner more : Content) → x ≡ Inner at inner more → effs x ≡ eff_tree x ∷ effs more
  unfolding effs eff_tree
  effs-list at inner more e = ap effs e ∙ ap (λ t. t ∷ effs more) (sym (ap eff_tree e))

module _ (x : Content) where
  pub eff_tree-none : IsNoList x → eff.Empty 0 ≡ eff_tree x
  unfolding eff_tree
  eff_tree-none = by_content x
    where
      by_content : (y : Content) → IsNoList y → eff.Empty 0 ≡ eff_tree y
      by_content (End c) n = refl
      by_content (Word w more) n = refl
      by_content (Inner at inner more) n = absurd n

  pub eff_tree-empty : (at : ℕ) (y more : Content) → x ≡ Inner at y more → IsNoWord y → eff.Empty at ≡ eff_tree x
  unfolding eff_tree eff_list
  eff_tree-empty at y more e n = by_content y n ∙ sym (ap eff_tree e)
    where
      by_content : (z : Content) → IsNoWord z → eff.Empty at ≡ eff_list at z
      by_content (End c) n = refl
      by_content (Word w more) n = absurd n
      by_content (Inner at inner more) n = refl

  pub eff_tree-by : (h : EffHead) (at : ℕ) (w : Lexeme) (z more : Content) {v : List ℕ} → h ≡ eff_head v → v ≡ w.bytes → x ≡ Inner at (Word w z) more
      → eff_by h at w (effs z) z ≡ eff_tree x
  unfolding eff_tree eff_list
  eff_tree-by h at w z more e f k = ap (λ g. eff_by g at w (effs z) z) (e ∙ ap eff_head f) ∙ sym (ap eff_tree k)

module _ (x : Content) where
  pub deleted_tree-none : IsNoList x → call.LeftOut 0 ≡ deleted_tree x
  unfolding deleted_tree
  deleted_tree-none = by_content x
    where
      by_content : (y : Content) → IsNoList y → call.LeftOut 0 ≡ deleted_tree y
      by_content (End c) n = refl
      by_content (Word w more) n = refl
      by_content (Inner at inner more) n = absurd n

  pub deleted_tree-empty : (at : ℕ) (y more : Content) → x ≡ Inner at y more → IsNoWord y → call.LeftOut at ≡ deleted_tree x
  unfolding deleted_tree
  deleted_tree-empty at y more e n = by_content y n ∙ sym (ap deleted_tree e)
    where
      by_content : (z : Content) → IsNoWord z → call.LeftOut at ≡ deleted_list at z
      by_content (End c) n = refl
      by_content (Word w more) n = absurd n
      by_content (Inner at inner more) n = refl

  pub deleted_tree-by : (b : Bool) (at : ℕ) (w : Lexeme) (z more : Content) {v : List ℕ} → b ≡ is_left_out_of_effect v → v ≡ w.bytes → x ≡ Inner at (Word w z) more
      → call_of b at w z ≡ deleted_tree x
  unfolding deleted_tree
  deleted_tree-by b at w z more e f k = ap (λ g. call_of g at w z) (e ∙ ap is_left_out_of_effect f) ∙ sym (ap deleted_tree k)

module _ (x : Content) where
  pub timed_conds-end : (c : ℕ) → x ≡ End c → timed_conds x ≡ []
  unfolding timed_conds
  timed_conds-end c e = ap timed_conds e

  pub timed_conds-word : (w : Lexeme) (more : Content) → x ≡ Word w more → timed_conds x ≡ timed_conds more
  unfolding timed_conds
  timed_conds-word w more e = ap timed_conds e

  pub timed_conds-list : (at : ℕ) (inner more : Content) → x ≡ Inner at inner more → timed_conds x ≡ timed_cond_tree x ∷ timed_conds more
  unfolding timed_conds timed_cond_tree
  timed_conds-list at inner more e = ap timed_conds e ∙ ap (λ t. t ∷ timed_conds more) (sym (ap timed_cond_tree e))

module _ (x : Content) where
  pub timed_cond_tree-none : IsNoList x → timed_cond.Empty 0 ≡ timed_cond_tree x
  unfolding timed_cond_tree
  timed_cond_tree-none = by_content x
    where
      by_content : (y : Content) → IsNoList y → timed_cond.Empty 0 ≡ timed_cond_tree y
      by_content (End c) n = refl
      by_content (Word w more) n = refl
      by_content (Inner at inner more) n = absurd n

  pub timed_cond_tree-empty : (at : ℕ) (y more : Content) → x ≡ Inner at y more → IsNoWord y → timed_cond.Empty at ≡ timed_cond_tree x
  unfolding timed_cond_tree timed_cond_list
  timed_cond_tree-empty at y more e n = by_content y n ∙ sym (ap timed_cond_tree e)
    where
      by_content : (z : Content) → IsNoWord z → timed_cond.Empty at ≡ timed_cond_list at z
      by_content (End c) n = refl
      by_content (Word w more) n = absurd n
      by_content (Inner at inner more) n = refl

  pub timed_cond_tree-by : (h : TimedCondHead) (at : ℕ) (w : Lexeme) (z more : Content) {v : List ℕ} → h ≡ timed_cond_head v → v ≡ w.bytes → x ≡ Inner at (Word w z) more
      → timed_cond_by h at (timed_conds z) z ≡ timed_cond_tree x
  unfolding timed_cond_tree timed_cond_list
  timed_cond_tree-by h at w z more e f k = ap (λ g. timed_cond_by g at (timed_conds z) z) (e ∙ ap timed_cond_head f) ∙ sym (ap timed_cond_tree k)

module _ (x : Content) where
  pub timed_effs-end : (c : ℕ) → x ≡ End c → timed_effs x ≡ []
  unfolding timed_effs
  timed_effs-end c e = ap timed_effs e

  pub timed_effs-word : (w : Lexeme) (more : Content) → x ≡ Word w more → timed_effs x ≡ timed_effs more
  unfolding timed_effs
  timed_effs-word w more e = ap timed_effs e

  pub timed_effs-list : (at : ℕ) (inner more : Content) → x ≡ Inner at inner more → timed_effs x ≡ timed_eff_tree x ∷ timed_effs more
  unfolding timed_effs timed_eff_tree
  timed_effs-list at inner more e = ap timed_effs e ∙ ap (λ t. t ∷ timed_effs more) (sym (ap timed_eff_tree e))

module _ (x : Content) where
  pub timed_eff_tree-none : IsNoList x → timed_eff.Empty 0 ≡ timed_eff_tree x
  unfolding timed_eff_tree
  timed_eff_tree-none = by_content x
    where
      by_content : (y : Content) → IsNoList y → timed_eff.Empty 0 ≡ timed_eff_tree y
      by_content (End c) n = refl
      by_content (Word w more) n = refl
      by_content (Inner at inner more) n = absurd n

  pub timed_eff_tree-empty : (at : ℕ) (y more : Content) → x ≡ Inner at y more → IsNoWord y → timed_eff.Empty at ≡ timed_eff_tree x
  unfolding timed_eff_tree timed_eff_list
  timed_eff_tree-empty at y more e n = by_content y n ∙ sym (ap timed_eff_tree e)
    where
      by_content : (z : Content) → IsNoWord z → timed_eff.Empty at ≡ timed_eff_list at z
      by_content (End c) n = refl
      by_content (Word w more) n = absurd n
      by_content (Inner at inner more) n = refl

  pub timed_eff_tree-by : (h : TimedEffHead) (at : ℕ) (w : Lexeme) (z more : Content) {v : List ℕ} → h ≡ timed_eff_head v → v ≡ w.bytes → x ≡ Inner at (Word w z) more
      → timed_eff_by h at (timed_effs z) z ≡ timed_eff_tree x
  unfolding timed_eff_tree timed_eff_list
  timed_eff_tree-by h at w z more e f k = ap (λ g. timed_eff_by g at (timed_effs z) z) (e ∙ ap timed_eff_head f) ∙ sym (ap timed_eff_tree k)

module _ (x : Content) where
  pub rate_tree-end : (c : ℕ) → x ≡ End c → rate.LeftOut 0 ≡ rate_tree x
  unfolding rate_tree
  rate_tree-end c e = sym (ap rate_tree e)

  pub rate_tree-word : (w : Lexeme) (more : Content) → x ≡ Word w more → rate.One w.at ≡ rate_tree x
  unfolding rate_tree
  rate_tree-word w more e = sym (ap rate_tree e)

  pub rate_tree-list : (at : ℕ) (inner more : Content) → x ≡ Inner at inner more → rate_list at inner ≡ rate_tree x
  unfolding rate_tree
  rate_tree-list at inner more e = sym (ap rate_tree e)

module _ (at : ℕ) (x : Content) where
  pub rate_list-end : (c : ℕ) → x ≡ End c → rate.LeftOut at ≡ rate_list at x
  rate_list-end c e = sym (ap (rate_list at) e)

  pub rate_list-list : (place : ℕ) (inner more : Content) → x ≡ Inner place inner more → rate.LeftOut at ≡ rate_list at x
  rate_list-list place inner more e = sym (ap (rate_list at) e)

  pub rate_list-word : (w : Lexeme) (more : Content) → x ≡ Word w more → rate_by (is_left_out w.bytes) at more ≡ rate_list at x
  rate_list-word w more e = sym (ap (rate_list at) e)

  pub declared_list-end : (c : ℕ) → x ≡ End c → declared.LeftOut at ≡ declared_list at x
  declared_list-end c e = sym (ap (declared_list at) e)

  pub declared_list-list : (place : ℕ) (inner more : Content) → x ≡ Inner place inner more → declared.LeftOut at ≡ declared_list at x
  declared_list-list place inner more e = sym (ap (declared_list at) e)

  pub declared_list-word : (w : Lexeme) (more : Content) → x ≡ Word w more → declared_by (is_left_out w.bytes) at w more ≡ declared_list at x
  declared_list-word w more e = sym (ap (declared_list at) e)

module _ (x : Content) where
  pub declarations-end : (c : ℕ) → x ≡ End c → declarations x ≡ []
  unfolding declarations
  declarations-end c e = ap declarations e

  pub declarations-word : (w : Lexeme) (more : Content) → x ≡ Word w more → declarations x ≡ declarations more
  unfolding declarations
  declarations-word w more e = ap declarations e

  pub declarations-list : (at : ℕ) (inner more : Content) → x ≡ Inner at inner more → declarations x ≡ declared_list at inner ∷ declarations more
  unfolding declarations
  declarations-list at inner more e = ap declarations e

  pub actions-end : (c : ℕ) → x ≡ End c → actions x ≡ []
  unfolding actions
  actions-end c e = ap actions e

  pub actions-word : (w : Lexeme) (more : Content) → x ≡ Word w more → actions x ≡ actions more
  unfolding actions
  actions-word w more e = ap actions e

  pub actions-list : (at : ℕ) (inner more : Content) → x ≡ Inner at inner more → actions x ≡ as_action (domain_head (word_ahead inner)) at (behind inner) ++ actions more
  unfolding actions
  actions-list at inner more e = ap actions e

  pub domain_tree-end : (c : ℕ) → x ≡ End c → domain_of x ≡ domain_tree x
  unfolding domain_tree
  domain_tree-end c e = ap domain_of e ∙ sym (ap domain_tree e)

  pub domain_tree-word : (w : Lexeme) (more : Content) → x ≡ Word w more → domain_of more ≡ domain_tree x
  unfolding domain_tree
  domain_tree-word w more e = sym (ap domain_tree e)

  pub domain_tree-list : (at : ℕ) (inner more : Content) → x ≡ Inner at inner more → domain_of (behind inner) ≡ domain_tree x
  unfolding domain_tree
  domain_tree-list at inner more e = sym (ap domain_tree e)

-- a domain whose parts are those that the text tells
pub whole-domain : (x : Content) (d : Domain) → d.name ≡ heading x → d.requirements ≡ names_of (section (codes ":requirements") x)
    → d.types ≡ groups_of (section (codes ":types") x) → d.constants ≡ groups_of (section (codes ":constants") x)
    → d.predicates ≡ declarations_of (section (codes ":predicates") x) → d.functions ≡ declarations_of (section (codes ":functions") x)
    → d.constraints ≡ constraints_of (section (codes ":constraints") x) → d.actions ≡ actions x → d.left_out ≡ left_out x → d ≡ domain_of x
unfolding domain_of
whole-domain x d a b c e f g h i j =
    ap (λ v. record (domain_of x) { name = v; requirements = d.requirements; types = d.types; constants = d.constants; predicates = d.predicates; functions = d.functions; constraints = d.constraints; actions = d.actions; left_out = d.left_out }) a
    ∙ ap (λ v. record (domain_of x) { requirements = v; types = d.types; constants = d.constants; predicates = d.predicates; functions = d.functions; constraints = d.constraints; actions = d.actions; left_out = d.left_out }) b
    ∙ ap (λ v. record (domain_of x) { types = v; constants = d.constants; predicates = d.predicates; functions = d.functions; constraints = d.constraints; actions = d.actions; left_out = d.left_out }) c
    ∙ ap (λ v. record (domain_of x) { constants = v; predicates = d.predicates; functions = d.functions; constraints = d.constraints; actions = d.actions; left_out = d.left_out }) e
    ∙ ap (λ v. record (domain_of x) { predicates = v; functions = d.functions; constraints = d.constraints; actions = d.actions; left_out = d.left_out }) f
    ∙ ap (λ v. record (domain_of x) { functions = v; constraints = d.constraints; actions = d.actions; left_out = d.left_out }) g
    ∙ ap (λ v. record (domain_of x) { constraints = v; actions = d.actions; left_out = d.left_out }) h
    ∙ ap (λ v. record (domain_of x) { actions = v; left_out = d.left_out }) i
    ∙ ap (λ v. record (domain_of x) { left_out = v }) j

pub whole-durative : (x : Content) (d : DurTree) (k : Option TimedCond) (e : Option TimedEff) → d ≡ duration_of (behind_word (codes ":duration") x)
    → k ≡ timed_condition_of (behind_word (codes ":condition") x) → e ≡ timed_effect_of (behind_word (codes ":effect") x) → bodies.Durative d k e ≡ durative_body x
whole-durative x d k e f g h = ap (λ v. bodies.Durative v k e) f
    ∙ both (bodies.Durative (duration_of (behind_word (codes ":duration") x))) g h

pub whole-action : (sort : ActionSort) (at : ℕ) (x : Content) (n : Name) (p : List Group) (b : ActionBody) → n ≡ name_at x
    → p ≡ parameters_of (behind_word (codes ":parameters") x) → b ≡ action_body sort x → record { at = at; name = n; parameters = p; body = b } ≡ action_tree sort at x
unfolding action_tree
whole-action sort at x n p b e f g =
    ap (λ v. record (action_tree sort at x) { name = v; parameters = p; body = b }) e
    ∙ ap (λ v. record (action_tree sort at x) { parameters = v; body = b }) f
    ∙ ap (λ v. record (action_tree sort at x) { body = v }) g
