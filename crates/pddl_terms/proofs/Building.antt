-- The trees of a text, one item after the other.
use Rattle.std.proofs.Common.{◌≡◌, ℕ, List, [], ◌∷◌, ◌++◌, refl, sym, ap, ◌∙◌, append-nil, append_assoc, true, false, if◌then◌else◌, Result, Ok, Err, pos, Some, None}
use Rattle.std.specs.Prelude.{IfOk}
use Rattle.pddl_terms.specs.declared.grammar.Listed.{Listed}
use Rattle.pddl_terms.specs.declared.grammar.Listed.TheVariants as listed
use Rattle.pddl_terms.specs.declared.heads.ExprHead.{ExprHead}
use Rattle.pddl_terms.specs.declared.heads.CondHead.{CondHead}
use Rattle.pddl_terms.specs.declared.heads.TreeHead.{TreeHead}
use Rattle.pddl_terms.specs.declared.heads.ConHead.{ConHead}
use Rattle.pddl_terms.specs.declared.heads.DurHead.{DurHead}
use Rattle.pddl_terms.specs.declared.trees.Name.{Name}
use Rattle.pddl_terms.specs.declared.trees.Group.{Group}
use Rattle.pddl_terms.specs.declared.trees.TypeName.{TypeName}
use Rattle.pddl_terms.specs.declared.trees.TypeName.TheVariants as type
use Rattle.pddl_terms.specs.declared.trees.ExprTree.TheVariants as expr
use Rattle.pddl_terms.specs.declared.trees.Side.TheVariants as side
use Rattle.pddl_terms.specs.declared.trees.CondTree.TheVariants as cond
use Rattle.pddl_terms.specs.declared.trees.FactForm.TheVariants as fact
use Rattle.pddl_terms.specs.declared.trees.Trajectory.{Trajectory}
use Rattle.pddl_terms.specs.declared.trees.Trajectory.TheVariants as trail
use Rattle.pddl_terms.specs.declared.trees.ConForm.TheVariants as con
use Rattle.pddl_terms.specs.declared.trees.DurTree.TheVariants as dur
use Rattle.pddl_terms.specs.Durations.{dur_head, dur_by, dur_list, durs, dur_behind, dur_tree}
use Rattle.pddl_terms.specs.Content.{Content, Lexeme, End, Word, Inner, behind}
use Rattle.pddl_terms.specs.Items.{IsNoList, IsNoWord}
use Rattle.rational.specs.Rational.{whole}
use Rattle.pddl_terms.specs.Words.{is_number}
use Rattle.pddl_terms.specs.Numbers.{number_value, number_at}
use Rattle.pddl_terms.specs.Typed.{name_of, term_of, terms, is_listed, type_of, group_of, groups, groups_of, variables}
use Rattle.pddl_terms.specs.Expressions.{expr_head, expr_word, expr_by, expr_list, exprs, expr_behind, expr_tree, side_word, side_tree}
use Rattle.pddl_terms.specs.Conditions.{cond_head, cmp_by, cmp_list, cmp_tree, denied_by, denied_list, denied_tree, cond_by, cond_list, conds, cond_behind, cond_tree}
use Rattle.pddl_terms.specs.Formulas.{tree_head, fact_by, fact_list, facts, fact_behind, fact_tree}
use Rattle.pddl_terms.specs.Constraints.{con_head, trail_of, trail_list, trail_tree, preference, con_by, con_list, cons, con_behind, con_tree}

-- the answer to one question is the answer to an equal one
pub answered : {A E : Type 0} (r : Result A E) {a b : A} → a ≡ b → IfOk r (λ x. x ≡ a) → IfOk r (λ x. x ≡ b)
answered (Ok x) e h = h ∙ e
answered (Err x) e h = tt

-- what is told at the head that was found is told at the head
pub at_head : {H A : Type 0} (f : H → A) {h k : H} {t : A} → h ≡ k → t ≡ f k → t ≡ f h
at_head f e g = g ∙ sym (ap f e)

pub answered_at : {H A E : Type 0} (f : H → A) {h k : H} (r : Result A E) → h ≡ k → IfOk r (λ x. x ≡ f k) → IfOk r (λ x. x ≡ f h)
answered_at f r e a = answered r (sym (ap f e)) a

-- equal parts make equal wholes
pub both : {A B C : Type 0} (f : A → B → C) {a a' : A} {b b' : B} → a ≡ a' → b ≡ b' → f a b ≡ f a' b'
both f {a} {a'} {b} {b'} e g = ap (λ x. f x b) e ∙ ap (f a') g

-- a list whose content is told
pub holding : {at : ℕ} {x y z more : Content} → x ≡ Inner at y more → y ≡ z → x ≡ Inner at z more
holding {at} {x} {y} {z} {more} e f = e ∙ ap (λ c. Inner at c more) f

module _ (x : Content) where
  pub terms-end : (c : ℕ) → x ≡ End c → terms x ≡ []
  unfolding terms
  terms-end c e = ap terms e

  pub terms-word : (w : Lexeme) (more : Content) → x ≡ Word w more → terms x ≡ term_of w ∷ terms more
  unfolding terms
  terms-word w more e = ap terms e

  pub terms-list : (at : ℕ) (inner more : Content) → x ≡ Inner at inner more → terms x ≡ terms more
  unfolding terms
  terms-list at inner more e = ap terms e

  pub type_of-end : (c : ℕ) → x ≡ End c → type_of x ≡ type.Object
  unfolding type_of
  type_of-end c e = ap type_of e

  pub type_of-word : (w : Lexeme) (more : Content) → x ≡ Word w more → type_of x ≡ type.Named (name_of w)
  unfolding type_of
  type_of-word w more e = ap type_of e

  pub type_of-list : (at : ℕ) (inner more : Content) → x ≡ Inner at inner more → type_of x ≡ type.LeftOut at
  unfolding type_of
  type_of-list at inner more e = ap type_of e

  pub number_at-end : (c : ℕ) → x ≡ End c → number_at x ≡ whole (pos 0)
  unfolding number_at
  number_at-end c e = ap number_at e

  pub number_at-number : (w : Lexeme) (more : Content) → x ≡ Word w more → is_number w.kind ≡ true → number_at x ≡ number_value w.bytes
  unfolding number_at
  number_at-number w more e f = ap number_at e ∙ ap (λ b. if b then number_value w.bytes else whole (pos 0)) f

  pub number_at-other : (w : Lexeme) (more : Content) → x ≡ Word w more → is_number w.kind ≡ false → number_at x ≡ whole (pos 0)
  unfolding number_at
  number_at-other w more e f = ap number_at e ∙ ap (λ b. if b then number_value w.bytes else whole (pos 0)) f

  pub number_at-list : (at : ℕ) (inner more : Content) → x ≡ Inner at inner more → number_at x ≡ whole (pos 0)
  unfolding number_at
  number_at-list at inner more e = ap number_at e

  pub variables-end : (c : ℕ) → x ≡ End c → variables x ≡ []
  unfolding variables
  variables-end c e = ap variables e

  pub variables-word : (w : Lexeme) (more : Content) → x ≡ Word w more → variables x ≡ []
  unfolding variables
  variables-word w more e = ap variables e

  pub variables-list : (at : ℕ) (inner more : Content) → x ≡ Inner at inner more → variables x ≡ groups listed.Variables [] inner
  unfolding variables
  variables-list at inner more e = ap variables e

module _ (of : Listed) (before : List Name) (x : Content) where
  pub groups-end : (c : ℕ) → x ≡ End c → groups of before x ≡ group_of before type.Object
  unfolding groups
  groups-end c e = ap (groups of before) e

  pub groups-list : (at : ℕ) (inner more : Content) → x ≡ Inner at inner more → groups of before x ≡ groups of before more
  unfolding groups
  groups-list at inner more e = ap (groups of before) e

  pub groups-listed : (w : Lexeme) (more : Content) → x ≡ Word w more → is_listed of w.kind ≡ true
      → groups of before x ≡ groups of (before ++ name_of w ∷ []) more
  unfolding groups
  groups-listed w more e f = ap (groups of before) e ∙ ap (λ b. if b then groups of (before ++ name_of w ∷ []) more else groups_of of before more) f

  -- behind the mark, a type and then more
  typed-behind : groups_of of before x ≡ group_of before (type_of x) ++ groups of [] (behind x)
  unfolding groups_of groups type_of
  typed-behind = by_content x
    where
      by_content : (y : Content) → groups_of of before y ≡ group_of before (type_of y) ++ groups of [] (behind y)
      by_content (End c) = sym (append-nil (group_of before type.Object))
      by_content (Word w more) = refl
      by_content (Inner at inner more) = refl

module _ (of : Listed) (before : List Name) (x : Content) where
  pub groups-typed : (w : Lexeme) (more : Content) → x ≡ Word w more → is_listed of w.kind ≡ false
      → groups of before x ≡ group_of before (type_of more) ++ groups of [] (behind more)
  unfolding groups
  groups-typed w more e f = ap (groups of before) e ∙ ap (λ b. if b then groups of (before ++ name_of w ∷ []) more else groups_of of before more) f ∙ typed-behind of before more

-- a group is put out, and the list goes on behind its type
pub grouped : (of : Listed) (before fresh : List Name) (out new whole : List Group) (t : TypeName) (x y z : Content) (w : Lexeme)
    → out ++ groups of before x ≡ whole → x ≡ Word w y → is_listed of w.kind ≡ false → new ≡ out ++ group_of before t → t ≡ type_of y → fresh ≡ [] → z ≡ behind y
    → new ++ groups of fresh z ≡ whole
grouped of before fresh out new whole t x y z w j e f p q r s =
    ap (λ b. new ++ groups of b z) r ∙ ap (λ c. new ++ groups of [] c) s ∙ ap (λ l. l ++ groups of [] (behind y)) (p ∙ ap (λ u. out ++ group_of before u) q)
    ∙ append_assoc out (group_of before (type_of y)) (groups of [] (behind y)) ∙ ap (λ l. out ++ l) (sym (groups-typed of before x w y e f)) ∙ j

module _ (x : Content) where
  pub exprs-end : (c : ℕ) → x ≡ End c → exprs x ≡ []
  unfolding exprs
  exprs-end c e = ap exprs e

  pub exprs-word : (w : Lexeme) (more : Content) → x ≡ Word w more → exprs x ≡ expr_word w ∷ exprs more
  unfolding exprs
  exprs-word w more e = ap exprs e

  pub exprs-list : (at : ℕ) (inner more : Content) → x ≡ Inner at inner more → exprs x ≡ expr_tree x ∷ exprs more
  unfolding exprs expr_tree
  exprs-list at inner more e = ap exprs e ∙ ap (λ t. t ∷ exprs more) (sym (ap expr_tree e))

expr_behind-is : (x : Content) → expr_behind x ≡ expr_tree (behind x)
unfolding expr_behind expr_tree
expr_behind-is (End c) = refl
expr_behind-is (Word w more) = refl
expr_behind-is (Inner at inner more) = refl

module _ (x : Content) where
  pub expr_tree-end : (c : ℕ) → x ≡ End c → expr.LeftOut 0 ≡ expr_tree x
  unfolding expr_tree
  expr_tree-end c e = sym (ap expr_tree e)

  pub expr_tree-word : (w : Lexeme) (more : Content) → x ≡ Word w more → expr_word w ≡ expr_tree x
  unfolding expr_tree
  expr_tree-word w more e = sym (ap expr_tree e)

  pub expr_tree-empty : (at : ℕ) (y more : Content) → x ≡ Inner at y more → IsNoWord y → expr.LeftOut at ≡ expr_tree x
  unfolding expr_tree expr_list
  expr_tree-empty at y more e n = by_content y n ∙ sym (ap expr_tree e)
    where
      by_content : (z : Content) → IsNoWord z → expr.LeftOut at ≡ expr_list at z
      by_content (End c) n = refl
      by_content (Word w more) n = absurd n
      by_content (Inner at inner more) n = refl

  pub expr_tree-by : (h : ExprHead) (at : ℕ) (w : Lexeme) (z more : Content) {v : List ℕ} → h ≡ expr_head v → v ≡ w.bytes → x ≡ Inner at (Word w z) more
      → expr_by h at w (exprs z) (expr_tree z) (expr_tree (behind z)) z ≡ expr_tree x
  unfolding expr_tree expr_list
  expr_tree-by h at w z more e f k = ap (λ g. expr_by g at w (exprs z) (expr_tree z) (expr_tree (behind z)) z) (e ∙ ap expr_head f) ∙ ap (λ b. expr_by (expr_head w.bytes) at w (exprs z) (expr_tree z) b z) (sym (expr_behind-is z)) ∙ sym (ap expr_tree k)

  pub side_tree-end : (c : ℕ) → x ≡ End c → side.Expression (expr_tree x) ≡ side_tree x
  unfolding side_tree expr_tree
  side_tree-end c e = ap (λ y. side.Expression (expr_tree y)) e ∙ sym (ap side_tree e)

  pub side_tree-word : (w : Lexeme) (more : Content) → x ≡ Word w more → side_word w ≡ side_tree x
  unfolding side_tree
  side_tree-word w more e = sym (ap side_tree e)

  pub side_tree-list : (at : ℕ) (inner more : Content) → x ≡ Inner at inner more → side.Expression (expr_tree x) ≡ side_tree x
  unfolding side_tree expr_tree
  side_tree-list at inner more e = ap (λ y. side.Expression (expr_tree y)) e ∙ sym (ap side_tree e)

module _ (x : Content) where
  pub cmp_tree-none : IsNoList x → cond.Empty 0 ≡ cmp_tree x
  unfolding cmp_tree
  cmp_tree-none = by_content x
    where
      by_content : (y : Content) → IsNoList y → cond.Empty 0 ≡ cmp_tree y
      by_content (End c) n = refl
      by_content (Word w more) n = refl
      by_content (Inner at inner more) n = absurd n

  pub cmp_tree-empty : (at : ℕ) (y more : Content) → x ≡ Inner at y more → IsNoWord y → cond.Empty at ≡ cmp_tree x
  unfolding cmp_tree cmp_list
  cmp_tree-empty at y more e n = by_content y n ∙ sym (ap cmp_tree e)
    where
      by_content : (z : Content) → IsNoWord z → cond.Empty at ≡ cmp_list at z
      by_content (End c) n = refl
      by_content (Word w more) n = absurd n
      by_content (Inner at inner more) n = refl

  pub cmp_tree-by : (h : CondHead) (at : ℕ) (w : Lexeme) (z more : Content) {v : List ℕ} → h ≡ cond_head v → v ≡ w.bytes → x ≡ Inner at (Word w z) more
      → cmp_by h at (cmp_tree z) z ≡ cmp_tree x
  unfolding cmp_tree cmp_list
  cmp_tree-by h at w z more e f k = ap (λ g. cmp_by g at (cmp_tree z) z) (e ∙ ap cond_head f) ∙ sym (ap cmp_tree k)

  pub denied_tree-none : IsNoList x → cond.Empty 0 ≡ denied_tree x
  unfolding denied_tree
  denied_tree-none = by_content x
    where
      by_content : (y : Content) → IsNoList y → cond.Empty 0 ≡ denied_tree y
      by_content (End c) n = refl
      by_content (Word w more) n = refl
      by_content (Inner at inner more) n = absurd n

  pub denied_tree-empty : (at : ℕ) (y more : Content) → x ≡ Inner at y more → IsNoWord y → cond.Empty at ≡ denied_tree x
  unfolding denied_tree denied_list
  denied_tree-empty at y more e n = by_content y n ∙ sym (ap denied_tree e)
    where
      by_content : (z : Content) → IsNoWord z → cond.Empty at ≡ denied_list at z
      by_content (End c) n = refl
      by_content (Word w more) n = absurd n
      by_content (Inner at inner more) n = refl

  pub denied_tree-by : (h : CondHead) (at : ℕ) (w : Lexeme) (z more : Content) {v : List ℕ} → h ≡ cond_head v → v ≡ w.bytes → x ≡ Inner at (Word w z) more
      → denied_by h at w z ≡ denied_tree x
  unfolding denied_tree denied_list
  denied_tree-by h at w z more e f k = ap (λ g. denied_by g at w z) (e ∙ ap cond_head f) ∙ sym (ap denied_tree k)

module _ (x : Content) where
  pub conds-end : (c : ℕ) → x ≡ End c → conds x ≡ []
  unfolding conds
  conds-end c e = ap conds e

  pub conds-word : (w : Lexeme) (more : Content) → x ≡ Word w more → conds x ≡ conds more
  unfolding conds
  conds-word w more e = ap conds e

  pub conds-list : (at : ℕ) (inner more : Content) → x ≡ Inner at inner more → conds x ≡ cond_tree x ∷ conds more
  unfolding conds cond_tree
  conds-list at inner more e = ap conds e ∙ ap (λ t. t ∷ conds more) (sym (ap cond_tree e))

cond_behind-is : (x : Content) → cond_behind x ≡ cond_tree (behind x)
unfolding cond_behind cond_tree
cond_behind-is (End c) = refl
cond_behind-is (Word w more) = refl
cond_behind-is (Inner at inner more) = refl

module _ (x : Content) where
  pub cond_tree-none : IsNoList x → cond.Empty 0 ≡ cond_tree x
  unfolding cond_tree
  cond_tree-none = by_content x
    where
      by_content : (y : Content) → IsNoList y → cond.Empty 0 ≡ cond_tree y
      by_content (End c) n = refl
      by_content (Word w more) n = refl
      by_content (Inner at inner more) n = absurd n

  pub cond_tree-empty : (at : ℕ) (y more : Content) → x ≡ Inner at y more → IsNoWord y → cond.Empty at ≡ cond_tree x
  unfolding cond_tree cond_list
  cond_tree-empty at y more e n = by_content y n ∙ sym (ap cond_tree e)
    where
      by_content : (z : Content) → IsNoWord z → cond.Empty at ≡ cond_list at z
      by_content (End c) n = refl
      by_content (Word w more) n = absurd n
      by_content (Inner at inner more) n = refl

  pub cond_tree-by : (h : CondHead) (at : ℕ) (w : Lexeme) (z more : Content) {v : List ℕ} → h ≡ cond_head v → v ≡ w.bytes → x ≡ Inner at (Word w z) more
      → cond_by h at w (conds z) (cond_tree (behind z)) z ≡ cond_tree x
  unfolding cond_tree cond_list
  cond_tree-by h at w z more e f k = ap (λ g. cond_by g at w (conds z) (cond_tree (behind z)) z) (e ∙ ap cond_head f) ∙ ap (λ b. cond_by (cond_head w.bytes) at w (conds z) b z) (sym (cond_behind-is z)) ∙ sym (ap cond_tree k)

module _ (x : Content) where
  pub facts-end : (c : ℕ) → x ≡ End c → facts x ≡ []
  unfolding facts
  facts-end c e = ap facts e

  pub facts-word : (w : Lexeme) (more : Content) → x ≡ Word w more → facts x ≡ facts more
  unfolding facts
  facts-word w more e = ap facts e

  pub facts-list : (at : ℕ) (inner more : Content) → x ≡ Inner at inner more → facts x ≡ fact_tree x ∷ facts more
  unfolding facts fact_tree
  facts-list at inner more e = ap facts e ∙ ap (λ t. t ∷ facts more) (sym (ap fact_tree e))

fact_behind-is : (x : Content) → fact_behind x ≡ fact_tree (behind x)
unfolding fact_behind fact_tree
fact_behind-is (End c) = refl
fact_behind-is (Word w more) = refl
fact_behind-is (Inner at inner more) = refl

module _ (x : Content) where
  pub fact_tree-none : IsNoList x → fact.Empty 0 ≡ fact_tree x
  unfolding fact_tree
  fact_tree-none = by_content x
    where
      by_content : (y : Content) → IsNoList y → fact.Empty 0 ≡ fact_tree y
      by_content (End c) n = refl
      by_content (Word w more) n = refl
      by_content (Inner at inner more) n = absurd n

  pub fact_tree-empty : (at : ℕ) (y more : Content) → x ≡ Inner at y more → IsNoWord y → fact.Empty at ≡ fact_tree x
  unfolding fact_tree fact_list
  fact_tree-empty at y more e n = by_content y n ∙ sym (ap fact_tree e)
    where
      by_content : (z : Content) → IsNoWord z → fact.Empty at ≡ fact_list at z
      by_content (End c) n = refl
      by_content (Word w more) n = absurd n
      by_content (Inner at inner more) n = refl

  pub fact_tree-by : (h : TreeHead) (at : ℕ) (w : Lexeme) (z more : Content) {v : List ℕ} → h ≡ tree_head v → v ≡ w.bytes → x ≡ Inner at (Word w z) more
      → fact_by h at w (facts z) (fact_tree z) (fact_tree (behind z)) z ≡ fact_tree x
  unfolding fact_tree fact_list
  fact_tree-by h at w z more e f k = ap (λ g. fact_by g at w (facts z) (fact_tree z) (fact_tree (behind z)) z) (e ∙ ap tree_head f) ∙ ap (λ b. fact_by (tree_head w.bytes) at w (facts z) (fact_tree z) b z) (sym (fact_behind-is z)) ∙ sym (ap fact_tree k)

module _ (x : Content) where
  pub trail_tree-none : IsNoList x → trail.LeftOut 0 ≡ trail_tree x
  unfolding trail_tree
  trail_tree-none = by_content x
    where
      by_content : (y : Content) → IsNoList y → trail.LeftOut 0 ≡ trail_tree y
      by_content (End c) n = refl
      by_content (Word w more) n = refl
      by_content (Inner at inner more) n = absurd n

  pub trail_tree-empty : (at : ℕ) (y more : Content) → x ≡ Inner at y more → IsNoWord y → trail.LeftOut at ≡ trail_tree x
  unfolding trail_tree trail_list
  trail_tree-empty at y more e n = by_content y n ∙ sym (ap trail_tree e)
    where
      by_content : (z : Content) → IsNoWord z → trail.LeftOut at ≡ trail_list at z
      by_content (End c) n = refl
      by_content (Word w more) n = absurd n
      by_content (Inner at inner more) n = refl

  pub trail_tree-by : (h : ConHead) (at : ℕ) (w : Lexeme) (z more : Content) {v : List ℕ} → h ≡ con_head v → v ≡ w.bytes → x ≡ Inner at (Word w z) more
      → trail_of h at z ≡ trail_tree x
  unfolding trail_tree trail_list
  trail_tree-by h at w z more e f k = ap (λ g. trail_of g at z) (e ∙ ap con_head f) ∙ sym (ap trail_tree k)

module _ (at : ℕ) (x : Content) where
  pub preference-end : (c : ℕ) → x ≡ End c → preference at x ≡ con.Preference at None (trail.LeftOut 0)
  unfolding preference
  preference-end c e = ap (preference at) e

  pub preference-word : (w : Lexeme) (more : Content) → x ≡ Word w more → (n : Name) (t : Trajectory) → n ≡ name_of w → t ≡ trail_tree more
      → con.Preference at (Some n) t ≡ preference at x
  unfolding preference
  preference-word w more e n t f g = ap (λ m. con.Preference at (Some m) t) f ∙ ap (con.Preference at (Some (name_of w))) g ∙ sym (ap (preference at) e)

  pub preference-list : (place : ℕ) (inner more : Content) → x ≡ Inner place inner more → preference at x ≡ con.Preference at None (trail_tree x)
  unfolding preference trail_tree
  preference-list place inner more e = ap (preference at) e ∙ ap (λ y. con.Preference at None (trail_tree y)) (sym e)

module _ (x : Content) where
  pub cons-end : (c : ℕ) → x ≡ End c → cons x ≡ []
  unfolding cons
  cons-end c e = ap cons e

  pub cons-word : (w : Lexeme) (more : Content) → x ≡ Word w more → cons x ≡ cons more
  unfolding cons
  cons-word w more e = ap cons e

  pub cons-list : (at : ℕ) (inner more : Content) → x ≡ Inner at inner more → cons x ≡ con_tree x ∷ cons more
  unfolding cons con_tree
  cons-list at inner more e = ap cons e ∙ ap (λ t. t ∷ cons more) (sym (ap con_tree e))

con_behind-is : (x : Content) → con_behind x ≡ con_tree (behind x)
unfolding con_behind con_tree
con_behind-is (End c) = refl
con_behind-is (Word w more) = refl
con_behind-is (Inner at inner more) = refl

module _ (x : Content) where
  pub con_tree-none : IsNoList x → con.Hard (trail.LeftOut 0) ≡ con_tree x
  unfolding con_tree
  con_tree-none = by_content x
    where
      by_content : (y : Content) → IsNoList y → con.Hard (trail.LeftOut 0) ≡ con_tree y
      by_content (End c) n = refl
      by_content (Word w more) n = refl
      by_content (Inner at inner more) n = absurd n

  pub con_tree-empty : (at : ℕ) (y more : Content) → x ≡ Inner at y more → IsNoWord y → con.Hard (trail.LeftOut at) ≡ con_tree x
  unfolding con_tree con_list
  con_tree-empty at y more e n = by_content y n ∙ sym (ap con_tree e)
    where
      by_content : (z : Content) → IsNoWord z → con.Hard (trail.LeftOut at) ≡ con_list at z
      by_content (End c) n = refl
      by_content (Word w more) n = absurd n
      by_content (Inner at inner more) n = refl

  pub con_tree-by : (h : ConHead) (at : ℕ) (w : Lexeme) (z more : Content) {v : List ℕ} → h ≡ con_head v → v ≡ w.bytes → x ≡ Inner at (Word w z) more
      → con_by h at (cons z) (con_tree (behind z)) z ≡ con_tree x
  unfolding con_tree con_list
  con_tree-by h at w z more e f k = ap (λ g. con_by g at (cons z) (con_tree (behind z)) z) (e ∙ ap con_head f) ∙ ap (λ b. con_by (con_head w.bytes) at (cons z) b z) (sym (con_behind-is z)) ∙ sym (ap con_tree k)

module _ (x : Content) where
  pub durs-end : (c : ℕ) → x ≡ End c → durs x ≡ []
  unfolding durs
  durs-end c e = ap durs e

  pub durs-word : (w : Lexeme) (more : Content) → x ≡ Word w more → durs x ≡ durs more
  unfolding durs
  durs-word w more e = ap durs e

  pub durs-list : (at : ℕ) (inner more : Content) → x ≡ Inner at inner more → durs x ≡ dur_tree x ∷ durs more
  unfolding durs dur_tree
  durs-list at inner more e = ap durs e ∙ ap (λ t. t ∷ durs more) (sym (ap dur_tree e))

dur_behind-is : (x : Content) → dur_behind x ≡ dur_tree (behind x)
unfolding dur_behind dur_tree
dur_behind-is (End c) = refl
dur_behind-is (Word w more) = refl
dur_behind-is (Inner at inner more) = refl

module _ (x : Content) where
  pub dur_tree-none : IsNoList x → dur.LeftOut 0 ≡ dur_tree x
  unfolding dur_tree
  dur_tree-none = by_content x
    where
      by_content : (y : Content) → IsNoList y → dur.LeftOut 0 ≡ dur_tree y
      by_content (End c) n = refl
      by_content (Word w more) n = refl
      by_content (Inner at inner more) n = absurd n

  pub dur_tree-empty : (at : ℕ) (y more : Content) → x ≡ Inner at y more → IsNoWord y → dur.LeftOut at ≡ dur_tree x
  unfolding dur_tree dur_list
  dur_tree-empty at y more e n = by_content y n ∙ sym (ap dur_tree e)
    where
      by_content : (z : Content) → IsNoWord z → dur.LeftOut at ≡ dur_list at z
      by_content (End c) n = refl
      by_content (Word w more) n = absurd n
      by_content (Inner at inner more) n = refl

  pub dur_tree-by : (h : DurHead) (at : ℕ) (w : Lexeme) (z more : Content) {v : List ℕ} → h ≡ dur_head v → v ≡ w.bytes → x ≡ Inner at (Word w z) more
      → dur_by h at (durs z) (dur_tree (behind z)) z ≡ dur_tree x
  unfolding dur_tree dur_list
  dur_tree-by h at w z more e f k = ap (λ g. dur_by g at (durs z) (dur_tree (behind z)) z) (e ∙ ap dur_head f)
      ∙ ap (λ b. dur_by (dur_head w.bytes) at (durs z) b z) (sym (dur_behind-is z)) ∙ sym (ap dur_tree k)
