-- Conditions and effects, some parts or changes more.
use Rattle.std.proofs.Common.{◌≡◌, refl, sym, ap, ap₂, ◌∙◌, ℕ, zero, suc, ◌+◌, ◌<◌, ◌≤◌, arith, Bool, List, [], ◌∷◌, ◌++◌, length, take, get_or}
use Rattle.std.proofs.lemmas.List.{append-nil, length-map, map-append, take_all}
use Rattle.std.proofs.lemmas.List.Concat.{flat_map-append}
use Rattle.exact_lin.specs.Forms.{LinearForm}
use Rattle.task_types.specs.declared.conditions.Amount.{Amount}
use Rattle.task_types.specs.declared.conditions.Condition.{Condition}
use Rattle.task_types.specs.declared.conditions.Effect.{Effect}
use Rattle.task_types.specs.declared.conditions.Literal.{Literal}
use Rattle.pddl_terms.specs.declared.trees.Atom.{Atom}
use Rattle.pddl_terms.specs.declared.trees.ChangeKind.TheVariants.{Increase, Decrease, Assign}
use Rattle.pddl_terms.specs.declared.trees.ExprTree.{ExprTree}
use Rattle.pddl_terms.specs.declared.trees.RateTree.{RateTree}
use Rattle.pddl_terms.specs.declared.trees.Trend.{Trend}
use Rattle.ground_world.specs.World.{Env, GroundAtom}
use Rattle.ground_world.specs.declared.changes.Stage.{Stage}
use Rattle.ground_world.specs.declared.changes.StagedChange.{StagedChange}
use Rattle.ground_world.specs.declared.parts.CondPart.{CondPart}
use Rattle.ground_world.specs.Changes.{Change, Adds, Deletes, Moves, Flows, Staged, parts_at}
use Rattle.ground_world.specs.Conditions.{Part, Lit, Same, Compares, Test}
use Rattle.ground_world.specs.Shown.{part_of}
use Rattle.ground_world.specs.ShownChanges.{change_of, changes_of}
use Rattle.ground_world.specs.ShownParts.{with_stages}
use Rattle.ground_world.proofs.Steps.{taken}
use Rattle.ground_world.proofs.WithStages.{with_stages-parts, with_stages-taken}
use Rattle.grounder.specs.Building.{with_part, with_parts, with_change, with_changes}
use Rattle.grounder.specs.Task.{Ground, dynamic_literal, forms_in, compared, action_condition, effect, added_facts, deleted_facts, assigned_amounts, increased_amounts}
use Rattle.grounder.proofs.Pushing.{parts_at-append}

abbrev pub condition : List Literal → List LinearForm → Condition
condition ls cs = record { literals = ls; comparisons = cs }

abbrev pub effects : List ℕ → List ℕ → List (ℕ × Amount) → List (ℕ × Amount) → Effect
effects adds deletes assigns increases = record { adds = adds; deletes = deletes; assigns = assigns; increases = increases }

effects-same : (a b : List ℕ) (c d : List ℕ) (e f g h : List (ℕ × Amount)) → a ≡ b → c ≡ d → e ≡ f → g ≡ h → effects a c e g ≡ effects b d f h
effects-same a b c d e f g h p q r s = ap₂ (λ x y. effects x y e g) p q ∙ ap₂ (effects b d) r s

-- an item is the same whatever stands for a missing one
pub own_item : {A : Type 0} (xs : List A) (i : ℕ) (d : A) → i < length xs → get_or xs i d ≡ get_or xs i (get_or xs i d)
own_item [] i d h = absurd (omega arith)
own_item (x ∷ xs) zero d h = refl
own_item (x ∷ xs) (suc i) d h = own_item xs i d (omega arith)

pub all_taken : (ps : List CondPart) (ss : List Stage) (i : ℕ) → length ss ≡ length ps → length ps ≤ i → take i (with_stages ps ss) ≡ with_stages ps ss
all_taken ps ss i h lt =
    let e : length (with_stages ps ss) ≡ length ps = sym (length-map (with_stages ps ss) (λ x. x.part)) ∙ ap length (with_stages-parts ps ss h) ∙ length-map ps part_of in
    take_all i (with_stages ps ss) (omega (arith, e, lt))

module _ (g : Ground) where
  pub condition-more : (xs ys : List Part) → with_parts g (action_condition g xs) ys ≡ action_condition g (xs ++ ys)
  condition-more xs ys = ap₂ condition (sym (flat_map-append (dynamic_literal g.world g.facts) xs ys)) (sym (flat_map-append (forms_in g) xs ys))

  pub one-part : (c : Condition) (p : Part) → with_part g c p ≡ with_parts g c (p ∷ [])
  one-part c p = ap₂ (λ ls cs. condition (c.literals ++ ls) (c.comparisons ++ cs)) (sym (append-nil (dynamic_literal g.world g.facts p))) (sym (append-nil (forms_in g p)))

  -- one part by its form: what it adds, and nothing to the rest
  pub literal-part : (c : Condition) (a : GroundAtom) (holds : Bool) (ls : List Literal) → ls ≡ c.literals ++ dynamic_literal g.world g.facts (Lit a holds)
      → condition ls c.comparisons ≡ with_part g c (Lit a holds)
  literal-part c a holds ls h = ap₂ condition h (sym (append-nil c.comparisons))

  pub test-part : (c : Condition) (t : Test) (cs : List LinearForm) → cs ≡ c.comparisons ++ compared g t → condition c.literals cs ≡ with_part g c (Compares t)
  test-part c t cs h = ap₂ condition (sym (append-nil c.literals)) h

  pub same-part : (c : Condition) (holds : Bool) → c ≡ with_part g c (Same holds)
  same-part c holds = ap₂ condition (sym (append-nil c.literals)) (sym (append-nil c.comparisons))

  pub no-part : (c : Condition) → c ≡ with_parts g c []
  no-part c = ap₂ condition (sym (append-nil c.literals)) (sym (append-nil c.comparisons))

  module _ (durative : Bool) (env : Env) where
    pub effect-more : (xs ys : List Change) → with_changes g durative env (effect g durative env xs) ys ≡ effect g durative env (xs ++ ys)
    effect-more xs ys = effects-same _ _ _ _ _ _ _ _
        (sym (flat_map-append (added_facts g env) xs ys)) (sym (flat_map-append (deleted_facts g env) xs ys))
        (sym (flat_map-append (assigned_amounts g durative env) xs ys)) (sym (flat_map-append (increased_amounts g durative env) xs ys))

    pub one-change : (e : Effect) (c : Change) → with_change g durative env e c ≡ with_changes g durative env e (c ∷ [])
    one-change e c = effects-same _ _ _ _ _ _ _ _
        (ap (λ l. e.adds ++ l) (sym (append-nil (added_facts g env c)))) (ap (λ l. e.deletes ++ l) (sym (append-nil (deleted_facts g env c))))
        (ap (λ l. e.assigns ++ l) (sym (append-nil (assigned_amounts g durative env c)))) (ap (λ l. e.increases ++ l) (sym (append-nil (increased_amounts g durative env c))))

    -- one change by its form
    pub adds-change : (e : Effect) (a : Atom) (fs : List ℕ) → fs ≡ e.adds ++ added_facts g env (Adds a)
        → effects fs e.deletes e.assigns e.increases ≡ with_change g durative env e (Adds a)
    adds-change e a fs h = effects-same _ _ _ _ _ _ _ _ h (sym (append-nil e.deletes)) (sym (append-nil e.assigns)) (sym (append-nil e.increases))

    pub deletes-change : (e : Effect) (a : Atom) (fs : List ℕ) → fs ≡ e.deletes ++ deleted_facts g env (Deletes a)
        → effects e.adds fs e.assigns e.increases ≡ with_change g durative env e (Deletes a)
    deletes-change e a fs h = effects-same _ _ _ _ _ _ _ _ (sym (append-nil e.adds)) h (sym (append-nil e.assigns)) (sym (append-nil e.increases))

    pub assigns-change : (e : Effect) (f : Atom) (x : ExprTree) (xs : List (ℕ × Amount)) → xs ≡ e.assigns ++ assigned_amounts g durative env (Moves Assign f x)
        → effects e.adds e.deletes xs e.increases ≡ with_change g durative env e (Moves Assign f x)
    assigns-change e f x xs h = effects-same _ _ _ _ _ _ _ _ (sym (append-nil e.adds)) (sym (append-nil e.deletes)) h (sym (append-nil e.increases))

    pub increases-change : (e : Effect) (f : Atom) (x : ExprTree) (xs : List (ℕ × Amount)) → xs ≡ e.increases ++ increased_amounts g durative env (Moves Increase f x)
        → effects e.adds e.deletes e.assigns xs ≡ with_change g durative env e (Moves Increase f x)
    increases-change e f x xs h = effects-same _ _ _ _ _ _ _ _ (sym (append-nil e.adds)) (sym (append-nil e.deletes)) (sym (append-nil e.assigns)) h

    pub decreases-change : (e : Effect) (f : Atom) (x : ExprTree) (xs : List (ℕ × Amount)) → xs ≡ e.increases ++ increased_amounts g durative env (Moves Decrease f x)
        → effects e.adds e.deletes e.assigns xs ≡ with_change g durative env e (Moves Decrease f x)
    decreases-change e f x xs h = effects-same _ _ _ _ _ _ _ _ (sym (append-nil e.adds)) (sym (append-nil e.deletes)) (sym (append-nil e.assigns)) h

    pub flows-change : (e : Effect) (trend : Trend) (f : Atom) (r : RateTree) → e ≡ with_change g durative env e (Flows trend f r)
    flows-change e trend f r = effects-same _ _ _ _ _ _ _ _ (sym (append-nil e.adds)) (sym (append-nil e.deletes)) (sym (append-nil e.assigns)) (sym (append-nil e.increases))

    pub no-change : (e : Effect) → e ≡ with_changes g durative env e []
    no-change e = effects-same _ _ _ _ _ _ _ _ (sym (append-nil e.adds)) (sym (append-nil e.deletes)) (sym (append-nil e.assigns)) (sym (append-nil e.increases))

    -- the changes of a stage, one change more
    pub effect-step : (s : Stage) (cs : List StagedChange) (i : ℕ) (x : StagedChange) → i < length cs → x ≡ get_or cs i x → (before after : Effect)
        → before ≡ effect g durative env (parts_at s (changes_of (take i cs))) → after ≡ with_changes g durative env before (parts_at s (changes_of (x ∷ [])))
        → after ≡ effect g durative env (parts_at s (changes_of (take (i + 1) cs)))
    effect-step s cs i x lt at before after h k =
        k ∙ ap (λ (e : Effect). with_changes g durative env e (parts_at s (changes_of (x ∷ [])))) h ∙ effect-more (parts_at s (changes_of (take i cs))) (parts_at s (changes_of (x ∷ [])))
        ∙ ap (effect g durative env) (sym (ap (parts_at s) (map-append (λ c. record { stage = c.stage; part = change_of c.change }) (take i cs) (x ∷ []))
        ∙ parts_at-append s (changes_of (take i cs)) (changes_of (x ∷ []))) ∙ ap (λ l. parts_at s (changes_of l)) (sym (taken cs i x lt at)))

  -- the parts of a stage, one part more
  pub condition-step : (s : Stage) (ps : List CondPart) (ss : List Stage) (i : ℕ) (p : CondPart) (t : Stage) → i < length ps → length ss ≡ length ps → p ≡ get_or ps i p → t ≡ get_or ss i t
      → (before after : Condition) → before ≡ action_condition g (parts_at s (take i (with_stages ps ss))) → after ≡ with_parts g before (parts_at s (record { stage = t; part = part_of p } ∷ []))
      → after ≡ action_condition g (parts_at s (take (i + 1) (with_stages ps ss)))
  condition-step s ps ss i p t lt same at own before after h k =
      let x : Staged Part = record { stage = t; part = part_of p } in
      k ∙ ap (λ (c : Condition). with_parts g c (parts_at s (x ∷ []))) h ∙ condition-more (parts_at s (take i (with_stages ps ss))) (parts_at s (x ∷ []))
      ∙ ap (action_condition g) (sym (parts_at-append s (take i (with_stages ps ss)) (x ∷ [])) ∙ ap (parts_at s) (sym (with_stages-taken ps ss i p t lt same at own)))
