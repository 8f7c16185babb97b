-- The action and the snap actions of a binding, from its flat lists.
use Rattle.std.proofs.Common.{◌≡◌, ap, ap₂, ◌∙◌, ℕ, ◌+◌, List, [], ◌∷◌, ◌++◌, append_assoc, Option, Some, None}
use Rattle.std.specs.Prelude.{if◌then◌else◌}
use Rattle.rational.specs.Rational.{ℚ}
use Rattle.task_types.specs.declared.conditions.Condition.{Condition}
use Rattle.task_types.specs.declared.conditions.Effect.{Effect}
use Rattle.task_types.specs.declared.actions.SnapKind.{SnapKind}
use Rattle.task_types.specs.declared.actions.Action.{Action}
use Rattle.task_types.specs.declared.actions.Bound.{Bound}
use Rattle.task_types.specs.declared.actions.Snap.{Snap}
use Rattle.ground_world.specs.World.{World, Env}
use Rattle.ground_world.specs.declared.changes.Stage.TheVariants.{OverAll}
use Rattle.ground_world.specs.Changes.{Change, Staged, changes, parts_at}
use Rattle.ground_world.specs.Conditions.{DurationBound, Part, body_bounds}
use Rattle.grounder.specs.Instances.{Instance, env_of, conditions_of}
use Rattle.grounder.specs.Bindings.{Pieces}
use Rattle.grounder.specs.Building.{all_bounds, snaps_from}
use Rattle.grounder.specs.Task.{Ground, is_durative, action_condition, bounds, action_of, snaps_of}

-- the flat lists of an instance
abbrev pub pieces_for : World → Instance → Pieces
pieces_for w i = record { conditions = conditions_of w i; bounds = body_bounds i.action.body; changes = changes i.action }

abbrev made : ℕ → List ℕ → List ℕ → Option ℕ → List Bound → Condition → Action
made n m b o l d = record { name = m; args = b; start = n; end = o; bounds = l; over_all = d }

module _ (g : Ground) (i : Instance) (env : Env) (x : Pieces) (e : env ≡ env_of i) (p : x ≡ pieces_for g.world i) where
  pub snaps-instance : (a : ℕ) → snaps_from g a (is_durative i.action.body) env x ≡ snaps_of g a i
  snaps-instance a = ap₂ (λ (y : Env) (z : Pieces). snaps_from g a (is_durative i.action.body) y z) e p

  bounds-instance : all_bounds g env x.bounds ≡ bounds g i
  bounds-instance = ap₂ (λ (y : Env) (z : Pieces). all_bounds g y z.bounds) e p

  over_all-instance : action_condition g (parts_at OverAll x.conditions) ≡ action_condition g (parts_at OverAll (conditions_of g.world i))
  over_all-instance = ap (λ (z : Pieces). action_condition g (parts_at OverAll z.conditions)) p

  pub action-instance : (n start : ℕ) (name args : List ℕ) (end : Option ℕ) (bs : List Bound) (c : Condition)
      → start ≡ n → name ≡ i.action.name.bytes → args ≡ i.args → end ≡ (if is_durative i.action.body then Some (n + 1) else None)
      → bs ≡ all_bounds g env x.bounds → c ≡ action_condition g (parts_at OverAll x.conditions)
      → made start name args end bs c ≡ action_of g n i
  action-instance n start name args end bs c is_start is_name is_args is_end is_bounds is_over_all =
      ap (λ (m : ℕ). made m name args end bs c) is_start
      ∙ ap₂ (λ (m b : List ℕ). made n m b end bs c) is_name is_args ∙ ap (λ (o : Option ℕ). made n i.action.name.bytes i.args o bs c) is_end
      ∙ ap₂ (λ (l : List Bound) (d : Condition). made n i.action.name.bytes i.args (if is_durative i.action.body then Some (n + 1) else None) l d)
      (is_bounds ∙ bounds-instance) (is_over_all ∙ over_all-instance)

-- ---- records by their fields

pub pieces-same : (ps qs : List (Staged Part)) (bs cs : List DurationBound) (xs ys : List (Staged Change)) → ps ≡ qs → bs ≡ cs → xs ≡ ys
    → let one : Pieces = record { conditions = ps; bounds = bs; changes = xs } in one ≡ record { conditions = qs; bounds = cs; changes = ys }
pieces-same ps qs bs cs xs ys h k l =
    ap₂ {C = Pieces} (λ (p : List (Staged Part)) (b : List DurationBound). record { conditions = p; bounds = b; changes = xs }) h k
    ∙ ap {B = Pieces} (λ (x : List (Staged Change)). record { conditions = qs; bounds = cs; changes = x }) l

abbrev pub snapped : SnapKind → Option ℕ → Condition → Effect → List (ℕ × ℚ) → Snap
snapped k a c e rs = record { kind = k; action = a; condition = c; effect = e; rates = rs }

pub snap-same : (k : SnapKind) (a b : Option ℕ) (c d : Condition) (e f : Effect) (rs : List (ℕ × ℚ)) → a ≡ b → c ≡ d → e ≡ f → snapped k a c e rs ≡ snapped k b d f rs
snap-same k a b c d e f rs is_action is_condition is_effect =
    ap (λ (o : Option ℕ). snapped k o c e rs) is_action ∙ ap₂ (λ (x : Condition) (y : Effect). snapped k b x y rs) is_condition is_effect

-- two snap actions, one behind the other
pub two-pushed : (old mid after : List Snap) (s e x y : Snap) → mid ≡ old ++ (s ∷ []) → after ≡ mid ++ (e ∷ []) → s ≡ x → e ≡ y → after ≡ old ++ (x ∷ y ∷ [])
two-pushed old mid after s e x y h k l m =
    k ∙ ap (λ (ss : List Snap). ss ++ (e ∷ [])) h ∙ append_assoc old (s ∷ []) (e ∷ [])
    ∙ ap₂ (λ (a b : Snap). old ++ (a ∷ b ∷ [])) l m
