-- The objects of columns, atoms and fluents are those of the world, and which atoms are bindings of what changes.
use Rattle.std.proofs.Common.{◌≡◌, ◌⊎◌, ⊎_elim, refl, sym, ap, subst, ◌∙◌, ℕ, Bool, true, false, ◌||◌, nat_le, List, [], ◌∷◌, map, cond, Some}
use Rattle.std.specs.Prelude.{if◌then◌else◌, is_some}
use Rattle.std.specs.List.{AllByRecursion as Each, flat_map, filter, list_any}
use Rattle.std.specs.Str.{bytes_eq}
use Rattle.std.proofs.lemmas.List.{length-map}
use Rattle.std.proofs.lemmas.List.Folds.{list_any-append}
use Rattle.std.proofs.lemmas.Bool.{or_cases}
use Rattle.pddl_names.specs.Declarations.{Text, Signature, among, value_of}
use Rattle.pddl_names.proofs.Ways.{same_text}
use Rattle.task_types.specs.WellMade.{is_short, are_below, arguments_fit}
use Rattle.ground_world.specs.World.{World, GroundAtom, symbol, arguments}
use Rattle.ground_world.specs.Bindings.{choices}
use Rattle.grounder.proofs.Each.{each_weaker, each_flat_map, each_everywhere, any_of_each}
use Rattle.grounder.proofs.Choosing.{choices-fit, fitting-are_below}
use Rattle.basics.proofs.Lists.{any_left, any_right, each_map}

module _ (w : World) where
  abbrev pub bound_to : ℕ × Signature → List GroundAtom
  bound_to x = map (λ os. x.0 ∷ os) (choices (map w.fitting x.1.1))

  symbol-bound : (e : ℕ × Signature) → Each (λ a. symbol a ≡ e.0) (bound_to e)
  symbol-bound e = each_map (λ a. symbol a ≡ e.0) (λ os. e.0 ∷ os) (choices (map w.fitting e.1.1)) (each_everywhere (λ os. symbol (e.0 ∷ os) ≡ e.0) (λ os. refl) (choices (map w.fitting e.1.1)))

  -- a binding of some predicate, whose predicate passes, is a binding of one that passes
  pub bound-passes : (passes : ℕ → Bool) (es : List (ℕ × Signature)) (a : GroundAtom) → passes (symbol a) ≡ true
      → among (flat_map bound_to (filter (λ x. true) es)) a ≡ true → among (flat_map bound_to (filter (λ x. passes x.0) es)) a ≡ true
  bound-passes passes [] a t h = cc
  bound-passes passes (e ∷ es) a t h = by (passes e.0) refl (bound-passes passes es a t)
    where
      own : list_any (bytes_eq a) (bound_to e) ≡ true → passes e.0 ≡ true
      own k = any_of_each (bytes_eq a) (λ b. symbol b ≡ e.0) (passes e.0 ≡ true)
          (λ b s i. ap passes (sym i ∙ sym (ap symbol (same_text a b s))) ∙ t) (bound_to e) (symbol-bound e) k

      parts : (list_any (bytes_eq a) (bound_to e) ≡ true) ⊎ (among (flat_map bound_to (filter (λ x. true) es)) a ≡ true)
      parts = or_cases (list_any (bytes_eq a) (bound_to e)) (among (flat_map bound_to (filter (λ x. true) es)) a)
          (sym (list_any-append (bytes_eq a) (bound_to e) (flat_map bound_to (filter (λ x. true) es))) ∙ h)

      by : (b : Bool) → passes e.0 ≡ b → (among (flat_map bound_to (filter (λ x. true) es)) a ≡ true → among (flat_map bound_to (filter (λ x. passes x.0) es)) a ≡ true)
          → among (flat_map bound_to (cond b (e ∷ filter (λ x. passes x.0) es) (filter (λ x. passes x.0) es))) a ≡ true
      by true k m = ⊎_elim (λ l. any_left (bytes_eq a) (bound_to e) (flat_map bound_to (filter (λ x. passes x.0) es)) l)
          (λ r. any_right (bytes_eq a) (bound_to e) (flat_map bound_to (filter (λ x. passes x.0) es)) (m r)) parts
      by false k m = ⊎_elim (λ l. let c : passes e.0 ≡ true = own l in let f : false ≡ true = sym k ∙ c in cc) m parts

  module _ (n : ℕ) (below : (t : Text) → are_below n (w.fitting t) ≡ true) where
    pub columns-below : (sorts : List Text) → Each (λ c. are_below n c ≡ true) (map w.fitting sorts)
    columns-below sorts = each_map (λ c. are_below n c ≡ true) w.fitting sorts (each_everywhere (λ t. are_below n (w.fitting t) ≡ true) below sorts)

    pub chosen-below : (sorts : List Text) → is_short sorts ≡ true → Each (λ os. are_below n os ≡ true) (choices (map w.fitting sorts))
    chosen-below sorts s = each_weaker (λ os. arguments_fit os (map w.fitting sorts) ≡ true) (λ os. are_below n os ≡ true)
        (λ os h. fitting-are_below n os (map w.fitting sorts) h (ap (λ m. nat_le m 1048576) (length-map sorts w.fitting) ∙ s) (columns-below sorts))
        (choices (map w.fitting sorts)) (choices-fit (map w.fitting sorts))

    pub atoms-below : (es : List (ℕ × Signature)) → Each (λ e. is_short e.1.1 ≡ true) es → Each (λ a. are_below n (arguments a) ≡ true) (flat_map bound_to es)
    atoms-below es h = each_flat_map (λ a. are_below n (arguments a) ≡ true) bound_to es
        (each_weaker (λ e. is_short e.1.1 ≡ true) (λ e. Each (λ a. are_below n (arguments a) ≡ true) (bound_to e))
        (λ e s. each_map (λ a. are_below n (arguments a) ≡ true) (λ os. e.0 ∷ os) (choices (map w.fitting e.1.1)) (chosen-below e.1.1 s)) es h)

-- what has a value was given one
pub value-given : {V : Type 0} (P : Text → Type 0) (es : List (Text × V)) (f : Text) → is_some (value_of es f) ≡ true → Each (λ e. P e.0) es → P f
value-given P [] f h k = cc
value-given P (e ∷ es) f h k = by (bytes_eq f e.0) refl (λ m. value-given P es f m k.1)
  where
    by : (b : Bool) → bytes_eq f e.0 ≡ b → (is_some (value_of es f) ≡ true → P f) → P f
    by true s m = subst P (sym (same_text f e.0 s)) k.0
    by false s m = m (sym (ap (λ b. is_some (if b then Some e.1 else value_of es f)) s) ∙ h)
