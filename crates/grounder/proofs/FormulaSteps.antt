-- What a formula, and the atoms that it mentions, come to at each variant, from what they come to below.
use Rattle.std.proofs.Common.{◌≡◌, sym, ap, ap₂, ◌∙◌, ℕ, true, ◌==◌, List, [], ◌∷◌, ◌++◌, map}
use Rattle.std.specs.List.{flat_map}
use Rattle.std.proofs.lemmas.Simd.{map-map}
use Rattle.std.proofs.lemmas.List.Folds.{flat_map-map}
use Rattle.task_types.specs.declared.formulas.FactTree.{FactTree}
use Rattle.task_types.specs.declared.formulas.FactTree.TheVariants as fact
use Rattle.pddl_terms.specs.declared.trees.Atom.{Atom}
use Rattle.pddl_terms.specs.declared.trees.Group.{Group}
use Rattle.pddl_terms.specs.declared.trees.Side.{Side}
use Rattle.pddl_terms.specs.declared.trees.FactForm.{FactForm}
use Rattle.pddl_terms.specs.declared.trees.FactForm.TheVariants as form
use Rattle.ground_world.specs.World.{World, Env, GroundAtom, ground_atom}
use Rattle.ground_world.specs.Bindings.{bindings}
use Rattle.ground_world.specs.Conditions.{side_object}
use Rattle.grounder.specs.Terms.{formula, formula_atoms, same_tree}
use Rattle.grounder.proofs.Walks as walk

module _ (w : World) (number : GroundAtom → ℕ) (env : Env) where
  instances_told : {vars xs : List Group} {f x : FactForm} {ts : List FactTree} → xs ≡ vars → x ≡ f → ts ≡ map (λ e. formula w number e x) (bindings w env xs)
      → ts ≡ map (λ e. formula w number e f) (bindings w env vars)
  instances_told {vars} x y h = h ∙ ap₂ (λ (f : FactForm) (gs : List Group). map (λ e. formula w number e f) (bindings w env gs)) y x

module _ (w : World) (number : GroundAtom → ℕ) (env : Env) {tree : FactForm} where
  pub told-Empty : {at : ℕ} → tree ≡ form.Empty at → fact.True ≡ formula w number env tree
  told-Empty {at} e = sym (ap (formula w number env) e ∙ walk.formula-Empty w number env at)

  pub told-LeftOut : {at : ℕ} → tree ≡ form.LeftOut at → fact.True ≡ formula w number env tree
  told-LeftOut {at} e = sym (ap (formula w number env) e ∙ walk.formula-LeftOut w number env at)

  pub told-Atom : {a : Atom} → tree ≡ form.Atom a → fact.Is (record { fact = number (ground_atom w env a); holds = true }) ≡ formula w number env tree
  told-Atom {a} e = sym (ap (formula w number env) e ∙ walk.formula-Atom w number env a)

  pub told-Equal : {at : ℕ} {l r : Side} → tree ≡ form.Equal at l r → same_tree (side_object w env l == side_object w env r) ≡ formula w number env tree
  told-Equal {at} {l} {r} e = sym (ap (formula w number env) e ∙ walk.formula-Equal w number env at l r)

  pub told-And : {at : ℕ} {fs xs : List FactForm} {ts : List FactTree} → tree ≡ form.And at fs → xs ≡ fs → ts ≡ map (formula w number env) xs → fact.And ts ≡ formula w number env tree
  told-And {at} {fs} e x h =
      ap fact.And (h ∙ ap (map (formula w number env)) x ∙ sym (map-map (λ (p : Env → FactTree). p env) (λ c e. formula w number e c) fs))
      ∙ sym (ap (formula w number env) e ∙ walk.formula-And w number env at fs)

  pub told-Or : {at : ℕ} {fs xs : List FactForm} {ts : List FactTree} → tree ≡ form.Or at fs → xs ≡ fs → ts ≡ map (formula w number env) xs → fact.Or ts ≡ formula w number env tree
  told-Or {at} {fs} e x h =
      ap fact.Or (h ∙ ap (map (formula w number env)) x ∙ sym (map-map (λ (p : Env → FactTree). p env) (λ c e. formula w number e c) fs))
      ∙ sym (ap (formula w number env) e ∙ walk.formula-Or w number env at fs)

  pub told-Not : {at : ℕ} {f x : FactForm} {t : FactTree} → tree ≡ form.Not at f → x ≡ f → t ≡ formula w number env x → fact.Not t ≡ formula w number env tree
  told-Not {at} {f} e x h = ap fact.Not (h ∙ ap (formula w number env) x) ∙ sym (ap (formula w number env) e ∙ walk.formula-Not w number env at f)

  pub told-Imply : {at : ℕ} {f g x y : FactForm} {t u : FactTree} → tree ≡ form.Imply at f g → x ≡ f → y ≡ g → t ≡ formula w number env x → u ≡ formula w number env y
      → fact.Or (fact.Not t ∷ u ∷ []) ≡ formula w number env tree
  told-Imply {at} {f} {g} e x y h k =
      ap₂ (λ (p q : FactTree). fact.Or (fact.Not p ∷ q ∷ [])) (h ∙ ap (formula w number env) x) (k ∙ ap (formula w number env) y)
      ∙ sym (ap (formula w number env) e ∙ walk.formula-Imply w number env at f g)

  pub told-Exists : {at : ℕ} {vars xs : List Group} {f x : FactForm} {ts : List FactTree} → tree ≡ form.Exists at vars f → xs ≡ vars → x ≡ f
      → ts ≡ map (λ e. formula w number e x) (bindings w env xs) → fact.Or ts ≡ formula w number env tree
  told-Exists {at} {vars} {xs} {f} e x y h = ap fact.Or (instances_told w number env x y h) ∙ sym (ap (formula w number env) e ∙ walk.formula-Exists w number env at vars f)

  pub told-Forall : {at : ℕ} {vars xs : List Group} {f x : FactForm} {ts : List FactTree} → tree ≡ form.Forall at vars f → xs ≡ vars → x ≡ f
      → ts ≡ map (λ e. formula w number e x) (bindings w env xs) → fact.And ts ≡ formula w number env tree
  told-Forall {at} {vars} {xs} {f} e x y h = ap fact.And (instances_told w number env x y h) ∙ sym (ap (formula w number env) e ∙ walk.formula-Forall w number env at vars f)

module _ (w : World) (env : Env) {tree : FactForm} where
  pub atoms-Empty : {at : ℕ} → tree ≡ form.Empty at → [] ≡ formula_atoms w env tree
  atoms-Empty {at} e = sym (ap (formula_atoms w env) e ∙ walk.formula_atoms-Empty w env at)

  pub atoms-LeftOut : {at : ℕ} → tree ≡ form.LeftOut at → [] ≡ formula_atoms w env tree
  atoms-LeftOut {at} e = sym (ap (formula_atoms w env) e ∙ walk.formula_atoms-LeftOut w env at)

  pub atoms-Equal : {at : ℕ} {l r : Side} → tree ≡ form.Equal at l r → [] ≡ formula_atoms w env tree
  atoms-Equal {at} {l} {r} e = sym (ap (formula_atoms w env) e ∙ walk.formula_atoms-Equal w env at l r)

  pub atoms-Atom : {a : Atom} → tree ≡ form.Atom a → ground_atom w env a ∷ [] ≡ formula_atoms w env tree
  atoms-Atom {a} e = sym (ap (formula_atoms w env) e ∙ walk.formula_atoms-Atom w env a)

  pub atoms-And : {at : ℕ} {fs xs : List FactForm} → tree ≡ form.And at fs → xs ≡ fs → flat_map (formula_atoms w env) xs ≡ formula_atoms w env tree
  atoms-And {at} {fs} e x =
      ap (flat_map (formula_atoms w env)) x ∙ sym (flat_map-map (λ (p : Env → List GroundAtom). p env) (λ c e. formula_atoms w e c) fs)
      ∙ sym (ap (formula_atoms w env) e ∙ walk.formula_atoms-And w env at fs)

  pub atoms-Or : {at : ℕ} {fs xs : List FactForm} → tree ≡ form.Or at fs → xs ≡ fs → flat_map (formula_atoms w env) xs ≡ formula_atoms w env tree
  atoms-Or {at} {fs} e x =
      ap (flat_map (formula_atoms w env)) x ∙ sym (flat_map-map (λ (p : Env → List GroundAtom). p env) (λ c e. formula_atoms w e c) fs)
      ∙ sym (ap (formula_atoms w env) e ∙ walk.formula_atoms-Or w env at fs)

  pub atoms-Not : {at : ℕ} {f x : FactForm} → tree ≡ form.Not at f → x ≡ f → formula_atoms w env x ≡ formula_atoms w env tree
  atoms-Not {at} {f} e x = ap (formula_atoms w env) x ∙ sym (ap (formula_atoms w env) e ∙ walk.formula_atoms-Not w env at f)

  pub atoms-Imply : {at : ℕ} {f g x y : FactForm} → tree ≡ form.Imply at f g → x ≡ f → y ≡ g → formula_atoms w env x ++ formula_atoms w env y ≡ formula_atoms w env tree
  atoms-Imply {at} {f} {g} e x y =
      ap₂ (λ (p q : List GroundAtom). p ++ q) (ap (formula_atoms w env) x) (ap (formula_atoms w env) y)
      ∙ sym (ap (formula_atoms w env) e ∙ walk.formula_atoms-Imply w env at f g)

  pub atoms-Exists : {at : ℕ} {vars xs : List Group} {f x : FactForm} → tree ≡ form.Exists at vars f → xs ≡ vars → x ≡ f
      → flat_map (λ e. formula_atoms w e x) (bindings w env xs) ≡ formula_atoms w env tree
  atoms-Exists {at} {vars} {xs} {f} e x y =
      ap₂ (λ (g : FactForm) (gs : List Group). flat_map (λ e. formula_atoms w e g) (bindings w env gs)) y x
      ∙ sym (ap (formula_atoms w env) e ∙ walk.formula_atoms-Exists w env at vars f)

  pub atoms-Forall : {at : ℕ} {vars xs : List Group} {f x : FactForm} → tree ≡ form.Forall at vars f → xs ≡ vars → x ≡ f
      → flat_map (λ e. formula_atoms w e x) (bindings w env xs) ≡ formula_atoms w env tree
  atoms-Forall {at} {vars} {xs} {f} e x y =
      ap₂ (λ (g : FactForm) (gs : List Group). flat_map (λ e. formula_atoms w e g) (bindings w env gs)) y x
      ∙ sym (ap (formula_atoms w env) e ∙ walk.formula_atoms-Forall w env at vars f)
