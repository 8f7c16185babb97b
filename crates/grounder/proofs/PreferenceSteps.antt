-- The parts of a preference: what they come to at each variant, and that they count no more than the preference.
use Rattle.std.proofs.Common.{◌≡◌, refl, sym, ap, ap₂, ◌∙◌, ℕ, ◌+◌, ◌<◌, ◌≤◌, arith, Bool, true, false, List, [], ◌∷◌, ◌++◌, map, length, get_or}
use Rattle.std.specs.Prelude.{if◌then◌else◌}
use Rattle.std.specs.List.{AllByRecursion as Each, flat_map}
use Rattle.std.specs.Borrow.{Bor}
use Rattle.std.proofs.lemmas.List.{map-append, append-nil}
use Rattle.std.proofs.lemmas.Simd.{map-map}
use Rattle.std.proofs.lemmas.List.Folds.{flat_map-map}
use Rattle.std.proofs.lemmas.List.Concat.{flat_map-append}
use Rattle.pddl_terms.specs.declared.trees.Side.{Side}
use Rattle.pddl_terms.specs.declared.trees.CondTree.{CondTree}
use Rattle.pddl_terms.specs.declared.trees.CondTree.TheVariants as cond
use Rattle.pddl_terms.specs.declared.trees.FactForm.{FactForm}
use Rattle.pddl_terms.specs.declared.trees.FactForm.TheVariants as form
use Rattle.pddl_terms.specs.declared.trees.SoftTree.{SoftTree}
use Rattle.pddl_terms.specs.declared.trees.SoftTree.TheVariants as soft
use Rattle.pddl_names.specs.Equalities.{is_equality}
use Rattle.ground_world.specs.World.{World, Env, GroundAtom}
use Rattle.ground_world.specs.Conditions.{Test, tests_in}
use Rattle.ground_world.specs.Counts.{condition_count, formula_count, soft_count, equal_count, together, sum_or_one, part_limit}
use Rattle.ground_world.proofs.Walks as below
use Rattle.ground_world.proofs.Weights.{summand}
use Rattle.ground_world.proofs.PartSteps.{sum-least}
use Rattle.grounder.specs.Terms.{PreferencePart, OfFacts, OfNumbers, equal_preference, formula_atoms, preference_parts, preference_atoms, comparisons_in}
use Rattle.grounder.specs.ShownPreferences.{preference_of, preferences_of, preference_count, preferences_count, compared_parts}
use Rattle.grounder.specs.declared.preferences.PreferencePart as code
use Rattle.grounder.specs.declared.preferences.PreferencePart.TheVariants as part
use Rattle.grounder.proofs.Walks as walk
use Rattle.grounder.proofs.Inductions.{each_preference}

together-append : (ms ns : List ℕ) → together (ms ++ ns) ≡ together ms + together ns
together-append [] ns = omega arith
together-append (m ∷ ms) ns = let e : together (ms ++ ns) ≡ together ms + together ns = together-append ms ns in omega arith

module _ (w : World) where
  -- ---- what a preference comes to

  pub parts-Formula : {tree : SoftTree} {f : FactForm} → tree ≡ soft.Formula f → OfFacts f ∷ [] ≡ preference_parts w tree
  parts-Formula {tree} {f} e = sym (ap (preference_parts w) e ∙ walk.preference_parts-Formula w f)

  pub parts-Equal : {tree : SoftTree} {at : ℕ} {l r : Side} → tree ≡ soft.Equal at l r → equal_preference w at l r ∷ [] ≡ preference_parts w tree
  parts-Equal {tree} {at} {l} {r} e = sym (ap (preference_parts w) e ∙ walk.preference_parts-Equal w at l r)

  pub parts-Comparison : {tree : SoftTree} {c : CondTree} → tree ≡ soft.Comparison c → OfNumbers c ∷ [] ≡ preference_parts w tree
  parts-Comparison {tree} {c} e = sym (ap (preference_parts w) e ∙ walk.preference_parts-Comparison w c)

  pub parts-And : {tree : SoftTree} {at : ℕ} {ss xs : List SoftTree} → tree ≡ soft.And at ss → xs ≡ ss → flat_map (preference_parts w) xs ≡ preference_parts w tree
  parts-And {tree} {at} {ss} e x =
      ap (flat_map (preference_parts w)) x ∙ sym (flat_map-map (λ (p : List PreferencePart). p) (λ s. preference_parts w s) ss)
      ∙ sym (ap (preference_parts w) e ∙ walk.preference_parts-And w at ss)

  -- ---- how much the parts count

  preferences_count-append : (xs ys : List PreferencePart) → preferences_count w (xs ++ ys) ≡ preferences_count w xs + preferences_count w ys
  preferences_count-append xs ys = ap together (map-append (preference_count w) xs ys) ∙ together-append (map (preference_count w) xs) (map (preference_count w) ys)

  abbrev Counted : SoftTree → Type 0
  Counted s = preferences_count w (preference_parts w s) ≤ soft_count w s

  all_counted : (ss : List SoftTree) → Each Counted ss
      → preferences_count w (flat_map (λ (part : List PreferencePart). part) (map (λ s. preference_parts w s) ss)) ≤ together (map (λ s. soft_count w s) ss)
  all_counted [] h = omega arith
  all_counted (s ∷ ss) h =
      let own : preferences_count w (preference_parts w s) ≤ soft_count w s = h.0 in
      let ih : preferences_count w (flat_map (λ (part : List PreferencePart). part) (map (λ s. preference_parts w s) ss)) ≤ together (map (λ s. soft_count w s) ss) = all_counted ss h.1 in
      let e : preferences_count w (preference_parts w s ++ flat_map (λ (part : List PreferencePart). part) (map (λ s. preference_parts w s) ss))
      ≡ preferences_count w (preference_parts w s) + preferences_count w (flat_map (λ (part : List PreferencePart). part) (map (λ s. preference_parts w s) ss))
      = preferences_count-append (preference_parts w s) (flat_map (λ (part : List PreferencePart). part) (map (λ s. preference_parts w s) ss)) in
      omega arith

  of_Formula : (f : FactForm) → Counted (soft.Formula f)
  of_Formula f =
      let e : preferences_count w (preference_parts w (soft.Formula f)) ≡ formula_count w f + 0 = ap (preferences_count w) (walk.preference_parts-Formula w f) in
      let k : soft_count w (soft.Formula f) ≡ formula_count w f = below.soft_count-Formula w f in
      omega arith

  of_Equal : (a : ℕ) (l r : Side) → Counted (soft.Equal a l r)
  of_Equal a l r =
      let e : preferences_count w (preference_parts w (soft.Equal a l r)) ≡ preference_count w (equal_preference w a l r) + 0 = ap (preferences_count w) (walk.preference_parts-Equal w a l r) in
      let k : soft_count w (soft.Equal a l r) ≡ equal_count w l r = below.soft_count-Equal w a l r in
      let m : preference_count w (equal_preference w a l r) ≤ equal_count w l r = by (is_equality w.functions l r) refl in
      omega arith
    where
      by : (b : Bool) → is_equality w.functions l r ≡ b → preference_count w (if b then OfFacts (form.Equal a l r) else OfNumbers (cond.Equal a l r)) ≤ (if b then 1 else 2)
      by true q = let f : formula_count w (form.Equal a l r) ≡ 1 = below.formula_count-Equal w a l r in omega arith
      by false q = let n : condition_count w (cond.Equal a l r) ≡ 2 = below.condition_count-Equal w a l r ∙ ap (λ b. if b then 1 else 2) q in omega arith

  of_Comparison : (c : CondTree) → Counted (soft.Comparison c)
  of_Comparison c =
      let e : preferences_count w (preference_parts w (soft.Comparison c)) ≡ condition_count w c + 0 = ap (preferences_count w) (walk.preference_parts-Comparison w c) in
      let k : soft_count w (soft.Comparison c) ≡ condition_count w c = below.soft_count-Comparison w c in
      omega arith

  of_And : (a : ℕ) (ss : List SoftTree) → Each Counted ss → Counted (soft.And a ss)
  of_And a ss h =
      let e : preferences_count w (preference_parts w (soft.And a ss)) ≡ preferences_count w (flat_map (λ (part : List PreferencePart). part) (map (λ s. preference_parts w s) ss)) = ap (preferences_count w) (walk.preference_parts-And w a ss) in
      let k : soft_count w (soft.And a ss) ≡ sum_or_one (map (λ s. soft_count w s) ss) = below.soft_count-And w a ss in
      let m : preferences_count w (flat_map (λ (part : List PreferencePart). part) (map (λ s. preference_parts w s) ss)) ≤ together (map (λ s. soft_count w s) ss) = all_counted ss h in
      let s : together (map (λ s. soft_count w s) ss) ≤ sum_or_one (map (λ s. soft_count w s) ss) = sum-least (map (λ s. soft_count w s) ss) in
      omega arith

  pub preference-counted : (s : SoftTree) → Counted s
  preference-counted = each_preference Counted of_Formula of_Equal of_Comparison of_And

  -- each part is within the limit where they are together
  pub part_within : (xs : List code.PreferencePart) (i : ℕ) (x : code.PreferencePart) → i < length xs → x ≡ get_or xs i x → preferences_count w (preferences_of xs) ≤ part_limit → preference_count w (preference_of x) ≤ part_limit
  part_within xs i x lt at h =
      let a : preference_count w (preference_of x) ≤ together (map (λ y. preference_count w (preference_of y)) xs) = summand (λ y. preference_count w (preference_of y)) xs i x lt at in
      let e : together (map (λ y. preference_count w (preference_of y)) xs) ≡ preferences_count w (preferences_of xs) = ap together (sym (map-map (preference_count w) preference_of xs)) in
      omega arith

  -- ---- what the parts compare

  tests_of_part : (env : Env) (x : PreferencePart) → flat_map tests_in (compared_parts w env x) ≡ comparisons_in w env x
  tests_of_part env (OfFacts f) = refl
  tests_of_part env (OfNumbers c) = refl

  pub tests_of_parts : (env : Env) (xs : List PreferencePart) → flat_map tests_in (flat_map (compared_parts w env) xs) ≡ flat_map (comparisons_in w env) xs
  tests_of_parts env [] = refl
  tests_of_parts env (x ∷ xs) =
      flat_map-append tests_in (compared_parts w env x) (flat_map (compared_parts w env) xs)
      ∙ ap₂ (λ (a b : List Test). a ++ b) (tests_of_part env x) (tests_of_parts env xs)

  -- ---- the atoms that the parts mention

  module _ (env : Env) {x : code.PreferencePart} where
    pub mentions-Formula : {f : Bor FactForm} → x ≡ part.Formula f → formula_atoms w env f.now ≡ preference_atoms w env (preference_of x)
    mentions-Formula {f} e = sym (append-nil (formula_atoms w env f.now)) ∙ ap (λ (y : code.PreferencePart). preference_atoms w env (preference_of y)) (sym e)

    pub mentions-SameTerms : {at : ℕ} {l r : Bor Side} → x ≡ part.SameTerms at l r → [] ≡ preference_atoms w env (preference_of x)
    mentions-SameTerms {at} {l} {r} e =
        sym (ap (λ (y : code.PreferencePart). preference_atoms w env (preference_of y)) e ∙ ap (λ (a : List GroundAtom). a ++ []) (walk.formula_atoms-Equal w env at l.now r.now))

    pub mentions-SameValues : {at : ℕ} {l r : Bor Side} → x ≡ part.SameValues at l r → [] ≡ preference_atoms w env (preference_of x)
    mentions-SameValues e = sym (ap (λ (y : code.PreferencePart). preference_atoms w env (preference_of y)) e)

    pub mentions-Numbers : {c : Bor CondTree} → x ≡ part.Numbers c → [] ≡ preference_atoms w env (preference_of x)
    mentions-Numbers e = sym (ap (λ (y : code.PreferencePart). preference_atoms w env (preference_of y)) e)
