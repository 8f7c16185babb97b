-- A check asks exactly that the multipliers prove the claim and that each sum is defined.
use Rattle.std.proofs.Common.{◌≡◌, ℕ, zero, suc, ◌+◌, ◌<◌, ◌≤◌, ◌↔◌, List, [], ◌∷◌, ◌++◌, length, refl, sym, subst, ◌∙◌, arith, ◌⊎◌, ⊎_elim, Result, Ok, Err}
use Rattle.std.specs.List.{AllByRecursion}
use Rattle.std.specs.Result.{IsOk, OnOk}
use Rattle.cert_core.specs.declared.program.CertFault.{CertFault}
use Rattle.rational.specs.Rational.{ℚ, zeroℚ, ◌-ℚ◌, ◌≤ℚ◌, ◌<ℚ◌}
use Rattle.rational.specs.Lists.{at, add_list}
use Rattle.rational.proofs.Lists.{at-add_list, at-Nonneg, Nonneg-at, length-add_list_within}
use Rattle.rational.proofs.Ring.{law, ◌⊕◌, ◌≐◌, num}
use Rattle.rational.proofs.Field.{ℚ_ring}
use Rattle.cert_core.specs.declared.claim.Claim.{Claim}
use Rattle.cert_core.specs.declared.claim.Claim.TheVariants.{Empty, AtLeast}
use Rattle.cert_core.specs.Programs.{Program, IsEven, combination, Ascends, AreMultipliers}
use Rattle.exact_lin.specs.Reckonings.{AreDefined, product_sums}
use Rattle.basics.specs.Duties.{AllMet, Judges}
use Rattle.cert_core.specs.Checks.{Proves, AreReckoned, column_start, column_terms, column_sum, constant_start, constant_terms, constant_sum, range_duties, sign_duties, column_duties, columns_duties, constant_duties, duties}
use Rattle.basics.proofs.Duties.{AllMet-append, AllMet-no_first, AllMet-left, AllMet-right}
use Rattle.cert_core.proofs.Parts.{duties-met}
use Rattle.cert_core.proofs.Meaning.{length-combination, sum_of_products-column, sum_of_products-bounds, sum_of_products-negated_bounds}

-- ---- rows and signs
range_duties-Ascends : (count least : ℕ) (ys : List (ℕ × ℚ)) → AllMet (range_duties count least ys) → Ascends count least ys
range_duties-Ascends count least [] h = tt
range_duties-Ascends count least (y ∷ ys) h = (h.0, range_duties-Ascends count (y.0 + 1) ys h.1)

Ascends-range_duties : (count least : ℕ) (ys : List (ℕ × ℚ)) → Ascends count least ys → AllMet (range_duties count least ys)
Ascends-range_duties count least [] h = tt
Ascends-range_duties count least (y ∷ ys) h = (h.0, Ascends-range_duties count (y.0 + 1) ys h.1)

sign_duties-nonneg : (ys : List (ℕ × ℚ)) → AllMet (sign_duties ys) → AllByRecursion (λ (y : ℕ × ℚ). zeroℚ ≤ℚ y.1) ys
sign_duties-nonneg [] h = tt
sign_duties-nonneg (y ∷ ys) h = (h.0, sign_duties-nonneg ys h.1)

nonneg-sign_duties : (ys : List (ℕ × ℚ)) → AllByRecursion (λ (y : ℕ × ℚ). zeroℚ ≤ℚ y.1) ys → AllMet (sign_duties ys)
nonneg-sign_duties [] h = tt
nonneg-sign_duties (y ∷ ys) h = (h.0, nonneg-sign_duties ys h.1)

module _ (limit : ℕ) (p : Program) (claim : Claim ℚ) (ys : List (ℕ × ℚ)) where
  -- ---- columns
  abbrev pub GoodColumn : ℕ → Type 0
  GoodColumn v = AreDefined limit (product_sums (column_start p claim v) (column_terms p ys v)) × (zeroℚ ≤ℚ column_sum p claim ys v)

  columns_duties-each : (v n : ℕ) → AllMet (columns_duties limit p claim ys v n) → (w : ℕ) → v ≤ w → w < v + n → GoodColumn w
  columns_duties-each v zero h w k l = absurd (omega arith)
  columns_duties-each v (suc n) h w k l =
      let a = AllMet-left (column_duties limit p claim ys v) (columns_duties limit p claim ys (v + 1) n) h in
      let b = AllMet-right (column_duties limit p claim ys v) (columns_duties limit p claim ys (v + 1) n) h in
      ⊎_elim (λ (e : v ≡ w). subst (λ (x : ℕ). GoodColumn x) e (a.0, a.1.0)) (λ m. columns_duties-each (v + 1) n b w m (omega arith)) (here_or_later v w k)
    where
      here_or_later : (v w : ℕ) → v ≤ w → (v ≡ w) ⊎ (v + 1 ≤ w)
      here_or_later v w k = grind arith

  each-columns_duties : (v n : ℕ) → ((w : ℕ) → v ≤ w → w < v + n → GoodColumn w) → AllMet (columns_duties limit p claim ys v n)
  each-columns_duties v zero f = tt
  each-columns_duties v (suc n) f = AllMet-append (column_duties limit p claim ys v) (columns_duties limit p claim ys (v + 1) n) ((f v (omega arith) (omega arith)).0, ((f v (omega arith) (omega arith)).1, tt)) (each-columns_duties (v + 1) n (λ w k l. f w (omega arith) (omega arith)))

-- ---- each column and the constant, by the combination of the rows
empty-column : (p : Program) (ys : List (ℕ × ℚ)) (v : ℕ) → column_sum p Empty ys v ≡ at (combination p.rows ys).factors v
empty-column p ys v = sum_of_products-column p.rows ys v zeroℚ ∙ law ℚ_ring (at (combination p.rows ys).factors v ∷ []) (λ a. num 0 ⊕ a ≐ a) refl

costed-column : (p : Program) (ys : List (ℕ × ℚ)) (q : ℚ) (v : ℕ) → column_sum p (AtLeast q) ys v ≡ at (add_list p.costs (combination p.rows ys).factors) v
costed-column p ys q v = sum_of_products-column p.rows ys v (at p.costs v) ∙ sym (at-add_list p.costs (combination p.rows ys).factors v)

empty-constant : (p : Program) (ys : List (ℕ × ℚ)) → constant_sum p Empty ys ≡ (combination p.rows ys).bound
empty-constant p ys = sum_of_products-bounds p.rows ys zeroℚ ∙ law ℚ_ring ((combination p.rows ys).bound ∷ []) (λ a. num 0 ⊕ a ≐ a) refl

costed-constant : (p : Program) (ys : List (ℕ × ℚ)) (q : ℚ) → constant_sum p (AtLeast q) ys ≡ p.base -ℚ (combination p.rows ys).bound
costed-constant p ys q = sum_of_products-negated_bounds p.rows ys p.base

-- ---- both ways
proves_from : (limit : ℕ) (p : Program) (claim : Claim ℚ) (ys : List (ℕ × ℚ)) → IsEven p → AreMultipliers p ys → ((v : ℕ) → v < length p.costs → zeroℚ ≤ℚ column_sum p claim ys v) → AllMet (constant_duties limit p claim ys) → Proves p claim ys
proves_from limit p Empty ys e m f k = record {
  multipliers = m;
  columns = at-Nonneg (combination p.rows ys).factors (λ v h. subst (λ z. zeroℚ ≤ℚ z) (empty-column p ys v) (f v (let l : length (combination p.rows ys).factors ≤ length p.costs = length-combination (length p.costs) p.rows ys e.even in omega arith)));
  constant = subst (λ z. z <ℚ zeroℚ) (empty-constant p ys) k.1.0;
}
proves_from limit p (AtLeast q) ys e m f k = record {
  multipliers = m;
  columns = at-Nonneg (add_list p.costs (combination p.rows ys).factors) (λ v h. subst (λ z. zeroℚ ≤ℚ z) (costed-column p ys q v) (f v (let l : length (add_list p.costs (combination p.rows ys).factors) ≤ length p.costs = length-add_list_within p.costs (combination p.rows ys).factors (length p.costs) (omega arith) (length-combination (length p.costs) p.rows ys e.even) in omega arith)));
  constant = subst (λ z. q ≤ℚ z) (costed-constant p ys q) k.1.0;
}

multipliers_of_proof : (p : Program) (claim : Claim ℚ) (ys : List (ℕ × ℚ)) → Proves p claim ys → AreMultipliers p ys
multipliers_of_proof p Empty ys c = c.multipliers
multipliers_of_proof p (AtLeast q) ys c = c.multipliers

columns_of_proof : (p : Program) (claim : Claim ℚ) (ys : List (ℕ × ℚ)) (v : ℕ) → Proves p claim ys → zeroℚ ≤ℚ column_sum p claim ys v
columns_of_proof p Empty ys v c = subst (λ z. zeroℚ ≤ℚ z) (sym (empty-column p ys v)) (Nonneg-at (combination p.rows ys).factors v c.columns)
columns_of_proof p (AtLeast q) ys v c = subst (λ z. zeroℚ ≤ℚ z) (sym (costed-column p ys q v)) (Nonneg-at (add_list p.costs (combination p.rows ys).factors) v c.columns)

constant_of_proof : (limit : ℕ) (p : Program) (claim : Claim ℚ) (ys : List (ℕ × ℚ)) → Proves p claim ys → AreDefined limit (product_sums (constant_start p claim) (constant_terms p claim ys)) → AllMet (constant_duties limit p claim ys)
constant_of_proof limit p Empty ys c r = (r, (subst (λ z. z <ℚ zeroℚ) (sym (empty-constant p ys)) c.constant, tt))
constant_of_proof limit p (AtLeast q) ys c r = (r, (subst (λ z. q ≤ℚ z) (sym (costed-constant p ys q)) c.constant, tt))

module _ (limit : ℕ) (p : Program) (claim : Claim ℚ) (ys : List (ℕ × ℚ)) where
  -- what passes the check proves the claim, and each of its sums is defined
  pub duties-exact : IsEven p → AllMet (duties limit p claim ys) → Proves p claim ys × AreReckoned limit p claim ys
  unfolding duties
  duties-exact e h =
      let ranges = AllMet-left (range_duties (length p.rows) 0 ys) (sign_duties ys ++ (columns_duties limit p claim ys 0 (length p.costs) ++ constant_duties limit p claim ys)) h in
      let rest = AllMet-right (range_duties (length p.rows) 0 ys) (sign_duties ys ++ (columns_duties limit p claim ys 0 (length p.costs) ++ constant_duties limit p claim ys)) h in
      let signs = AllMet-left (sign_duties ys) (columns_duties limit p claim ys 0 (length p.costs) ++ constant_duties limit p claim ys) rest in
      let sums = AllMet-right (sign_duties ys) (columns_duties limit p claim ys 0 (length p.costs) ++ constant_duties limit p claim ys) rest in
      let columns = AllMet-left (columns_duties limit p claim ys 0 (length p.costs)) (constant_duties limit p claim ys) sums in
      let constant = AllMet-right (columns_duties limit p claim ys 0 (length p.costs)) (constant_duties limit p claim ys) sums in
      let each : (v : ℕ) → v < length p.costs → GoodColumn limit p claim ys v = λ v l. columns_duties-each limit p claim ys 0 (length p.costs) columns v (omega arith) (omega arith) in (
        proves_from limit p claim ys e (record { ascending = range_duties-Ascends (length p.rows) 0 ys ranges; nonneg = sign_duties-nonneg ys signs }) (λ v l. (each v l).1) constant,
        record { columns = λ v l. (each v l).0; constant = constant.0 },
      )

  -- what proves the claim by defined sums passes the check
  pub exact-duties : Proves p claim ys → AreReckoned limit p claim ys → AllMet (duties limit p claim ys)
  exact-duties c r = duties-met limit p claim ys
      (Ascends-range_duties (length p.rows) 0 ys (multipliers_of_proof p claim ys c).ascending)
      (nonneg-sign_duties ys (multipliers_of_proof p claim ys c).nonneg)
      (each-columns_duties limit p claim ys 0 (length p.costs) (λ v k l. (r.columns v (omega arith), columns_of_proof p claim ys v c)))
      (constant_of_proof limit p claim ys c r.constant)

-- the answer of a check is Ok exactly where the multipliers prove the claim by defined sums
pub Judges-exact : {A E : Type 0} (limit : ℕ) (p : Program) (claim : Claim ℚ) (ys : List (ℕ × ℚ)) (result : Result A E) (named : E → CertFault ℕ ℕ) → IsEven p → Judges result named (duties limit p claim ys) → IsOk result ↔ (Proves p claim ys × AreReckoned limit p claim ys)
Judges-exact limit p claim ys (Ok a) named e j = (λ _. duties-exact limit p claim ys e j, λ _. refl)
Judges-exact limit p claim ys (Err f) named e j = (λ k. cc, λ k. absurd (AllMet-no_first (duties limit p claim ys) (named f) (exact-duties limit p claim ys k.0 k.1) j))

-- an Ok of a check proves the claim
pub Judges-proves : {A E : Type 0} (limit : ℕ) (p : Program) (claim : Claim ℚ) (ys : List (ℕ × ℚ)) (result : Result A E) (named : E → CertFault ℕ ℕ) → IsEven p → Judges result named (duties limit p claim ys) → OnOk result (Proves p claim ys)
Judges-proves limit p claim ys (Ok a) named e j = (duties-exact limit p claim ys e j).0
Judges-proves limit p claim ys (Err f) named e j = tt

pub OnOk-map : {A E : Type 0} {P Q : Type 0} (result : Result A E) → (P → Q) → OnOk result P → OnOk result Q
OnOk-map (Ok a) f h = f h
OnOk-map (Err e) f h = tt
