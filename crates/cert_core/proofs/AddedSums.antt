-- The sums of all columns, one row after another.
use Rattle.std.proofs.Common.{◌≡◌, ℕ, ◌+◌, ◌<◌, ◌≤◌, ◌⊎◌, inl, inr, ⊎_elim, Option, Some, None, List, [], ◌∷◌, length, refl, sym, ap, subst, ◌∙◌, get_or, set, arith}
use Rattle.std.proofs.lemmas.List.{get_or-set_same, get_or-set_other, get_or_default, length-set}
use Rattle.rational.specs.Rational.{ℚ, zeroℚ, ◌*ℚ◌}
use Rattle.exact_lin.specs.Reckoning.{Fits}
use Rattle.exact_lin.specs.Forms.{Terms, AscendFrom, Covers, coefficient}
use Rattle.exact_lin.specs.Reckonings.{AreDefined, product_sums}
use Rattle.exact_lin.proofs.Reckonings.{GoesOn, GoesOn-begin, GoesOn-next, GoesOn-stop}
use Rattle.exact_lin.proofs.Nothing.{adds_nothing_right}
use Rattle.exact_lin.proofs.Results.{fits-sum}
use Rattle.exact_lin.proofs.MergeTerms.{coefficient-below, coefficient-later, coefficient-here}
use Rattle.cert_core.specs.declared.claim.Claim.{Claim}
use Rattle.cert_core.specs.Programs.{Program, entry_of}
use Rattle.cert_core.specs.Checks.{column_start, column_terms}
use Rattle.cert_core.specs.SumsSoFar.{sum_at, FitsIfThere, AllFit, IsAdded, AreAdded, IsSum, AreSums}

same_or_other : (k v : ℕ) → (k ≡ v) ⊎ ((k < v) ⊎ (v < k))
same_or_other k v = grind arith

before_or_here : (k n : ℕ) → k < n + 1 → (k < n) ⊎ (k ≡ n)
before_or_here k n h = grind arith

module _ {S : Type 0} (value : S → ℚ) (limit : ℕ) where
  -- ---- one sum
  nothing_added : (y : ℚ) (o : Option S) → FitsIfThere value limit o → IsAdded value limit y zeroℚ o o
  nothing_added y None f = refl
  nothing_added y (Some s) f = let n = adds_nothing_right limit (value s) y zeroℚ (value s) f refl refl in (n.0, n.1)

  added-fits : (y a : ℚ) (o p : Option S) → IsAdded value limit y a o p → FitsIfThere value limit p
  added-fits y a None p e = subst (FitsIfThere value limit) (sym e) tt
  added-fits y a (Some s) None n = tt
  added-fits y a (Some s) (Some p) k = subst (Fits limit) (sym k.1) (fits-sum limit (value s) (y *ℚ a) k.0.1.0)

  then_nothing : (y a : ℚ) (o p q : Option S) → IsAdded value limit y a o p → IsAdded value limit y zeroℚ p q → IsAdded value limit y a o q
  then_nothing y a None p q e h = subst (λ (x : Option S). IsAdded value limit y zeroℚ x q) e h
  then_nothing y a (Some s) None q n h = subst (λ (x : Option S). IsAdded value limit y a (Some s) x) (sym h) n
  then_nothing y a (Some s) (Some p) None k h = absurd (h (adds_nothing_right limit (value p) y zeroℚ (value p) (added-fits y a (Some s) (Some p) k) refl refl).0)
  then_nothing y a (Some s) (Some p) (Some q) k h = (k.0, h.1 ∙ sym (adds_nothing_right limit (value p) y zeroℚ (value p) (added-fits y a (Some s) (Some p) k) refl refl).1 ∙ k.1)

  -- what was read is the sum at its place
  sum-read : (sums : List (Option S)) (k : ℕ) (read : Option S) → k < length sums → read ≡ get_or sums k read → read ≡ sum_at sums k
  sum-read sums k read h e = e ∙ get_or_default sums k read None h

  -- ---- a row by its terms

  -- what is left of the terms makes of the sums what all of them make of those before
  pub record Adding (y : ℚ) (terms : Terms) (before now : List (Option S)) (left : Terms) : Type 0 where
    pub same_length : length now ≡ length before
    pub ascends : (low : ℕ) × AscendFrom low left
    pub within : Covers (length before) left
    pub fit : AllFit value limit now
    pub goes_on : (k : ℕ) (q : Option S) → k < length before → IsAdded value limit y (coefficient left k) (sum_at now k) q → IsAdded value limit y (coefficient terms k) (sum_at before k) q

  pub Adding-begin : (y : ℚ) (terms : Terms) (sums : List (Option S)) → AscendFrom 0 terms → Covers (length sums) terms → AllFit value limit sums → Adding y terms sums sums terms
  Adding-begin y terms sums a w f = record { same_length = refl; ascends = (0, a); within = w; fit = f; goes_on = λ k q l h. h }

  Adding-next : (y : ℚ) (terms : Terms) (before now : List (Option S)) (t : ℕ × ℚ) (rest : Terms) (x : Option S) → IsAdded value limit y t.1 (sum_at now t.0) x → Adding y terms before now (t ∷ rest) → Adding y terms before (set now t.0 x) rest
  Adding-next y terms before now t rest x is s = record {
    same_length = length-set now t.0 x ∙ s.same_length;
    ascends = (t.0 + 1, above);
    within = s.within.1;
    fit = λ k l. ⊎_elim
        (λ (e : k ≡ t.0). subst (FitsIfThere value limit) (sym (ap (sum_at (set now t.0 x)) e ∙ here)) (added-fits y t.1 (sum_at now t.0) x is))
        (λ n. let apart : ¬ (k ≡ t.0) = ⊎_elim (λ (a : k < t.0). λ (e : k ≡ t.0). omega arith) (λ (a : t.0 < k). λ (e : k ≡ t.0). omega arith) n in
        subst (FitsIfThere value limit) (sym (get_or-set_other now t.0 k x None apart)) (s.fit k (omega (arith, l, length-set now t.0 x))))
        (same_or_other k t.0);
    goes_on = λ k q l h. ⊎_elim
        (λ (e : k ≡ t.0). s.goes_on k q l (subst (λ (a : ℚ). IsAdded value limit y a (sum_at now k) q) (sym (coefficient-here k t rest (sym e)))
        (subst (λ (m : ℕ). IsAdded value limit y t.1 (sum_at now m) q) (sym e) (then_nothing y t.1 (sum_at now t.0) x q is
        (subst (λ (o : Option S). IsAdded value limit y zeroℚ o q) here
        (subst (λ (a : ℚ). IsAdded value limit y a (sum_at (set now t.0 x) t.0) q) (coefficient-below t.0 (t.0 + 1) rest above (omega arith))
        (subst (λ (m : ℕ). IsAdded value limit y (coefficient rest m) (sum_at (set now t.0 x) m) q) e h)))))))
        (λ n. let apart : ¬ (k ≡ t.0) = ⊎_elim (λ (a : k < t.0). λ (e : k ≡ t.0). omega arith) (λ (a : t.0 < k). λ (e : k ≡ t.0). omega arith) n in
        s.goes_on k q l (subst (λ (a : ℚ). IsAdded value limit y a (sum_at now k) q) (sym (elsewhere k n))
        (subst (λ (o : Option S). IsAdded value limit y (coefficient rest k) o q) (get_or-set_other now t.0 k x None apart) h)))
        (same_or_other k t.0);
  }
    where
      low : ℕ
      low = s.ascends.0

      above : AscendFrom (t.0 + 1) rest
      above = s.ascends.1.2

      here : sum_at (set now t.0 x) t.0 ≡ x
      here = get_or-set_same now t.0 x None (omega (arith, s.within.0, s.same_length))

      elsewhere : (k : ℕ) → (k < t.0) ⊎ (t.0 < k) → coefficient (t ∷ rest) k ≡ coefficient rest k
      elsewhere k (inl a) = coefficient-below k t.0 (t ∷ rest) (omega arith, s.ascends.1.1, above) a ∙ sym (coefficient-below k (t.0 + 1) rest above (omega (arith, a)))
      elsewhere k (inr a) = coefficient-later k t rest a

  -- the place and the sum at it, as they were read
  pub Adding-step : (y : ℚ) (terms : Terms) (before now : List (Option S)) (t : ℕ × ℚ) (rest : Terms) (place : ℕ) (read x : Option S) → place ≡ t.0 → read ≡ get_or now place read → IsAdded value limit y t.1 read x
      → Adding y terms before now (t ∷ rest) → Adding y terms before (set now place x) rest
  Adding-step y terms before now t rest place read x e is h s = subst (λ (k : ℕ). Adding y terms before (set now k x) rest) (sym e)
      (Adding-next y terms before now t rest x (subst (λ (o : Option S). IsAdded value limit y t.1 o x) (sum-read now t.0 read (omega (arith, s.within.0, s.same_length)) (subst (λ (k : ℕ). read ≡ get_or now k read) e is)) h) s)

  pub Adding-all : (y : ℚ) (terms : Terms) (before now : List (Option S)) → Adding y terms before now [] → AreAdded value limit y (coefficient terms) before now
  Adding-all y terms before now s = record {
    same_length = s.same_length;
    each = λ k l. s.goes_on k (sum_at now k) l (nothing_added y (sum_at now k) (s.fit k (omega (arith, l, s.same_length))));
  }

  -- ---- a row by its entries

  -- the sums at the first places have their products, the others not yet
  pub record AddedTo (y : ℚ) (row : ℕ → ℚ) (before now : List (Option S)) (n : ℕ) : Type 0 where
    pub same_length : length now ≡ length before
    pub done : (k : ℕ) → k < n → IsAdded value limit y (row k) (sum_at before k) (sum_at now k)
    pub still : (k : ℕ) → n ≤ k → sum_at now k ≡ sum_at before k

  pub AddedTo-begin : (y : ℚ) (row : ℕ → ℚ) (sums : List (Option S)) → AddedTo y row sums sums 0
  AddedTo-begin y row sums = record { same_length = refl; done = λ k h. absurd (omega arith); still = λ k h. refl }

  AddedTo-next : (y : ℚ) (row : ℕ → ℚ) (before now : List (Option S)) (n : ℕ) (x : Option S) → n < length now → IsAdded value limit y (row n) (sum_at now n) x → AddedTo y row before now n → AddedTo y row before (set now n x) (n + 1)
  AddedTo-next y row before now n x l is s = record {
    same_length = length-set now n x ∙ s.same_length;
    done = λ k h. ⊎_elim
        (λ (a : k < n). subst (λ (o : Option S). IsAdded value limit y (row k) (sum_at before k) o) (sym (get_or-set_other now n k x None (omega arith))) (s.done k a))
        (λ (e : k ≡ n). subst (λ (m : ℕ). IsAdded value limit y (row m) (sum_at before m) (sum_at (set now n x) m)) (sym e)
        (subst (λ (o : Option S). IsAdded value limit y (row n) (sum_at before n) o) (sym (get_or-set_same now n x None l))
        (subst (λ (o : Option S). IsAdded value limit y (row n) o x) (s.still n (omega arith)) is)))
        (before_or_here k n h);
    still = λ k h. get_or-set_other now n k x None (omega arith) ∙ s.still k (omega arith);
  }

  pub AddedTo-step : (y : ℚ) (row : ℕ → ℚ) (before now : List (Option S)) (n : ℕ) (a : ℚ) (read x : Option S) → n < length now → a ≡ row n → read ≡ get_or now n read → IsAdded value limit y a read x
      → AddedTo y row before now n → AddedTo y row before (set now n x) (n + 1)
  AddedTo-step y row before now n a read x l e is h s = AddedTo-next y row before now n x l (subst (λ (q : ℚ). IsAdded value limit y q (sum_at now n) x) e (subst (λ (o : Option S). IsAdded value limit y a o x) (sum-read now n read l is) h)) s

  pub AddedTo-all : (y : ℚ) (row : ℕ → ℚ) (before now : List (Option S)) (n : ℕ) → length before ≡ n → AddedTo y row before now n → AreAdded value limit y row before now
  AddedTo-all y row before now n e s = record { same_length = s.same_length; each = λ k l. s.done k (omega (arith, l, e)) }

  -- the same numbers, told otherwise
  pub added-same : (y : ℚ) (row other : ℕ → ℚ) (before now : List (Option S)) → ((k : ℕ) → k < length before → row k ≡ other k) → AreAdded value limit y row before now → AreAdded value limit y other before now
  added-same y row other before now same s = record { same_length = s.same_length; each = λ k l. subst (λ (a : ℚ). IsAdded value limit y a (sum_at before k) (sum_at now k)) (same k l) (s.each k l) }

  -- ---- all rows

  -- a sum goes on with the products that are left, unless it is undefined already
  abbrev pub SumGoesOn : ℚ → List (ℚ × ℚ) → List (ℚ × ℚ) → Option S → Type 0
  SumGoesOn start all rest None = ¬ AreDefined limit (product_sums start all)
  SumGoesOn start all rest (Some s) = GoesOn limit start all (value s) rest × Fits limit (value s)

  sum-begin : (start : ℚ) (all : List (ℚ × ℚ)) (o : Option S) → IsSum value limit start [] o → SumGoesOn start all all o
  sum-begin start all None h = absurd (h tt)
  sum-begin start all (Some s) h = (subst (λ (q : ℚ). GoesOn limit start all q all) (sym h.1) (GoesOn-begin limit start all), h.2)

  sum-next : (start : ℚ) (all : List (ℚ × ℚ)) (y a : ℚ) (rest : List (ℚ × ℚ)) (o now : Option S) → IsAdded value limit y a o now → SumGoesOn start all ((y, a) ∷ rest) o → SumGoesOn start all rest now
  sum-next start all y a rest None now e n = subst (SumGoesOn start all rest) (sym e) n
  sum-next start all y a rest (Some s) None n g = GoesOn-stop limit start all (value s) y a rest g.0 n
  sum-next start all y a rest (Some s) (Some t) k g = (subst (λ (q : ℚ). GoesOn limit start all q rest) (sym k.1) (GoesOn-next limit start all (value s) y a rest g.0 k.0), added-fits y a (Some s) (Some t) k)

  sum-end : (start : ℚ) (all : List (ℚ × ℚ)) (o : Option S) → SumGoesOn start all [] o → IsSum value limit start all o
  sum-end start all None n = n
  sum-end start all (Some s) g = (g.0.back tt, sym g.0.value, g.1)

  sum-fits : (start : ℚ) (all rest : List (ℚ × ℚ)) (o : Option S) → SumGoesOn start all rest o → FitsIfThere value limit o
  sum-fits start all rest None n = tt
  sum-fits start all rest (Some s) g = g.1

  module _ (p : Program) (claim : Claim ℚ) (ys : List (ℕ × ℚ)) where
    pub record SumsGoOn (rest : List (ℕ × ℚ)) (sums : List (Option S)) : Type 0 where
      pub one_each : length sums ≡ length p.costs
      pub each : (v : ℕ) → v < length p.costs → SumGoesOn (column_start p claim v) (column_terms p ys v) (column_terms p rest v) (sum_at sums v)

    pub SumsGoOn-begin : (sums : List (Option S)) → AreSums value limit p claim [] sums → SumsGoOn ys sums
    SumsGoOn-begin sums s = record { one_each = s.one_each; each = λ v h. sum-begin (column_start p claim v) (column_terms p ys v) (sum_at sums v) (s.each v h) }

    pub SumsGoOn-next : (y : ℕ × ℚ) (rest : List (ℕ × ℚ)) (sums now : List (Option S)) → AreAdded value limit y.1 (entry_of p y.0) sums now → SumsGoOn (y ∷ rest) sums → SumsGoOn rest now
    SumsGoOn-next y rest sums now a s = record {
      one_each = a.same_length ∙ s.one_each;
      each = λ v h. sum-next (column_start p claim v) (column_terms p ys v) y.1 (entry_of p y.0 v) (column_terms p rest v) (sum_at sums v) (sum_at now v) (a.each v (omega (arith, h, s.one_each))) (s.each v h);
    }

    pub SumsGoOn-all : (sums : List (Option S)) → SumsGoOn [] sums → AreSums value limit p claim ys sums
    SumsGoOn-all sums s = record { one_each = s.one_each; each = λ v h. sum-end (column_start p claim v) (column_terms p ys v) (sum_at sums v) (s.each v h) }

    pub SumsGoOn-fit : (rest : List (ℕ × ℚ)) (sums : List (Option S)) → SumsGoOn rest sums → AllFit value limit sums
    SumsGoOn-fit rest sums s = λ k l. sum-fits (column_start p claim k) (column_terms p ys k) (column_terms p rest k) (sum_at sums k) (s.each k (omega (arith, l, s.one_each)))

    -- the sum of a column, as it was read
    pub sum-of_column : (sums : List (Option S)) (v w : ℕ) (read : Option S) → w ≡ v → v < length p.costs → read ≡ get_or sums v read → AreSums value limit p claim ys sums → IsSum value limit (column_start p claim w) (column_terms p ys w) read
    sum-of_column sums v w read e h is s = subst (λ (o : Option S). IsSum value limit (column_start p claim w) (column_terms p ys w) o) (sym (sum-read sums v read (omega (arith, h, s.one_each)) is))
        (subst (λ (x : ℕ). IsSum value limit (column_start p claim x) (column_terms p ys x) (sum_at sums v)) (sym e) (s.each v h))

  -- ---- where the sums begin

  -- the first n sums have begun
  pub record HaveBegun (start : ℕ → ℚ) (sums : List (Option S)) (n : ℕ) : Type 0 where
    pub each : (v : ℕ) → v < n → IsSum value limit (start v) [] (sum_at sums v)

  pub HaveBegun-none : (start : ℕ → ℚ) (sums : List (Option S)) → HaveBegun start sums 0
  HaveBegun-none start sums = record { each = λ v h. absurd (omega arith) }

  pub HaveBegun-next : (start : ℕ → ℚ) (sums : List (Option S)) (n w : ℕ) (s : S) → n < length sums → w ≡ n → value s ≡ start w → Fits limit (value s) → HaveBegun start sums n → HaveBegun start (set sums n (Some s)) (n + 1)
  HaveBegun-next start sums n w s l e is f b = record {
    each = λ v h. ⊎_elim
        (λ (a : v < n). subst (IsSum value limit (start v) []) (sym (get_or-set_other sums n v (Some s) None (omega arith))) (b.each v a))
        (λ (q : v ≡ n). subst (λ (m : ℕ). IsSum value limit (start m) [] (sum_at (set sums n (Some s)) m)) (sym q)
        (subst (IsSum value limit (start n) []) (sym (get_or-set_same sums n (Some s) None l)) (tt, is ∙ ap start e, f)))
        (before_or_here v n h);
  }

  pub HaveBegun-all : (p : Program) (claim : Claim ℚ) (sums : List (Option S)) (n : ℕ) → n ≡ length p.costs → length sums ≡ length p.costs → HaveBegun (column_start p claim) sums n → AreSums value limit p claim [] sums
  HaveBegun-all p claim sums n e h b = record { one_each = h; each = λ v l. b.each v (omega (arith, l, e)) }
