-- The rows that a pivot reckons, and then writes.
use Rattle.std.proofs.Common.{◌≡◌, ℕ, ◌+◌, ◌<◌, ◌≤◌, min, ⊎_elim, Bool, true, false, nat_eq, nat_lt, List, [], length, map, refl, sym, ap, subst, ◌∙◌, get_or, set, arith}
use Rattle.std.specs.Prelude.{Vec, IsTrue, ◌↔◌, if◌then◌else◌}
use Rattle.std.specs.Vec.{with_items}
use Rattle.std.proofs.lemmas.Bool.{false≢true}
use Rattle.std.proofs.lemmas.Bool.Decides.{nat_tests}
use Rattle.std.proofs.lemmas.List.{length-set, length-map, get_or-map, get_or-set_same, get_or-set_other, with_items_is, ext_get_or, map-set}
use Rattle.rational.specs.Rational.{ℚ, zeroℚ}
use Rattle.rational.specs.Lists.{at}
use Rattle.exact_lin.specs.Ids.{nat-decide}
use Rattle.lp_tableau.specs.Dictionaries.{row_in}
use Rattle.lp_tableau.specs.RowLists.{shown_rows, HaveWidth, AreReady}
use Rattle.lp_tableau.specs.Pivots.{replaced, replaced_rows, CanReplace, CanReplaceOthers}
use Rattle.lp_tableau.proofs.Writing.{last_or_before}
use Rattle.lp_tableau.proofs.Solving.{same_or_not}

-- the rows after the pivot, place by place
next_row-at : (rows : List (List ℚ)) (s : List ℚ) (i j k : ℕ) (b : Bool) → IsTrue b ↔ (k ≡ i) → k < length rows → get_or (set (map (replaced s j) rows) i s) k [] ≡ (if b then s else replaced s j (row_in rows k))
next_row-at rows s i j k true e h = subst (λ (n : ℕ). get_or (set (map (replaced s j) rows) n s) k [] ≡ s) (e.0 refl) (get_or-set_same (map (replaced s j) rows) k s [] (omega (arith, h, length-map rows (replaced s j))))
next_row-at rows s i j k false e h = get_or-set_other (map (replaced s j) rows) i k s [] (λ q. absurd (false≢true (e.1 q))) ∙ get_or-map (replaced s j) rows k [] [] h

module _ {S Z : Type 0} (value : S → ℚ) where
  -- what a read gives is the row there
  pub row_in-read : (rows : List (Vec S Z)) (k : ℕ) (row : Vec S Z) (now : List S) → k < length rows → row ≡ get_or rows k row → now ≡ row.items → row_in (shown_rows value rows) k ≡ map value now
  row_in-read rows k row now h e f = get_or-map (λ (row : Vec S Z). map value row.items) rows k row [] h ∙ ap (λ (row : Vec S Z). map value row.items) (sym e) ∙ ap (map value) (sym f)

  pub HaveWidth-put : (n : ℕ) (out : List (Vec S Z)) (k : ℕ) (w : Vec S Z) → length w.items ≡ n → HaveWidth n out → HaveWidth n (set out k w)
  HaveWidth-put n out k w h a i d l = ⊎_elim
      (λ (e : i ≡ k). subst (λ (m : ℕ). length (get_or (set out k w) m d).items ≡ n) (sym e) (ap (λ (v : Vec S Z). length v.items) (get_or-set_same out k w d (omega (arith, length-set out k w))) ∙ h))
      (λ m. ap (λ (v : Vec S Z). length v.items) (get_or-set_other out k i w d m) ∙ a i d (omega (arith, length-set out k w)))
      (same_or_not i k)

  -- a vector whose items are written through a slice
  pub written-items : (v : Vec S Z) (new : List S) → length new ≡ length v.items → (with_items v new).items ≡ new
  written-items v new h = with_items_is v new (h ∙ sym v.ok.0)

-- ---- the pass that reckons
module _ (limit : ℕ) (solution : List ℚ) (i j : ℕ) (rows : List (List ℚ)) where
  -- the first k rows are reckoned
  pub record Reckoned (spare : List (List ℚ)) (k : ℕ) : Type 0 where
    pub defined : (m : ℕ) → m < k → ¬ (m ≡ i) → CanReplace limit solution j (row_in rows m)
    pub ready : (m : ℕ) → m < k → m + 1 < length spare → ¬ (m ≡ i) → ¬ (at (row_in rows m) j ≡ zeroℚ) → row_in spare m ≡ replaced solution j (row_in rows m)

  pub Reckoned-begin : (spare : List (List ℚ)) → Reckoned spare 0
  Reckoned-begin spare = record { defined = λ m h n. absurd (omega arith); ready = λ m h l n z. absurd (omega arith) }

  pub Reckoned-next : (spare : List (List ℚ)) (k place last : ℕ) (row new : List ℚ) → last + 1 ≡ length spare → place ≡ min k last → row_in rows k ≡ row
      → (¬ IsTrue (nat_eq k i) → CanReplace limit solution j row × (¬ (at row j ≡ zeroℚ) → new ≡ replaced solution j row))
      → Reckoned spare k → Reckoned (set spare place new) (k + 1)
  Reckoned-next spare k place last row new e f g c r =
      let here : ¬ (k ≡ i) → CanReplace limit solution j (row_in rows k) × (¬ (at (row_in rows k) j ≡ zeroℚ) → new ≡ replaced solution j (row_in rows k)) =
      λ n. subst (λ (u : List ℚ). CanReplace limit solution j u × (¬ (at u j ≡ zeroℚ) → new ≡ replaced solution j u)) (sym g) (c (λ t. n ((nat-decide k i).0 t))) in
      record {
        defined = λ m h n. ⊎_elim (λ (q : m ≡ k). subst (λ (x : ℕ). CanReplace limit solution j (row_in rows x)) (sym q) (here (λ t. n (q ∙ t))).0) (λ b. r.defined m b n) (last_or_before m k h);
        ready = λ m h l n z. ⊎_elim
            (λ (q : m ≡ k). let there : place ≡ k = omega (arith, f, l, q, e, length-set spare place new) in
            let inside : k < length spare = omega (arith, l, q, length-set spare place new) in
            subst (λ (x : ℕ). row_in (set spare place new) x ≡ replaced solution j (row_in rows x)) (sym q)
            (subst (λ (x : ℕ). row_in (set spare x new) k ≡ replaced solution j (row_in rows k)) (sym there) (get_or-set_same spare k new [] inside ∙ (here (λ t. n (q ∙ t))).1 (λ t. z (ap (λ (x : ℕ). at (row_in rows x) j) q ∙ t)))))
            (λ (b : m < k). let other : ¬ (m ≡ place) = (λ t. absurd (omega (arith, f, l, b, e, t, length-set spare place new))) in
            get_or-set_other spare place m new [] other ∙ r.ready m b (omega (arith, l, length-set spare place new)) n z)
            (last_or_before m k h);
      }

  pub Reckoned-all : (spare : List (List ℚ)) (k : ℕ) → k ≡ length rows → Reckoned spare k → CanReplaceOthers limit solution i j rows × AreReady solution i j rows spare
  Reckoned-all spare k e r = (λ m h n. r.defined m (omega arith) n, λ m h l n z. r.ready m (omega arith) l n z)

  pub Reckoned-fails : (k : ℕ) (row : List ℚ) → k < length rows → row_in rows k ≡ row → (¬ IsTrue (nat_eq k i)) × (¬ CanReplace limit solution j row) → ¬ CanReplaceOthers limit solution i j rows
  Reckoned-fails k row h g c all = c.1 (subst (CanReplace limit solution j) g (all k h (λ q. c.0 ((nat-decide k i).1 q))))

-- ---- the pass that writes
module _ (solution : List ℚ) (i j : ℕ) (first beside : List (List ℚ)) where
  -- the first k rows are those after the pivot, the others and their spare rows are as they were
  pub record Rewritten (now spare : List (List ℚ)) (k : ℕ) : Type 0 where
    pub count : length now ≡ length first
    pub spare_count : length spare ≡ length beside
    pub done : (m : ℕ) → m < k → m < length first → row_in now m ≡ row_in (replaced_rows solution i j first) m
    pub left : (m : ℕ) → k ≤ m → row_in now m ≡ row_in first m
    pub kept : (m : ℕ) → k ≤ m → m + 1 < length beside → row_in spare m ≡ row_in beside m

  pub Rewritten-begin : Rewritten first beside 0
  Rewritten-begin = record { count = refl; spare_count = refl; done = λ m h l. absurd (omega arith); left = λ m h. refl; kept = λ m h l. refl }

  pub Rewritten-next : (now spare : List (List ℚ)) (k place last : ℕ) (row new old : List ℚ) → k < length first → last + 1 ≡ length beside → place ≡ min k last → row_in now k ≡ row
      → new ≡ (if nat_eq k i then solution else replaced solution j row) → Rewritten now spare k → Rewritten (set now k new) (set spare place old) (k + 1)
  Rewritten-next now spare k place last row new old h e f g w r = record {
    count = length-set now k new ∙ r.count;
    spare_count = length-set spare place old ∙ r.spare_count;
    done = λ m l b. ⊎_elim
        (λ (q : m ≡ k). subst (λ (x : ℕ). row_in (set now k new) x ≡ row_in (replaced_rows solution i j first) x) (sym q)
        (get_or-set_same now k new [] (omega (arith, h, r.count)) ∙ w ∙ ap (λ (u : List ℚ). if nat_eq k i then solution else replaced solution j u) (sym g ∙ r.left k (omega arith)) ∙ sym (next_row-at first solution i j k (nat_eq k i) (nat-decide k i) h)))
        (λ (c : m < k). get_or-set_other now k m new [] (λ t. absurd (omega (arith, c, t))) ∙ r.done m c b)
        (last_or_before m k l);
    left = λ m l. get_or-set_other now k m new [] (λ t. absurd (omega (arith, l, t))) ∙ r.left m (omega arith);
    kept = λ m l b. get_or-set_other spare place m old [] (λ t. absurd (omega (arith, l, t, f))) ∙ r.kept m (omega arith) b;
  }

  pub Rewritten-all : (now spare : List (List ℚ)) (k : ℕ) → k ≡ length first → Rewritten now spare k → now ≡ replaced_rows solution i j first
  Rewritten-all now spare k e r = ext_get_or [] now (replaced_rows solution i j first) (r.count ∙ sym (length-set (map (replaced solution j) first) i solution ∙ length-map first (replaced solution j))) (λ m h. r.done m (omega (arith, h, r.count)) (omega (arith, h, r.count)))

  -- what the row at k asks of its spare row
  pub Rewritten-ready : (now spare : List (List ℚ)) (k place last : ℕ) (row beside_it : List ℚ) → k < length first → last + 1 ≡ length beside → place ≡ min k last → row_in now k ≡ row → row_in spare place ≡ beside_it → Rewritten now spare k
      → AreReady solution i j first beside → IsTrue (nat_lt k last) → ¬ IsTrue (nat_eq k i) → ¬ (at row j ≡ zeroℚ) → beside_it ≡ replaced solution j row
  Rewritten-ready now spare k place last row beside_it h e f g b r a t n z =
      let below : k < last = nat_lt-is k last t in
      let there : place ≡ k = omega (arith, f, below) in
      let same : row ≡ row_in first k = sym g ∙ r.left k (omega arith) in
      sym b ∙ ap (row_in spare) there ∙ r.kept k (omega arith) (omega (arith, e, below)) ∙ a k h (omega (arith, e, below)) (λ q. n ((nat-decide k i).1 q)) (λ q. z (ap (λ (u : List ℚ). at u j) same ∙ q)) ∙ ap (replaced solution j) (sym same)
    where
      nat_lt-is : (k last : ℕ) → IsTrue (nat_lt k last) → k < last
      nat_lt-is k last t = grind (arith, nat_tests)

  pub Rewritten-defined : (limit : ℕ) (now spare : List (List ℚ)) (k : ℕ) (row : List ℚ) → k < length first → row_in now k ≡ row → Rewritten now spare k → CanReplaceOthers limit solution i j first → ¬ IsTrue (nat_eq k i) → CanReplace limit solution j row
  Rewritten-defined limit now spare k row h g r c n = subst (CanReplace limit solution j) (sym (r.left k (omega arith)) ∙ g) (c k h (λ q. n ((nat-decide k i).1 q)))

-- ---- both passes, over rows of scalars
module _ {S Z : Type 0} (value : S → ℚ) (solution : List ℚ) (i j : ℕ) where
  shown-set : (rows : List (Vec S Z)) (k : ℕ) (w : Vec S Z) → shown_rows value (set rows k w) ≡ set (shown_rows value rows) k (map value w.items)
  shown-set rows k w = map-set (λ (row : Vec S Z). map value row.items) rows k w

  pub shown-length : (rows : List (Vec S Z)) → length (shown_rows value rows) ≡ length rows
  shown-length rows = length-map rows (λ (row : Vec S Z). map value row.items)

  pub shown-at : (rows : List (Vec S Z)) (k : ℕ) (d : Vec S Z) → k < length rows → row_in (shown_rows value rows) k ≡ map value (get_or rows k d).items
  shown-at rows k d h = get_or-map (λ (row : Vec S Z). map value row.items) rows k d [] h

  pub Reckoned-write : (limit : ℕ) (rows spare : List (Vec S Z)) (k place last : ℕ) (row v : Vec S Z) (now new : List S) → k < length rows → row ≡ get_or rows k row → now ≡ row.items → last + 1 ≡ length spare → place ≡ min k last → length new ≡ length v.items
      → (¬ IsTrue (nat_eq k i) → CanReplace limit solution j (map value now) × (¬ (at (map value now) j ≡ zeroℚ) → map value new ≡ replaced solution j (map value now)))
      → Reckoned limit solution i j (shown_rows value rows) (shown_rows value spare) k → Reckoned limit solution i j (shown_rows value rows) (shown_rows value (set spare place (with_items v new))) (k + 1)
  Reckoned-write limit rows spare k place last row v now new h e f l p n c r =
      subst (λ (u : List (List ℚ)). Reckoned limit solution i j (shown_rows value rows) u (k + 1)) (sym (shown-set spare place (with_items v new) ∙ ap (λ (x : List S). set (shown_rows value spare) place (map value x)) (written-items value v new n)))
      (Reckoned-next limit solution i j (shown_rows value rows) (shown_rows value spare) k place last (map value now) (map value new) (l ∙ sym (shown-length spare)) p (row_in-read value rows k row now h e f) c r)

  pub Rewritten-write : (first beside : List (List ℚ)) (rows spare : List (Vec S Z)) (k place last : ℕ) (d w old : Vec S Z) → k < length rows → last + 1 ≡ length beside → place ≡ min k last
      → map value w.items ≡ (if nat_eq k i then solution else replaced solution j (map value (get_or rows k d).items))
      → Rewritten solution i j first beside (shown_rows value rows) (shown_rows value spare) k → Rewritten solution i j first beside (shown_rows value (set rows k w)) (shown_rows value (set spare place old)) (k + 1)
  Rewritten-write first beside rows spare k place last d w old h l p n r =
      subst (λ (u : List (List ℚ)). Rewritten solution i j first beside u (shown_rows value (set spare place old)) (k + 1)) (sym (shown-set rows k w))
      (subst (λ (u : List (List ℚ)). Rewritten solution i j first beside (set (shown_rows value rows) k (map value w.items)) u (k + 1)) (sym (shown-set spare place old))
      (Rewritten-next solution i j first beside (shown_rows value rows) (shown_rows value spare) k place last (map value (get_or rows k d).items) (map value w.items) (map value old.items) (omega (arith, h, r.count, shown-length rows)) l p (shown-at rows k d h) n r))
