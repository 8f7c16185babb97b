-- A table that leads back, made one list at a time.
use Rattle.std.proofs.Common.{◌≡◌, refl, sym, ap, ◌∙◌, ℕ, zero, suc, ◌<◌, ◌≤◌, Bool, true, false, ◌&&◌, ◌||◌, ◌==◌, List, [], ◌∷◌, ◌++◌, length, map, take, arith}
use Rattle.std.specs.Prelude.{slice_index_or, slice_set}
use Rattle.std.proofs.lemmas.List.{length-set, get_or-set_same, get_or-set_other}
use Rattle.std.proofs.lemmas.List.Folds.{list_any-append}
use Rattle.std.proofs.lemmas.Bool.{eqb-true}
use Rattle.std.proofs.lemmas.Bool.Decides.{nat_tests}
use Rattle.task_types.specs.Sets.{is_in}
use Rattle.task_types.specs.Related.{IsPut, LeadsBack}

same-zero-suc : (s : ℕ) → (0 == suc s) ≡ false
same-zero-suc s = grind (arith, nat_tests)

same-suc-zero : (s : ℕ) → (suc s == 0) ≡ false
same-suc-zero s = grind (arith, nat_tests)

same-suc : (n s : ℕ) → (suc n == suc s) ≡ (n == s)
same-suc n s = grind (arith, nat_tests)

or_false : (b : Bool) → b ≡ (b || false)
or_false true = refl
or_false false = refl

-- one more list at the end, where it stands at its own place alone
among_lists : (lists : List (List ℕ)) (numbers : List ℕ) (n s : ℕ) → is_in n (slice_index_or (lists ++ numbers ∷ []) s []) ≡ (is_in n (slice_index_or lists s []) || ((length lists == s) && is_in n numbers))
among_lists [] numbers n zero = refl
among_lists [] numbers n (suc s) = sym (ap (λ b. b && is_in n numbers) (same-zero-suc s))
among_lists (x ∷ xs) numbers n zero = or_false (is_in n x) ∙ ap (λ b. is_in n x || (b && is_in n numbers)) (sym (same-suc-zero (length xs)))
among_lists (x ∷ xs) numbers n (suc s) = among_lists xs numbers n s ∙ ap (λ b. is_in n (slice_index_or xs s []) || (b && is_in n numbers)) (sym (same-suc (length xs) s))

pub leads_back_more : (rows more : List (List ℕ)) (count : ℕ) (lists : List (List ℕ)) (numbers : List ℕ) (put : ℕ) → put ≡ length lists → LeadsBack rows count lists → IsPut rows more numbers put → LeadsBack more count (lists ++ numbers ∷ [])
leads_back_more rows more count lists numbers put e b p = record {
  long = p.long ∙ b.long;
  each = λ n s h. p.each n s (omega (arith, b.long)) ∙ ap (λ c. c || ((put == s) && is_in n numbers)) (b.each n s h)
      ∙ ap (λ k. is_in n (slice_index_or lists s []) || ((k == s) && is_in n numbers)) e ∙ sym (among_lists lists numbers n s);
}

-- ---- one number put into the rows of some numbers

module _ (put : ℕ) where
  and_nothing : (n s : ℕ) (row : List ℕ) → is_in s row ≡ (is_in s row || ((put == s) && false))
  and_nothing n s row = go (is_in s row) (put == s)
    where
      go : (a b : Bool) → a ≡ (a || (b && false))
      go true b = refl
      go false true = refl
      go false false = refl

  pub put_nowhere : (rows : List (List ℕ)) → IsPut rows rows [] put
  put_nowhere rows = record { long = refl; each = λ n s h. and_nothing n s (slice_index_or rows n []) }

  pub put_past : (rows : List (List ℕ)) (row : ℕ) → length rows ≤ row → IsPut rows rows (row ∷ []) put
  put_past rows row l = record { long = refl; each = λ n s h. and_nothing n s (slice_index_or rows n []) ∙ ap (λ b. is_in s (slice_index_or rows n []) || ((put == s) && (b || false))) (sym (other_in row n (omega (arith, h)))) }
    where
      other_in : (row n : ℕ) → n < row → (row == n) ≡ false
      other_in row n h = grind (arith, nat_tests)

  pub put_in : (rows : List (List ℕ)) (row : ℕ) → IsPut rows (slice_set rows row (slice_index_or rows row [] ++ put ∷ [])) (row ∷ []) put
  put_in rows row = record { long = length-set rows row (slice_index_or rows row [] ++ put ∷ []); each = λ n s h. by_place n s h (row == n) refl }
    where
      by_place : (n s : ℕ) → n < length rows → (b : Bool) → (row == n) ≡ b
          → is_in s (slice_index_or (slice_set rows row (slice_index_or rows row [] ++ put ∷ [])) n []) ≡ (is_in s (slice_index_or rows n []) || ((put == s) && ((row == n) || false)))
      by_place n s h true e = ap (λ k. is_in s (slice_index_or (slice_set rows k (slice_index_or rows k [] ++ put ∷ [])) n [])) (eqb-true row n e)
          ∙ ap (is_in s) (get_or-set_same rows n (slice_index_or rows n [] ++ put ∷ []) [] h)
          ∙ list_any-append (λ y. y == s) (slice_index_or rows n []) (put ∷ [])
          ∙ ap (λ b. is_in s (slice_index_or rows n []) || b) (either (put == s)) ∙ ap (λ b. is_in s (slice_index_or rows n []) || ((put == s) && (b || false))) (sym e)
        where
          either : (b : Bool) → (b || false) ≡ (b && (true || false))
          either true = refl
          either false = refl
      by_place n s h false e = ap (is_in s) (get_or-set_other rows row n (slice_index_or rows row [] ++ put ∷ []) [] (other_out row n e))
          ∙ and_nothing n s (slice_index_or rows n []) ∙ ap (λ b. is_in s (slice_index_or rows n []) || ((put == s) && (b || false))) (sym e)
        where
          other_out : (m n : ℕ) → (m == n) ≡ false → n ≡ m → ⊥
          other_out m n e h = grind (arith, nat_tests)

  pub put_append : (before between after : List (List ℕ)) (ns more : List ℕ) → IsPut before between ns put → IsPut between after more put → IsPut before after (ns ++ more) put
  put_append before between after ns more p q = record {
    long = q.long ∙ p.long;
    each = λ n s h. q.each n s (omega (arith, p.long)) ∙ ap (λ b. b || ((put == s) && is_in n more)) (p.each n s h)
        ∙ together (is_in s (slice_index_or before n [])) (put == s) (is_in n ns) (is_in n more)
        ∙ ap (λ b. is_in s (slice_index_or before n []) || ((put == s) && b)) (sym (list_any-append (λ y. y == n) ns more));
  }
    where
      together : (a b c d : Bool) → ((a || (b && c)) || (b && d)) ≡ (a || (b && (c || d)))
      together true b c d = refl
      together false true c d = refl
      together false false c d = refl

pub length-map-take : {X Y : Type 0} (f : X → Y) (xs : List X) (i : ℕ) → i < length xs → length (map f (take i xs)) ≡ i
length-map-take f [] i h = absurd (omega arith)
length-map-take f (y ∷ ys) zero h = refl
length-map-take f (y ∷ ys) (suc i) h = ap suc (length-map-take f ys i (omega arith))
