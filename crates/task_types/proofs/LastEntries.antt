-- Entries put at the ends of rows, once each.
use Rattle.std.proofs.Common.{◌≡◌, refl, sym, ap, subst, ◌∙◌, ℕ, suc, ◌-◌, ◌<◌, ◌≤◌, Bool, true, false, ◌&&◌, ◌||◌, ◌==◌, List, [], ◌∷◌, ◌++◌, length, Some, None, arith}
use Rattle.std.specs.Prelude.{slice_get, slice_set, slice_index_or, if◌then◌else◌}
use Rattle.std.proofs.lemmas.Bool.{eq-eqb, eqb-true}
use Rattle.std.proofs.lemmas.Bool.Decides.{nat_tests}
use Rattle.std.proofs.lemmas.List.{length-set, set-get_or, get_or-set_same, get_or-set_other}
use Rattle.std.proofs.lemmas.List.Folds.{list_any-append}
use Rattle.task_types.specs.declared.tokens.Token.{Token}
use Rattle.task_types.specs.declared.tokens.Touch.{Touch}
use Rattle.task_types.specs.declared.touches.index.Index.{Index}
use Rattle.task_types.specs.declared.tokens.Touch.TheVariants.{Look, Mark, Bend}
use Rattle.task_types.specs.Sets.{is_in}
use Rattle.task_types.specs.Related.{is_last, same_touch, put_last, put_where, found, ArePut, IsPutInAll}

pub last_is : (n : ℕ) (t : Touch) (row : List (ℕ × Touch)) (x : ℕ × Touch) → Some x ≡ slice_get row (length row - 1) → is_last n t row ≡ ((x.0 == n) && same_touch x.1 t)
last_is n t [] x e = cc
last_is n t (y ∷ []) x e = let f : y ≡ x = cc in ap (λ (z : ℕ × Touch). (z.0 == n) && same_touch z.1 t) f
last_is n t (y ∷ z ∷ zs) x e = last_is n t (z ∷ zs) x (let f : length (y ∷ z ∷ zs) - 1 ≡ suc (length (z ∷ zs) - 1) = omega arith in rw f at e)

pub no_last : (n : ℕ) (t : Touch) (row : List (ℕ × Touch)) → None ≡ slice_get row (length row - 1) → is_last n t row ≡ false
no_last n t [] e = refl
no_last n t (y ∷ []) e = cc
no_last n t (y ∷ z ∷ zs) e = no_last n t (z ∷ zs) (let f : length (y ∷ z ∷ zs) - 1 ≡ suc (length (z ∷ zs) - 1) = omega arith in rw f at e)

pub is_last-append : (n : ℕ) (t : Touch) (row : List (ℕ × Touch)) (y : ℕ × Touch) → is_last n t (row ++ y ∷ []) ≡ ((y.0 == n) && same_touch y.1 t)
is_last-append n t [] y = refl
is_last-append n t (x ∷ []) y = refl
is_last-append n t (x ∷ z ∷ zs) y = is_last-append n t (z ∷ zs) y

-- ---- rows with entries put at their ends

same_touch-itself : (t : Touch) → same_touch t t ≡ true
same_touch-itself Look = refl
same_touch-itself Mark = refl
same_touch-itself Bend = refl

pub put_again : (n : ℕ) (t : Touch) (row : List (ℕ × Touch)) → put_last n t (put_last n t row) ≡ put_last n t row
put_again n t row = go (is_last n t row) refl
  where
    go : (b : Bool) → is_last n t row ≡ b → put_last n t (if b then row else (row ++ (n, t) ∷ [])) ≡ (if b then row else (row ++ (n, t) ∷ []))
    go true e = rw e refl
    go false e = rw (is_last-append n t row (n, t), eq-eqb n n refl, same_touch-itself t) refl

is_other : (i s : ℕ) → (i == s) ≡ false → s ≡ i → ⊥
is_other i s e h = grind (arith, nat_tests)

-- ---- an entry put into the rows of some snap actions

pub nothing_put : (rows : List (List (ℕ × Touch))) (n : ℕ) (t : Touch) → ArePut rows rows n t []
nothing_put rows n t = record { long = refl; each = λ s h. refl }

pub put_append : (before between after : List (List (ℕ × Touch))) (n : ℕ) (t : Touch) (ss more : List ℕ) → ArePut before between n t ss → ArePut between after n t more → ArePut before after n t (ss ++ more)
put_append before between after n t ss more p q = record {
  long = q.long ∙ p.long;
  each = λ s h. q.each s (omega (arith, p.long)) ∙ ap (λ row. if is_in s more then put_last n t row else row) (p.each s h) ∙ twice (is_in s ss) (is_in s more) (slice_index_or before s [])
      ∙ sym (ap (λ b. if b then put_last n t (slice_index_or before s []) else slice_index_or before s []) (list_any-append (λ y. y == s) ss more));
}
  where
    twice : (a b : Bool) (row : List (ℕ × Touch)) → (if b then put_last n t (if a then put_last n t row else row) else (if a then put_last n t row else row)) ≡ (if a || b then put_last n t row else row)
    twice true true row = put_again n t row
    twice true false row = refl
    twice false b row = refl

module _ (rows : List (List (ℕ × Touch))) (n : ℕ) (t : Touch) (i : ℕ) where
  put_one : ArePut rows (slice_set rows i (put_last n t (slice_index_or rows i []))) n t (i ∷ [])
  put_one = record { long = length-set rows i (put_last n t (slice_index_or rows i [])); each = λ s h. by_place s h (i == s) refl }
    where
      by_place : (s : ℕ) → s < length rows → (b : Bool) → (i == s) ≡ b → slice_index_or (slice_set rows i (put_last n t (slice_index_or rows i []))) s [] ≡ (if (i == s) || false then put_last n t (slice_index_or rows s []) else slice_index_or rows s [])
      by_place s h true e = ap (λ k. slice_index_or (slice_set rows k (put_last n t (slice_index_or rows k []))) s []) (eqb-true i s e) ∙ get_or-set_same rows s (put_last n t (slice_index_or rows s [])) [] h
          ∙ sym (ap (λ b. if b || false then put_last n t (slice_index_or rows s []) else slice_index_or rows s []) e)
      by_place s h false e = get_or-set_other rows i s (put_last n t (slice_index_or rows i [])) [] (is_other i s e) ∙ sym (ap (λ b. if b || false then put_last n t (slice_index_or rows s []) else slice_index_or rows s []) e)

  -- the entry is put where the row doesn't end with it yet
  pub put_new : is_last n t (slice_index_or rows i []) ≡ false → ArePut rows (slice_set rows i (slice_index_or rows i [] ++ (n, t) ∷ [])) n t (i ∷ [])
  put_new e = subst (λ row. ArePut rows (slice_set rows i row) n t (i ∷ [])) (ap (λ b. if b then slice_index_or rows i [] else (slice_index_or rows i [] ++ (n, t) ∷ [])) e) put_one

  pub put_there : is_last n t (slice_index_or rows i []) ≡ true → ArePut rows rows n t (i ∷ [])
  put_there e = subst (λ more. ArePut rows more n t (i ∷ [])) (ap (λ b. slice_set rows i (if b then slice_index_or rows i [] else (slice_index_or rows i [] ++ (n, t) ∷ []))) e ∙ set-get_or rows i []) put_one

  pub put_nowhere : length rows ≤ i → ArePut rows rows n t (i ∷ [])
  put_nowhere l = record { long = refl; each = λ s h. sym (ap (λ b. if b || false then put_last n t (slice_index_or rows s []) else slice_index_or rows s []) (differs i s (omega (arith, h)))) }
    where
      differs : (i s : ℕ) → s < i → (i == s) ≡ false
      differs i s h = grind (arith, nat_tests)

-- all touches of a token, way by way
pub put_in_all : (before looked marked after : List (List (ℕ × Touch))) (index : Index) (n : ℕ) (t : Token)
    → ArePut before looked n Look (found index Look t) → ArePut looked marked n Mark (found index Mark t) → ArePut marked after n Bend (found index Bend t) → IsPutInAll before after index n t
put_in_all before looked marked after index n t p q r = record {
  long = r.long ∙ q.long ∙ p.long;
  each = λ s h. r.each s (omega (arith, q.long, p.long)) ∙ ap (put_where n Bend (found index Bend t) s) (q.each s (omega (arith, p.long)) ∙ ap (put_where n Mark (found index Mark t) s) (p.each s h));
}
