-- A merge of terms on its way, one term of the other list after another.
use Rattle.std.proofs.Common.{◌≡◌, ℕ, ◌<◌, sym, ◌∙◌, ap, subst, refl, [], ◌∷◌, ◌++◌, Less, Equal, Greater, Ordering, Bool, true, false, if◌then◌else◌, arith, append_assoc}
use Rattle.std.proofs.lemmas.List.{append-nil}
use Rattle.basics.proofs.Lists.{each_append}
use Rattle.std.specs.Ordering.{nat_cmp, match_ordering, MatchOrdering}
use Rattle.std.specs.List.{AllByRecursion}
use Rattle.std.specs.Cmp.{nat_cmp_is, ranks}
use Rattle.rational.specs.Rational.{ℚ, ◌+ℚ◌, ◌*ℚ◌}
use Rattle.exact_lin.specs.Reckoning.{CanAdd, CanMultiply}
use Rattle.exact_lin.specs.Forms.{Terms, with_term, is_zero}
use Rattle.exact_lin.specs.Merges.{absorb, merged, CanAbsorb, CanMerge, StartsFrom, KeepsBelow, joined_coefficient, behind, CanJoin, MergesTerm}

-- a merge on its way: what is done and what is left give the whole
pub record Merging (limit : ℕ) (y : ℚ) (one other done left right : Terms) : Type 0 where
  pub terms : done ++ merged y right left ≡ merged y other one
  pub enough : CanMerge limit y right left → CanMerge limit y other one
  pub needed : CanMerge limit y other one → CanMerge limit y right left

with_term-front : (v : ℕ) (c : ℚ) (ts : Terms) → with_term v c ts ≡ with_term v c [] ++ ts
with_term-front v c ts = go (is_zero c)
  where
    go : (b : Bool) → (if b then ts else ((v, c) ∷ ts)) ≡ (if b then [] else ((v, c) ∷ [])) ++ ts
    go true = refl
    go false = refl

module _ (v : ℕ) (c : ℚ) (t : ℕ × ℚ) (ts : Terms) (next : Terms → Terms) where
  pub absorb-less : nat_cmp t.0 v ≡ Less → absorb v c next (t ∷ ts) ≡ t ∷ absorb v c next ts
  absorb-less e = ap (λ (o : Ordering). match_ordering o (t ∷ absorb v c next ts) (with_term v (t.1 +ℚ c) (next ts)) (with_term v c (next (t ∷ ts)))) e

  pub absorb-equal : nat_cmp t.0 v ≡ Equal → absorb v c next (t ∷ ts) ≡ with_term v (t.1 +ℚ c) (next ts)
  absorb-equal e = ap (λ (o : Ordering). match_ordering o (t ∷ absorb v c next ts) (with_term v (t.1 +ℚ c) (next ts)) (with_term v c (next (t ∷ ts)))) e

  pub absorb-greater : nat_cmp t.0 v ≡ Greater → absorb v c next (t ∷ ts) ≡ with_term v c (next (t ∷ ts))
  absorb-greater e = ap (λ (o : Ordering). match_ordering o (t ∷ absorb v c next ts) (with_term v (t.1 +ℚ c) (next ts)) (with_term v c (next (t ∷ ts)))) e

pub lt-less : (m n : ℕ) → m < n → nat_cmp m n ≡ Less
lt-less m n h = sym (nat_cmp_is m n Less h)

-- what an answer of the comparison says
pub ranks_at : (m n : ℕ) (o : Ordering) → nat_cmp m n ≡ o → MatchOrdering o (m < n) (m ≡ n) (n < m)
ranks_at m n o e = subst (λ (p : Ordering). MatchOrdering p (m < n) (m ≡ n) (n < m)) e (ranks m n)

-- ---- terms before the id

-- some terms before the id are kept, and the rest comes
pub record Keeping (v : ℕ) (terms before after rest : Terms) : Type 0 where
  pub kept : Terms
  pub split : terms ≡ kept ++ rest
  pub sum : after ≡ before ++ kept
  pub below : AllByRecursion (λ (t : ℕ × ℚ). t.0 < v) kept

pub Keeping-begin : (v : ℕ) (terms before : Terms) → Keeping v terms before before terms
Keeping-begin v terms before = record { kept = []; split = refl; sum = sym (append-nil before); below = tt }

pub Keeping-next : (v : ℕ) (terms before after rest more later : Terms) (t : ℕ × ℚ) → Keeping v terms before after rest → rest ≡ t ∷ later → t.0 < v → more ≡ after ++ t ∷ [] → Keeping v terms before more later
Keeping-next v terms before after rest more later t k e h m = record {
  kept = k.kept ++ t ∷ [];
  split = k.split ∙ ap (λ (us : Terms). k.kept ++ us) e ∙ sym (append_assoc k.kept (t ∷ []) later);
  sum = m ∙ ap (λ (us : Terms). us ++ t ∷ []) k.sum ∙ append_assoc before k.kept (t ∷ []);
  below = each_append (λ (t : ℕ × ℚ). t.0 < v) k.kept (t ∷ []) k.below (h, tt);
}

pub Keeping-end : (v : ℕ) (terms before after rest : Terms) → Keeping v terms before after rest → StartsFrom v rest → KeepsBelow v terms before after rest
Keeping-end v terms before after rest k s = record { kept = k.kept; split = k.split; sum = k.sum; below = k.below; starts = s }

absorb-kept : (v : ℕ) (c : ℚ) (next : Terms → Terms) (kept rest : Terms) → AllByRecursion (λ (t : ℕ × ℚ). t.0 < v) kept → absorb v c next (kept ++ rest) ≡ kept ++ absorb v c next rest
absorb-kept v c next [] rest b = refl
absorb-kept v c next (t ∷ ts) rest b = absorb-less v c t (ts ++ rest) next (lt-less t.0 v b.0) ∙ ap (λ (us : Terms). t ∷ us) (absorb-kept v c next ts rest b.1)

absorbs_out : (limit v : ℕ) (c : ℚ) (next : Terms → Type 0) (kept rest : Terms) → AllByRecursion (λ (t : ℕ × ℚ). t.0 < v) kept → CanAbsorb limit v c next (kept ++ rest) → CanAbsorb limit v c next rest
absorbs_out limit v c next [] rest b h = h
absorbs_out limit v c next (t ∷ ts) rest b h = absorbs_out limit v c next ts rest b.1
    (subst (λ (o : Ordering). MatchOrdering o (CanAbsorb limit v c next (ts ++ rest)) (CanAdd limit t.1 c × next (ts ++ rest)) (next (t ∷ ts ++ rest))) (lt-less t.0 v b.0) h)

absorbs_in : (limit v : ℕ) (c : ℚ) (next : Terms → Type 0) (kept rest : Terms) → AllByRecursion (λ (t : ℕ × ℚ). t.0 < v) kept → CanAbsorb limit v c next rest → CanAbsorb limit v c next (kept ++ rest)
absorbs_in limit v c next [] rest b h = h
absorbs_in limit v c next (t ∷ ts) rest b h =
    subst (λ (o : Ordering). MatchOrdering o (CanAbsorb limit v c next (ts ++ rest)) (CanAdd limit t.1 c × next (ts ++ rest)) (next (t ∷ ts ++ rest))) (sym (lt-less t.0 v b.0))
    (absorbs_in limit v c next ts rest b.1 h)

-- ---- the id's own term
absorb-start : (v : ℕ) (c : ℚ) (next : Terms → Terms) (rest : Terms) → StartsFrom v rest → absorb v c next rest ≡ with_term v (joined_coefficient v c rest) (next (behind v rest))
absorb-start v c next [] s = refl
absorb-start v c next (t ∷ ts) s = go (nat_cmp t.0 v) refl
  where
    go : (o : Ordering) → nat_cmp t.0 v ≡ o → match_ordering o (t ∷ absorb v c next ts) (with_term v (t.1 +ℚ c) (next ts)) (with_term v c (next (t ∷ ts))) ≡ with_term v (match_ordering o c (t.1 +ℚ c) c) (next (match_ordering o (t ∷ ts) ts (t ∷ ts)))
    go Less e = let below : t.0 < v = ranks_at t.0 v Less e in absurd (omega (arith, below, s))
    go Equal e = refl
    go Greater e = refl

starts_out : (limit v : ℕ) (c : ℚ) (next : Terms → Type 0) (rest : Terms) → StartsFrom v rest → CanAbsorb limit v c next rest → CanJoin limit v c rest × next (behind v rest)
starts_out limit v c next [] s h = (tt, h)
starts_out limit v c next (t ∷ ts) s h = go (nat_cmp t.0 v) refl h
  where
    go : (o : Ordering) → nat_cmp t.0 v ≡ o → MatchOrdering o (CanAbsorb limit v c next ts) (CanAdd limit t.1 c × next ts) (next (t ∷ ts)) → MatchOrdering o (Unit {0}) (CanAdd limit t.1 c) (Unit {0}) × next (match_ordering o (t ∷ ts) ts (t ∷ ts))
    go Less e h = let below : t.0 < v = ranks_at t.0 v Less e in absurd (omega (arith, below, s))
    go Equal e h = h
    go Greater e h = (tt, h)

starts_in : (limit v : ℕ) (c : ℚ) (next : Terms → Type 0) (rest : Terms) → StartsFrom v rest → CanJoin limit v c rest → next (behind v rest) → CanAbsorb limit v c next rest
starts_in limit v c next [] s j h = h
starts_in limit v c next (t ∷ ts) s j h = go (nat_cmp t.0 v) refl j h
  where
    go : (o : Ordering) → nat_cmp t.0 v ≡ o → MatchOrdering o (Unit {0}) (CanAdd limit t.1 c) (Unit {0}) → next (match_ordering o (t ∷ ts) ts (t ∷ ts)) → MatchOrdering o (CanAbsorb limit v c next ts) (CanAdd limit t.1 c × next ts) (next (t ∷ ts))
    go Less e j h = let below : t.0 < v = ranks_at t.0 v Less e in absurd (omega (arith, below, s))
    go Equal e j h = (j, h)
    go Greater e j h = h

-- ---- one more term
-- what the parts of the step did, put together
pub merges_term : (limit : ℕ) (y : ℚ) (left before kept_sum after rest later : Terms) (u : ℕ × ℚ) (product c : ℚ) → CanMultiply limit y u.1 → product ≡ y *ℚ u.1
    → KeepsBelow u.0 left before kept_sum rest → CanJoin limit u.0 product rest → c ≡ joined_coefficient u.0 product rest → later ≡ behind u.0 rest → after ≡ kept_sum ++ with_term u.0 c []
    → MergesTerm limit y left u before after later
merges_term limit y left before kept_sum after rest later u product c can is k j c-is later-is after-is = record {
  terms = λ us.
      ap (λ (ts : Terms). before ++ absorb u.0 (y *ℚ u.1) (merged y us) ts) k.split
      ∙ ap (λ (ts : Terms). before ++ ts) (absorb-kept u.0 (y *ℚ u.1) (merged y us) k.kept rest k.below)
      ∙ sym (append_assoc before k.kept (absorb u.0 (y *ℚ u.1) (merged y us) rest))
      ∙ ap (λ (ts : Terms). ts ++ absorb u.0 (y *ℚ u.1) (merged y us) rest) (sym k.sum)
      ∙ ap (λ (ts : Terms). kept_sum ++ ts) (ap (λ (q : ℚ). absorb u.0 q (merged y us) rest) (sym is) ∙ absorb-start u.0 product (merged y us) rest k.starts
      ∙ ap (λ (q : ℚ). with_term u.0 q (merged y us (behind u.0 rest))) (sym c-is) ∙ ap (λ (ts : Terms). with_term u.0 c (merged y us ts)) (sym later-is) ∙ with_term-front u.0 c (merged y us later))
      ∙ sym (append_assoc kept_sum (with_term u.0 c []) (merged y us later))
      ∙ ap (λ (ts : Terms). ts ++ merged y us later) (sym after-is);
  enough = λ us h. (
    can,
    subst (CanAbsorb limit u.0 (y *ℚ u.1) (CanMerge limit y us)) (sym k.split)
        (absorbs_in limit u.0 (y *ℚ u.1) (CanMerge limit y us) k.kept rest k.below
        (subst (λ (q : ℚ). CanAbsorb limit u.0 q (CanMerge limit y us) rest) is (starts_in limit u.0 product (CanMerge limit y us) rest k.starts j (subst (CanMerge limit y us) later-is h)))),
  );
  needed = λ us h. subst (CanMerge limit y us) (sym later-is) (starts_out limit u.0 product (CanMerge limit y us) rest k.starts
      (subst (λ (q : ℚ). CanAbsorb limit u.0 q (CanMerge limit y us) rest) (sym is)
      (absorbs_out limit u.0 (y *ℚ u.1) (CanMerge limit y us) k.kept rest k.below (subst (CanAbsorb limit u.0 (y *ℚ u.1) (CanMerge limit y us)) k.split h.1)))).1;
}

-- where the sum with the id's own term is not defined, the merge is not
pub wide_join : (limit : ℕ) (y : ℚ) (left before kept_sum rest us : Terms) (u : ℕ × ℚ) (product : ℚ) → product ≡ y *ℚ u.1 → KeepsBelow u.0 left before kept_sum rest
    → ¬ (CanJoin limit u.0 product rest) → ¬ (CanMerge limit y (u ∷ us) left)
wide_join limit y left before kept_sum rest us u product is k n h = n (starts_out limit u.0 product (CanMerge limit y us) rest k.starts
    (subst (λ (q : ℚ). CanAbsorb limit u.0 q (CanMerge limit y us) rest) (sym is)
    (absorbs_out limit u.0 (y *ℚ u.1) (CanMerge limit y us) k.kept rest k.below (subst (CanAbsorb limit u.0 (y *ℚ u.1) (CanMerge limit y us)) k.split h.1)))).0

-- the merge goes on with the next term
pub merging-next : (limit : ℕ) (y : ℚ) (one other done left right after later us : Terms) (u : ℕ × ℚ) → right ≡ u ∷ us → Merging limit y one other done left right → MergesTerm limit y left u done after later
    → Merging limit y one other after later us
merging-next limit y one other done left right after later us u e m n = record {
  terms = sym (n.terms us) ∙ ap (λ (rs : Terms). done ++ merged y rs left) (sym e) ∙ m.terms;
  enough = λ h. m.enough (subst (λ (rs : Terms). CanMerge limit y rs left) (sym e) (n.enough us h));
  needed = λ h. n.needed us (subst (λ (rs : Terms). CanMerge limit y rs left) e (m.needed h));
}
