-- What is asked of the states of a trace, but for times, doesn't depend on how long it lingers in a state.
use Rattle.std.proofs.Common.{◌≡◌, refl, sym, ap, ap₂, subst, ◌∙◌, ℕ, zero, suc, Bool, true, false, ◌&&◌, ◌||◌, List, [], ◌∷◌, inl, inr}
use Rattle.std.specs.Prelude.{not, ◌⊎◌, if◌then◌else◌}
use Rattle.std.specs.List.{list_all, list_any}
use Rattle.task_types.specs.declared.constraints.TrailKind.{TrailKind}
use Rattle.task_types.specs.declared.constraints.TrailKind.TheVariants.{Always, Sometime, Within, AtMostOnce, SometimeAfter, SometimeBefore, AtEnd}
use Rattle.task_types.specs.Tests.{◌⇒◌}
use Rattle.task_types.specs.Laws.{none_later, run_ends, one_run, are_answered, are_prepared, ends_with, kept_along}
use Rattle.ordered_course.specs.Walks.{steady, Walks}

module _ {M : Type 0} (a b : M → Bool) where
  -- two lists of states tell the same, in each way in which they are asked
  pub record SameStory (xs ys : List M) : Type 0 where
    pub every : list_all a xs ≡ list_all a ys
    pub some : list_any a xs ≡ list_any a ys
    pub answer : list_any b xs ≡ list_any b ys
    pub nothing_later : none_later a xs ≡ none_later a ys
    pub ending : run_ends a xs ≡ run_ends a ys
    pub once : one_run a xs ≡ one_run a ys
    pub answered : are_answered a b xs ≡ are_answered a b ys
    pub prepared : (seen : Bool) → are_prepared seen a b xs ≡ are_prepared seen a b ys

  story-refl : (xs : List M) → SameStory xs xs
  story-refl xs = record { every = refl; some = refl; answer = refl; nothing_later = refl; ending = refl; once = refl; answered = refl; prepared = λ seen. refl }

  story-trans : (xs ys zs : List M) → SameStory xs ys → SameStory ys zs → SameStory xs zs
  story-trans xs ys zs h k = record { every = h.every ∙ k.every; some = h.some ∙ k.some; answer = h.answer ∙ k.answer; nothing_later = h.nothing_later ∙ k.nothing_later; ending = h.ending ∙ k.ending; once = h.once ∙ k.once; answered = h.answered ∙ k.answered; prepared = λ seen. h.prepared seen ∙ k.prepared seen }

  under : (x : M) (xs ys : List M) → SameStory xs ys → SameStory (x ∷ xs) (x ∷ ys)
  under x xs ys h = record {
    every = ap (λ c. a x && c) h.every;
    some = ap (λ c. a x || c) h.some;
    answer = ap (λ c. b x || c) h.answer;
    nothing_later = ap (λ c. not (a x) && c) h.nothing_later;
    ending = ap₂ (λ c d. if a x then c else d) h.ending h.nothing_later;
    once = ap₂ (λ c d. if a x then c else d) h.ending h.once;
    answered = ap₂ (λ c d. (a x ⇒ (b x || c)) && d) h.answer h.answered;
    prepared = λ seen. ap (λ c. (a x ⇒ seen) && c) (h.prepared (seen || b x));
  }

  twice_and : (c d : Bool) → (c && (c && d)) ≡ (c && d)
  twice_and true d = refl
  twice_and false d = refl

  twice_or : (c d : Bool) → (c || (c || d)) ≡ (c || d)
  twice_or true d = refl
  twice_or false d = refl

  twice_ends : (c e n : Bool) → (if c then (if c then e else n) else (not c && n)) ≡ (if c then e else n)
  twice_ends true e n = refl
  twice_ends false e n = refl

  twice_run : (c e n o : Bool) → (if c then (if c then e else n) else (if c then e else o)) ≡ (if c then e else o)
  twice_run true e n o = refl
  twice_run false e n o = refl

  twice_answered : (c d r w : Bool) → ((c ⇒ (d || (d || r))) && ((c ⇒ (d || r)) && w)) ≡ ((c ⇒ (d || r)) && w)
  twice_answered true true r w = refl
  twice_answered true false true w = refl
  twice_answered true false false w = refl
  twice_answered false d r w = refl

  twice_prepared : (c d s : Bool) (w : Bool → Bool) → ((c ⇒ s) && ((c ⇒ (s || d)) && w ((s || d) || d))) ≡ ((c ⇒ s) && w (s || d))
  twice_prepared true d false w = refl
  twice_prepared true true true w = refl
  twice_prepared true false true w = refl
  twice_prepared false true true w = refl
  twice_prepared false false true w = refl
  twice_prepared false true false w = refl
  twice_prepared false false false w = refl

  lingering : (x : M) (xs : List M) → SameStory (x ∷ x ∷ xs) (x ∷ xs)
  lingering x xs = record {
    every = twice_and (a x) (list_all a xs);
    some = twice_or (a x) (list_any a xs);
    answer = twice_or (b x) (list_any b xs);
    nothing_later = twice_and (not (a x)) (none_later a xs);
    ending = twice_ends (a x) (run_ends a xs) (none_later a xs);
    once = twice_run (a x) (run_ends a xs) (none_later a xs) (one_run a xs);
    answered = twice_answered (a x) (b x) (list_any b xs) (are_answered a b xs);
    prepared = λ seen. twice_prepared (a x) (b x) seen (λ s. are_prepared s a b xs);
  }

-- ---- walks

module _ (a b : ℕ → Bool) where
  -- the states before the steady ones, and the same end
  pub record Told (n i : ℕ) (ks : List ℕ) : Type 0 where
    pub story : SameStory a b ks (steady n i)
    pub end : ends_with a ks ≡ ends_with a (steady n i)

  head_is : (n i : ℕ) → Told n i (steady n i)
  head_is n i = record { story = story-refl a b (steady n i); end = refl }

  steady_first : (n i : ℕ) → SameStory a b (i ∷ steady n i) (steady n i)
  steady_first zero i = lingering a b i []
  steady_first (suc n) i = lingering a b i (steady n (suc i))

  end_first : (n i k : ℕ) → ends_with a (k ∷ steady n i) ≡ ends_with a (steady n i)
  end_first zero i k = refl
  end_first (suc n) i k = refl

  pub told : (ks : List ℕ) (n i : ℕ) → Walks n i ks → Told n i ks
  told [] n i h = absurd h
  told (k ∷ []) n i h = subst (λ m. Told m i (k ∷ [])) (sym h.1) (subst (λ j. Told 0 i (j ∷ [])) (sym h.0) (head_is 0 i))
  told (k ∷ l ∷ ls) n i h = go h.1 (λ g. told (l ∷ ls) n i g) (λ m g. told (l ∷ ls) m (suc i) g)
    where
      go : Walks n i (l ∷ ls) ⊎ ((m : ℕ) × ((n ≡ suc m) × Walks m (suc i) (l ∷ ls))) → (Walks n i (l ∷ ls) → Told n i (l ∷ ls)) → ((m : ℕ) → Walks m (suc i) (l ∷ ls) → Told m (suc i) (l ∷ ls)) → Told n i (k ∷ l ∷ ls)
      go (inl g) r s = let t = r g in record {
        story = subst (λ j. SameStory a b (j ∷ l ∷ ls) (steady n i)) (sym h.0) (story-trans a b (i ∷ l ∷ ls) (i ∷ steady n i) (steady n i) (under a b i (l ∷ ls) (steady n i) t.story) (steady_first n i));
        end = t.end;
      }
      go (inr g) r s = let t = s g.0 g.1.1 in subst (λ n. Told n i (k ∷ l ∷ ls)) (sym g.1.0) record {
        story = subst (λ j. SameStory a b (j ∷ l ∷ ls) (i ∷ steady g.0 (suc i))) (sym h.0) (under a b i (l ∷ ls) (steady g.0 (suc i)) t.story);
        end = t.end ∙ sym (end_first g.0 (suc i) i);
      }

  -- Two walks through the same changes keep the same constraints, but for `within`.
  pub walks_alike : (kind : TrailKind) (soon late : ℕ → Bool) (ks ls : List ℕ) (n i : ℕ) → (kind ≡ Within → ⊥) → Walks n i ks → Walks n i ls → kept_along kind a b soon ks ≡ kept_along kind a b late ls
  walks_alike Always soon late ks ls n i w h k = (told ks n i h).story.every ∙ sym (told ls n i k).story.every
  walks_alike Sometime soon late ks ls n i w h k = (told ks n i h).story.some ∙ sym (told ls n i k).story.some
  walks_alike Within soon late ks ls n i w h k = absurd (w refl)
  walks_alike AtMostOnce soon late ks ls n i w h k = (told ks n i h).story.once ∙ sym (told ls n i k).story.once
  walks_alike SometimeAfter soon late ks ls n i w h k = (told ks n i h).story.answered ∙ sym (told ls n i k).story.answered
  walks_alike SometimeBefore soon late ks ls n i w h k = (told ks n i h).story.prepared false ∙ sym ((told ls n i k).story.prepared false)
  walks_alike AtEnd soon late ks ls n i w h k = (told ks n i h).end ∙ sym (told ls n i k).end
