-- Words ask for one request at most.
use Rattle.std.proofs.Common.{◌≡◌, ℕ, List, Option, Some, None, sym, ap, ◌∙◌, subst}
use Rattle.std.specs.Prelude.{unwrap_or}
use Rattle.rational.specs.Rational.{ℚ}
use Rattle.plan_text.proofs.ReadingLemmas.{one_number}
use Rattle.command_words.specs.declared.requests.Limits.{Limits}
use Rattle.command_words.specs.Grammar.{Text, text_of}
use Rattle.command_words.specs.Values.{IsNumberGiven, IsCountGiven}
use Rattle.command_words.specs.Requests.{Asked, Validate, Schedule, FileNames, NamesFiles, SetsLimits, SetsValidate, SetsSchedule, Asks}
use Rattle.command_words.proofs.Asked.{one_name}

some_is_one : {A : Type 0} {x y : A} {o : Option A} → o ≡ Some x → o ≡ Some y → x ≡ y
some_is_one {A} {x} e f = ap (λ o. unwrap_or o x) (sym e ∙ f)

one_number_given : (usual top : ℚ) (text : Option (List ℕ)) (q r : ℚ) → IsNumberGiven usual top text q → IsNumberGiven usual top text r → q ≡ r
one_number_given usual top None q r a b = a ∙ sym b
one_number_given usual top (Some text) q r a b = one_number text q r a.spelled b.spelled

one_count_given : (usual least most : ℕ) (text : Option (List ℕ)) (n m : ℕ) → IsCountGiven usual least most text n → IsCountGiven usual least most text m → n ≡ m
one_count_given usual least most None n m a b = a ∙ sym b
one_count_given usual least most (Some text) n m a b = a.value ∙ sym b.value

one_set_of_names : (text : Text → Option Text) (third : Text) (f g : FileNames) → NamesFiles text third f → NamesFiles text third g → f ≡ g
one_set_of_names text third f g a b = λ i. record {
  domain = some_is_one a.domain b.domain i;
  problem = some_is_one a.problem b.problem i;
  third = some_is_one a.third_file b.third_file i;
}

one_pair_of_limits : (text : Text → Option Text) (l m : Limits) → SetsLimits text l → SetsLimits text m → l ≡ m
one_pair_of_limits text l m a b = λ i. record {
  epsilon = one_number_given _ _ _ l.epsilon m.epsilon a.epsilon b.epsilon i;
  horizon = one_number_given _ _ _ l.horizon m.horizon a.horizon b.horizon i;
}

pub one_request : (words : List Text) (r s : Asked) → Asks words r → Asks words s → r ≡ s
one_request words (Validate f l) (Validate g m) a b =
    let same : a.pairs ≡ b.pairs = some_is_one a.read b.read in
    let sets : SetsValidate (λ name. text_of name b.pairs) (Validate f l) = subst (λ p. SetsValidate (λ name. text_of name p) (Validate f l)) same a.sets in
    λ i. Validate (one_set_of_names _ _ f g sets.0 b.sets.0 i) (one_pair_of_limits _ l m sets.1 b.sets.1 i)
one_request words (Schedule f l p n) (Schedule g m q k) a b =
    let same : a.pairs ≡ b.pairs = some_is_one a.read b.read in
    let sets : SetsSchedule (λ name. text_of name b.pairs) (Schedule f l p n) = subst (λ t. SetsSchedule (λ name. text_of name t) (Schedule f l p n)) same a.sets in
    λ i. Schedule (one_set_of_names _ _ f g sets.0 b.sets.0 i) (one_pair_of_limits _ l m sets.1.0 b.sets.1.0 i)
    (one_count_given _ _ _ _ p q sets.1.1.pivot_limit b.sets.1.1.pivot_limit i) (one_count_given _ _ _ _ n k sets.1.1.leaf_limit b.sets.1.1.leaf_limit i)
one_request words (Validate f l) (Schedule g m q k) a b = absurd (one_name words a.named b.named)
one_request words (Schedule f l p n) (Validate g m) a b = absurd (one_name words b.named a.named)
