-- The way up from a type, step by step.
use Rattle.std.proofs.Common.{◌≡◌, ap, ℕ, zero, suc, ◌+◌, true, false, ◌||◌, List, [], None, Some, ◌∙◌, sym, arith}
use Rattle.std.specs.Str.{bytes_eq}
use Rattle.std.specs.Option.{option_map_or}
use Rattle.basics.proofs.Bools.{or_false}
use Rattle.pddl_names.specs.Declarations.{Text, Typed, among}
use Rattle.pddl_names.specs.Fitting.{above, chain}

module _ (types : List Typed) (u : Text) where
  pub chain-here : (n : ℕ) (t : Text) → bytes_eq u t ≡ true → among (chain types n t) u ≡ true
  unfolding chain
  chain-here zero t h = ap (λ b. b || false) h
  chain-here (suc n) t h = ap (λ b. b || among (option_map_or (chain types n) (above types t) []) u) h

  pub chain-last : (n : ℕ) (t : Text) → n ≡ 0 → among (chain types n t) u ≡ bytes_eq u t
  unfolding chain
  chain-last zero t e = or_false (bytes_eq u t)
  chain-last (suc n) t e = absurd (omega arith)

  pub chain-up : (n m : ℕ) (t s : Text) → n ≡ m + 1 → bytes_eq u t ≡ false → Some s ≡ above types t → among (chain types n t) u ≡ among (chain types m s) u
  unfolding chain
  chain-up zero m t s e h a = absurd (omega arith)
  chain-up (suc n) m t s e h a =
      ap (λ b. b || among (option_map_or (chain types n) (above types t) []) u) h
      ∙ ap (λ o. among (option_map_or (chain types n) o []) u) (sym a)
      ∙ ap (λ k. among (chain types k s) u) (omega arith)

  pub chain-top : (n m : ℕ) (t : Text) → n ≡ m + 1 → bytes_eq u t ≡ false → None ≡ above types t → among (chain types n t) u ≡ false
  unfolding chain
  chain-top zero m t e h a = absurd (omega arith)
  chain-top (suc n) m t e h a =
      ap (λ b. b || among (option_map_or (chain types n) (above types t) []) u) h
      ∙ ap (λ o. among (option_map_or (chain types n) o []) u) (sym a)
