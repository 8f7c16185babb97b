-- One more variable: what is left of a list, and what a loop over the variables keeps.
use Rattle.std.proofs.Common.{◌≡◌, sym, ap, ◌∙◌, ℕ, ◌+◌, ◌*◌, ◌/◌, ◌%◌, ◌<◌, List, [], ◌∷◌, ◌++◌, length, take, get_or, subst, append_assoc}
use Rattle.std.specs.List.{flat_map}
use Rattle.std.proofs.lemmas.List.{map-append, take_more, append-nil}
use Rattle.std.proofs.lemmas.List.Concat.{flat_map-append}
use Rattle.ground_world.specs.World.{Env}
use Rattle.ground_world.specs.Bindings.{choice_count, choice_at, paired}
use Rattle.ground_world.specs.Shown.{env_of, names_of, columns_of}
use Rattle.ground_world.specs.declared.binding.Bound.{Bound}
use Rattle.ground_world.specs.declared.choosing.Variable.{Variable}
use Rattle.ground_world.proofs.Digits.{IsSplit, split}
use Rattle.basics.proofs.Lists.{drop_item}

-- one more item
pub taken : {X : Type 0} (xs : List X) (i : ℕ) (x : X) → i < length xs → x ≡ get_or xs i x → take (i + 1) xs ≡ take i xs ++ (x ∷ [])
taken xs i x h e = take_more xs i x h ∙ ap (λ y. take i xs ++ (y ∷ [])) (sym e)

-- one more part
pub parts_more : {X Y : Type 0} (f : X → List Y) (xs : List X) (i : ℕ) (x : X) → i < length xs → x ≡ get_or xs i x
    → flat_map f (take (i + 1) xs) ≡ flat_map f (take i xs) ++ f x
parts_more f xs i x h e =
    ap (flat_map f) (taken xs i x h e) ∙ flat_map-append f (take i xs) (x ∷ []) ∙ ap (λ l. flat_map f (take i xs) ++ l) (append-nil (f x))

-- what a loop over the variables keeps: how many ways the variables that are left have, which of these is meant, and that the binding so far, with that way, is the whole one
abbrev pub Comes : ℕ → ℕ → Env → List Variable → Env → Type 0
Comes ways at out left whole = (ways ≡ choice_count (columns_of left)) × (at < ways) × (out ++ paired (names_of left) (choice_at (columns_of left) at) ≡ whole)

pub one_digit : (ways at : ℕ) (v : Variable) (rest : List Variable) → ways ≡ length v.column.now * choice_count (columns_of rest) → at < ways → IsSplit (length v.column.now) (choice_count (columns_of rest)) at
one_digit ways at v rest e h = split (length v.column.now) (choice_count (columns_of rest)) at (subst (λ n. at < n) e h)

pub comes_on : (ways at : ℕ) (out : List Bound) (v : Variable) (rest : List Variable) (whole : Env) → Comes ways at (env_of out) (v ∷ rest) whole
    → let digit = ways / length v.column.now in (b : Bound) → b ≡ record { name = v.name; object = get_or v.column.now (at / digit) 0 } → Comes digit (at % digit) (env_of (out ++ (b ∷ []))) rest whole
comes_on ways at out v rest whole h b is =
    let s = one_digit ways at v rest h.0 h.1 in
    let e : ways / length v.column.now ≡ choice_count (columns_of rest) = ap (λ n. n / length v.column.now) h.0 ∙ s.without in
    let pairs : ℕ → Env = λ k. env_of out ++ ((v.name.now, get_or v.column.now (at / k) 0) ∷ paired (names_of rest) (choice_at (columns_of rest) (at % k))) in (
      e,
      subst (λ k. at % k < k) (sym e) s.rest,
      ap (λ (c : Bound). env_of (out ++ (c ∷ [])) ++ paired (names_of rest) (choice_at (columns_of rest) (at % (ways / length v.column.now)))) is
          ∙ ap (λ (l : Env). l ++ paired (names_of rest) (choice_at (columns_of rest) (at % (ways / length v.column.now)))) (map-append (λ c. (c.name.now, c.object)) out _)
          ∙ append_assoc (env_of out) _ _
          ∙ ap pairs e
          ∙ h.2,
    )
