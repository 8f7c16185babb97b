-- A table that is filled with the places of keys, from the last to the first.
use Rattle.std.proofs.Common.{◌≡◌, refl, sym, ap, ◌∙◌, ℕ, suc, ◌+◌, Bool, true, false, cond, ◌&&◌, List, [], ◌∷◌, ◌++◌, length, nat_eq, arith, append_assoc, length-append}
use Rattle.std.specs.Prelude.{Option, Some, None, map, position, if◌then◌else◌}
use Rattle.std.specs.Option.{option_map}
use Rattle.std.specs.Cmp.Lexicographic.{pointwise}
use Rattle.std.specs.HashMap.{HashMap, get}
use Rattle.std.specs.Map.{lookup}
use Rattle.std.proofs.lemmas.List.{append-nil}
use Rattle.std.specs.Cmp.Lexicographic.{nat_list_eq_equiv}
use Rattle.std.specs.declared.hash.FoldHasher.{FoldHasher}
use Rattle.std.specs.declared.hash.BuildHasherDefault.{BuildHasherDefault}
use Rattle.plan_files.specs.Entries.{Entry, Key, same_entry, entry_of}
use Rattle.plan_files.proofs.Positions.{position-cons, position-map}

abbrev pub Map : Type 0
Map = HashMap Key ℕ (BuildHasherDefault FoldHasher)

abbrev pub same_key : Key → Key → Bool
same_key x y = pointwise nat_eq x.0.items y.0.items && pointwise nat_eq x.1.items y.1.items

same_key-sym : (x y : Key) → same_key x y ≡ same_key y x
same_key-sym x y = ap (λ b. b && pointwise nat_eq x.1.items y.1.items) (nat_list_eq_equiv.symm x.0.items y.0.items)
    ∙ ap (λ b. pointwise nat_eq y.0.items x.0.items && b) (nat_list_eq_equiv.symm x.1.items y.1.items)

-- the table has the first places of all keys but the first ones, which are left
pub record Filled (all left : List Key) (m : Map) : Type 0 where
  pub rest : List Key
  pub split : all ≡ left ++ rest
  pub gets : (q : Key) → get same_key m q ≡ option_map (λ k. length left + k) (position (same_key q) rest)

pub filled-begin : (all : List Key) (m : Map) → m.entries ≡ [] → Filled all all m
filled-begin all m e = record {
  rest = [];
  split = sym (append-nil all);
  gets = λ q. ap (λ es. lookup (same_key q) es) e;
}

pub filled-next : (all left fewer : List Key) (x : Key) (m n : Map) → left ≡ fewer ++ x ∷ [] → Filled all left m
    → ((q : Key) → get same_key n q ≡ cond (same_key x q) (Some (length fewer)) (get same_key m q)) → Filled all fewer n
filled-next all left fewer x m n e f u = record {
  rest = x ∷ f.rest;
  split = f.split ∙ ap (λ l. l ++ f.rest) e ∙ append_assoc fewer (x ∷ []) f.rest;
  gets = λ q. u q ∙ ap (cond (same_key x q) (Some (length fewer))) (f.gets q)
      ∙ ap (λ b. cond b (Some (length fewer)) (option_map (λ k. length left + k) (position (same_key q) f.rest))) (same_key-sym x q)
      ∙ further (same_key q x) (position (same_key q) f.rest)
      ∙ ap (option_map (λ k. length fewer + k)) (sym (position-cons (same_key q) x f.rest));
}
  where
    one_more : length left ≡ length fewer + 1
    one_more = ap length e ∙ length-append fewer (x ∷ [])

    further : (b : Bool) (o : Option ℕ) → cond b (Some (length fewer)) (option_map (λ k. length left + k) o) ≡ option_map (λ k. length fewer + k) (if b then Some 0 else option_map suc o)
    further true o = ap Some (omega arith)
    further false None = refl
    further false (Some k) = ap Some (omega (arith, one_more))

pub filled-end : (all left : List Key) (m : Map) → left ≡ [] → Filled all left m → (q : Key) → get same_key m q ≡ position (same_entry (entry_of q)) (map {B = Entry} entry_of all)
filled-end all left m e f q = f.gets q ∙ ap (λ l. option_map (λ k. length l + k) (position (same_key q) f.rest)) e
    ∙ same (position (same_key q) f.rest)
    ∙ ap (λ l. position (same_key q) l) (sym (f.split ∙ ap (λ l. l ++ f.rest) e))
    ∙ sym (position-map entry_of (same_entry (entry_of q)) all)
  where
    same : (o : Option ℕ) → option_map (λ k. 0 + k) o ≡ o
    same None = refl
    same (Some k) = ap Some (omega arith)
