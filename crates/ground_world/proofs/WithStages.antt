-- Parts with their stages: two lists, item by item.
use Rattle.std.proofs.Common.{◌≡◌, refl, sym, ap, ap₂, ◌∙◌, ℕ, zero, suc, ◌+◌, ◌<◌, arith, List, [], ◌∷◌, ◌++◌, map, length, take, get_or}
use Rattle.ground_world.specs.declared.changes.Stage.{Stage}
use Rattle.ground_world.specs.declared.parts.CondPart.{CondPart}
use Rattle.ground_world.specs.Changes.{Staged}
use Rattle.ground_world.specs.Conditions.{Part}
use Rattle.ground_world.specs.Shown.{part_of, parts_of}
use Rattle.ground_world.specs.ShownParts.{with_stages}
use Rattle.ground_world.proofs.Steps.{taken}

zipped : List Part → List Stage → List (Staged Part)
zipped [] ss = []
zipped (p ∷ ps) [] = []
zipped (p ∷ ps) (s ∷ ss) = record { stage = s; part = p } ∷ zipped ps ss

zipped-shown : (ps : List CondPart) (ss : List Stage) → with_stages ps ss ≡ zipped (parts_of ps) ss
unfolding zipped
zipped-shown [] ss = refl
zipped-shown (p ∷ ps) [] = refl
zipped-shown (p ∷ ps) (s ∷ ss) = ap (λ (l : List (Staged Part)). record { stage = s; part = part_of p } ∷ l) (zipped-shown ps ss)

zipped-apart : (xs : List (Staged Part)) → zipped (map (λ x. x.part) xs) (map (λ x. x.stage) xs) ≡ xs
unfolding zipped
zipped-apart [] = refl
zipped-apart (x ∷ xs) = ap (λ (l : List (Staged Part)). x ∷ l) (zipped-apart xs)

pub with_stages-is : (xs : List (Staged Part)) (ps : List CondPart) (ss : List Stage)
    → parts_of ps ≡ map (λ x. x.part) xs → ss ≡ map (λ x. x.stage) xs → with_stages ps ss ≡ xs
with_stages-is xs ps ss h k = zipped-shown ps ss ∙ ap₂ zipped h k ∙ zipped-apart xs

pub with_stages-parts : (ps : List CondPart) (ss : List Stage) → length ss ≡ length ps → map (λ x. x.part) (with_stages ps ss) ≡ parts_of ps
with_stages-parts [] ss h = refl
with_stages-parts (p ∷ ps) [] h = absurd (omega arith)
with_stages-parts (p ∷ ps) (s ∷ ss) h = ap (λ (l : List Part). part_of p ∷ l) (with_stages-parts ps ss (omega arith))

length-with_stages : (ps : List CondPart) (ss : List Stage) → length ss ≡ length ps → length (with_stages ps ss) ≡ length ps
length-with_stages [] ss h = refl
length-with_stages (p ∷ ps) [] h = absurd (omega arith)
length-with_stages (p ∷ ps) (s ∷ ss) h = ap suc (length-with_stages ps ss (omega arith))

at-with_stages : (ps : List CondPart) (ss : List Stage) (i : ℕ) (p : CondPart) (s : Stage) (x : Staged Part) → i < length ps → length ss ≡ length ps
    → get_or (with_stages ps ss) i x ≡ record { stage = get_or ss i s; part = part_of (get_or ps i p) }
at-with_stages [] ss i p s x lt h = absurd (omega arith)
at-with_stages (q ∷ ps) [] i p s x lt h = absurd (omega arith)
at-with_stages (q ∷ ps) (t ∷ ss) zero p s x lt h = refl
at-with_stages (q ∷ ps) (t ∷ ss) (suc i) p s x lt h = at-with_stages ps ss i p s x (omega arith) (omega arith)

-- one part more
pub with_stages-taken : (ps : List CondPart) (ss : List Stage) (i : ℕ) (p : CondPart) (s : Stage) → i < length ps → length ss ≡ length ps → p ≡ get_or ps i p → s ≡ get_or ss i s
    → take (i + 1) (with_stages ps ss) ≡ take i (with_stages ps ss) ++ (record { stage = s; part = part_of p } ∷ [])
with_stages-taken ps ss i p s lt h e k =
    let same = length-with_stages ps ss h in
    taken (with_stages ps ss) i (record { stage = s; part = part_of p }) (omega arith)
    (ap₂ (λ (t : Stage) (q : CondPart). record { stage = t; part = part_of q }) k e ∙ sym (at-with_stages ps ss i p s (record { stage = s; part = part_of p }) lt h))
