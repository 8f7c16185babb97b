-- Private: the strongest link of two rows of touches, touch by touch.
use Rattle.std.specs.Prelude.{ℕ, ◌≡◌, ◌==◌, nat_le, true, if◌then◌else◌, List, [], ◌∷◌}
use Rattle.std.specs.List.{list_all}
use Rattle.task_types.specs.declared.orderings.Link.{Link}
use Rattle.task_types.specs.declared.orderings.Link.TheVariants.{Free, Weak, Apart}
use Rattle.task_types.specs.declared.tokens.Touch.{Touch}
use Rattle.task_types.specs.declared.tokens.Touch.TheVariants.{Look, Mark, Bend}

-- what two touches of one token ask
abbrev pub link_of_touches : Touch → Touch → Link
link_of_touches Look Look = Free
link_of_touches Look Mark = Apart
link_of_touches Look Bend = Weak
link_of_touches Mark Look = Apart
link_of_touches Mark Mark = Apart
link_of_touches Mark Bend = Weak
link_of_touches Bend Look = Weak
link_of_touches Bend Mark = Weak
link_of_touches Bend Bend = Weak

abbrev pub stronger : Link → Link → Link
stronger Apart Free = Apart
stronger Apart Weak = Apart
stronger Apart Apart = Apart
stronger Weak Free = Weak
stronger Weak Weak = Weak
stronger Weak Apart = Apart
stronger Free Free = Free
stronger Free Weak = Weak
stronger Free Apart = Apart

-- the strongest link of a touch of token n with the touches of a row
unfoldable pub link_with : ℕ → Touch → List (ℕ × Touch) → Link
link_with n t [] = Free
link_with n t (y ∷ ys) = stronger (if n == y.0 then link_of_touches t y.1 else Free) (link_with n t ys)

-- the strongest link of the touches of a row with those of another
unfoldable pub strongest_link : List (ℕ × Touch) → List (ℕ × Touch) → Link
strongest_link [] ys = Free
strongest_link (x ∷ xs) ys = stronger (link_with x.0 x.1 ys) (strongest_link xs ys)

-- The touches of a row are of token n or later ones.
abbrev pub AreFrom : ℕ → List (ℕ × Touch) → Type 0
AreFrom n xs = list_all (λ x. nat_le n x.0) xs ≡ true

-- The tokens of a row ascend.
unfoldable pub Ascend : List (ℕ × Touch) → Type 0
Ascend [] = Unit {0}
Ascend (x ∷ xs) = AreFrom x.0 xs × Ascend xs
