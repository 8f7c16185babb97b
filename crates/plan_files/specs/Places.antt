-- Private: what a table of places knows.
use Rattle.std.specs.Prelude.{◌≡◌, ◌&&◌, List, nat_eq, position}
use Rattle.std.specs.Cmp.Lexicographic.{pointwise}
use Rattle.std.specs.HashMap.{get}
use Rattle.plan_files.specs.declared.places.Places.{Places}
use Rattle.plan_files.specs.Entries.{Entry, Key, same_entry, entry_of}

-- It tells of each key where its entry stands first among these.
abbrev pub HasPlaces : Places → List Entry → Type 0
HasPlaces p es = (k : Key) → get (λ x y. pointwise nat_eq x.0.items y.0.items && pointwise nat_eq x.1.items y.1.items) p.places k ≡ position (same_entry (entry_of k)) es
