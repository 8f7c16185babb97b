-- Private: the least of some places that were noted with unmet duties.
use Rattle.std.specs.Prelude.{ℕ, Bool, ◌&&◌, ◌||◌, ◌==◌, nat_lt, if◌then◌else◌, List, Option, Some, None, fold}

abbrev pub Place : Type 0
Place = ℕ × ℕ

-- a place, and whether a duty there is met
abbrev pub Note : Type 0
Note = Place × Bool

-- Places go by their first numbers, then by their second ones.
abbrev pub comes_before : Place → Place → Bool
comes_before p q = nat_lt p.0 q.0 || (p.0 == q.0 && nat_lt p.1 q.1)

abbrev pub lesser : Option Place → Place → Place
lesser None p = p
lesser (Some q) p = if comes_before p q then p else q

-- the least place so far, after one note more
abbrev pub noted : Option Place → Note → Option Place
noted o n = if n.1 then o else Some (lesser o n.0)

abbrev pub all_noted : Option Place → List Note → Option Place
all_noted o notes = fold noted o notes
