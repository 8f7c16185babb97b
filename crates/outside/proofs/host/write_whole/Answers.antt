use Rattle.std.proofs.Common.{◌≡◌, ℕ, ◌+◌, ◌≤◌, List, ◌++◌, length, take, drop, Option, rules, arith, sym, subst}
use Rattle.std.proofs.lemmas.List.{places, same_lists, take_rest, length-drop}
use Rattle.std.proofs.KnownBytes.{Appends-trans, Appends-kept}
use Rattle.std.specs.Io.KnownBytes.{Appends}
use Rattle.outside.proofs.host.write_whole.Goals as goal
use Rattle.outside.proofs.host.write_whole.Goals.{in-Ok, in-Err}

take_add : (a b : ℕ) (xs : List ℕ) → a ≤ length xs → take (a + b) xs ≡ take a xs ++ take b (drop a xs)
take_add a b xs within = same_lists _ _ (search (rules, places)) (λ k d h. grind (arith, places))

-- a writer that held the first `done` bytes and took `count` of the rest holds `done + count` of them
appended : (old middle new : Option (List ℕ)) (bytes : List ℕ) (done count : ℕ) → done ≤ length bytes
    → Appends old middle (take done bytes) → Appends middle new (take count (drop done bytes)) → Appends old new (take (done + count) bytes)
appended old middle new bytes done count within first second =
    subst (Appends old new) (sym (take_add done count bytes within)) (Appends-trans old middle new _ _ first second)

still_within : (bytes : List ℕ) (done count : ℕ) → done ≤ length bytes → count ≤ length (drop done bytes) → done + count ≤ length bytes
still_within bytes done count within more = omega (arith, length-drop done bytes)

pub loop-preserved : goal.loop-preserved
loop-preserved g c = elim c.match-write.branch [
  | in-Ok w ↦
      let took = rw (take_rest c.args.bytes.now c.loop.done) at w.in-Ok.ensures.bytes in
      rw w.done-is record {
        within = still_within c.args.bytes.now c.loop.done w.in-Ok.count c.loop.invariant.within (rw (take_rest c.args.bytes.now c.loop.done) at w.in-Ok.ensures.bound);
        held = appended _ _ _ c.args.bytes.now c.loop.done w.in-Ok.count c.loop.invariant.within c.loop.invariant.held took;
      }
  | in-Err w ↦
      rw w.done-is record {
        within = c.loop.invariant.within;
        held = Appends-kept _ _ _ _ c.loop.invariant.held w.in-Err.ensures.bytes;
      }
]
