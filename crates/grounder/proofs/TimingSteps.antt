-- What a timed literal comes to.
use Rattle.std.proofs.Common.{◌≡◌, sym, ap, ◌∙◌, ℕ, [], ◌∷◌, map}
use Rattle.pddl_terms.specs.declared.trees.Atom.{Atom}
use Rattle.pddl_terms.specs.declared.trees.Call.{Call}
use Rattle.pddl_terms.specs.declared.trees.Call.TheVariants as call
use Rattle.pddl_terms.specs.declared.files.TimedLiteral.{TimedLiteral}
use Rattle.pddl_terms.specs.declared.files.InitEntry.TheVariants as init
use Rattle.ground_world.specs.World.{World, GroundAtom, ground_atom}
use Rattle.ground_world.specs.Changes.{atoms_in}
use Rattle.grounder.specs.Task.{Timing, timing}

module _ (w : World) (l : TimedLiteral) where
  abbrev timed : GroundAtom → Timing
  timed a = record { moment = l.moment; holds = l.holds; atom = a }

  pub timing-Named : {a : Atom} {atom : GroundAtom} → l.atom ≡ call.Named a → atom ≡ ground_atom w [] a → timed atom ∷ [] ≡ timing w (init.Timed l)
  timing-Named {a} e is = ap (λ (x : GroundAtom). timed x ∷ []) is ∙ ap (λ (c : Call). map (λ (b : Atom). timed (ground_atom w [] b)) (atoms_in c)) (sym e)

  pub timing-LeftOut : {at : ℕ} → l.atom ≡ call.LeftOut at → [] ≡ timing w (init.Timed l)
  timing-LeftOut e = ap (λ (c : Call). map (λ (b : Atom). timed (ground_atom w [] b)) (atoms_in c)) (sym e)
