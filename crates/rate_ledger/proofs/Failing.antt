-- Calls that failed.
use Rattle.std.proofs.Common.{◌≡◌, sym, subst, Result, Ok, Err}
use Rattle.std.specs.Prelude.{OnErr}
use Rattle.std.specs.Result.{IsErr, IsErrAnd}
use Rattle.exact_lin.specs.declared.faults.FormFault.{FormFault}
use Rattle.exact_lin.specs.declared.faults.FormFault.TheVariants.{Wide, Memory}
use Rattle.rate_ledger.specs.Answers.{Fails, Gives}

-- where a part fails, so does the whole that needs it
pub fails_so : (Part Whole : Type 0) (e : FormFault) → (Whole → Part) → Fails e Part → Fails e Whole
fails_so Part Whole Wide needs n = λ w. n (needs w)
fails_so Part Whole Memory needs n = tt

-- a call that hands on why its part failed
pub hands_on : {A : Type 0} (Part Whole : Type 0) (Right : A → Type 0) (r : Result A FormFault) (e : FormFault) → IsErr r × IsErrAnd r (λ x. x ≡ e) → (Whole → Part) → Fails e Part → Gives r Whole Right
hands_on Part Whole Right (Ok x) e h needs n = absurd h.1
hands_on Part Whole Right (Err x) e h needs n = subst (λ y. Fails y Whole) (sym h.1) (fails_so Part Whole e needs n)

-- a last call that only memory can stop
pub gives_more : {A : Type 0} (r : Result A FormFault) (Defined : Type 0) (Right More : A → Type 0) → Defined → ((x : A) → Right x → More x) → Gives r (Unit {0}) Right → Gives r Defined More
gives_more (Ok x) Defined Right More d m g = (d, m x g.1)
gives_more (Err Wide) Defined Right More d m g = absurd (g tt)
gives_more (Err Memory) Defined Right More d m g = tt

-- what holds of what an Ok leaves and of what an Err leaves
pub either_way : {A X : Type 0} (P : X → Type 0) (r : Result A FormFault) (new ok err : X) → Gives r (Unit {0}) (λ x. new ≡ ok) → OnErr r (new ≡ err) → P ok → P err → P new
either_way P (Ok x) new ok err g e p q = subst P (sym g.1) p
either_way P (Err x) new ok err g e p q = subst P (sym e) q
