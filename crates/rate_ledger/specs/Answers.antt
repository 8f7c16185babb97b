-- Believed: answers told by what is reckoned for them.
use Rattle.std.specs.Prelude.{◌≡◌, Result, Ok, Err}
use Rattle.exact_lin.specs.Forms.{LinearForm}
use Rattle.exact_lin.specs.declared.faults.FormFault.{FormFault}
use Rattle.exact_lin.specs.declared.faults.FormFault.TheVariants.{Wide, Memory}
use Rattle.rate_ledger.specs.Sums.{FormSum, form_of, CanMake}

-- A reckoning fails as Wide only where it is undefined; memory may be lacking at any time.
abbrev pub Fails : FormFault → Type 0 → Type 0
Fails Wide Defined = ¬ Defined
Fails Memory Defined = Unit {0}

-- The answer is Ok only where the reckoning is defined and it is right, and Wide only where it is undefined.
abbrev pub Gives : {A : Type 0} → Result A FormFault → Type 0 → (A → Type 0) → Type 0
Gives (Ok x) Defined Right = Defined × Right x
Gives (Err e) Defined Right = Fails e Defined

-- the form that comes out of a sum
abbrev pub Makes : Result LinearForm FormFault → FormSum → Type 0
Makes result sum = Gives result (CanMake sum) (λ form. form ≡ form_of sum)
