-- Private: what the rules look for in a row without its zeros.
use Rattle.std.specs.Prelude.{ℕ}
use Rattle.rational.specs.Rational.{ℚ, zeroℚ, ◌<ℚ◌}
use Rattle.exact_lin.specs.Forms.{Terms, coefficient}
use Rattle.lp_sparse.specs.declared.rules.Direction.{Direction}
use Rattle.lp_sparse.specs.declared.rules.Direction.TheVariants.{Down, Up}

-- the number differs from 0 that way
abbrev pub HasDirection : Direction → ℚ → Type 0
HasDirection Down q = q <ℚ zeroℚ
HasDirection Up q = zeroℚ <ℚ q

-- the number of the column does
abbrev pub Points : Direction → Terms → ℕ → Type 0
Points wanted terms j = HasDirection wanted (coefficient terms j)
