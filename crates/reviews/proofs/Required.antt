-- What the requirement of any price and quantity of 32 bits comes to at most.
use Rattle.std.proofs.Common.{ℕ, ◌*◌, ◌≤◌, w32, Fits, arith}
use Rattle.std.proofs.lemmas.Nat.{mul-le}
use Rattle.terms.specs.Margins.{requirement}
use Rattle.terms.proofs.Divisions.{ceiling_at_most}

pub small : (p price q : ℕ) → p ≤ 100 → Fits w32 price → Fits w32 q → requirement p price q ≤ 184467440651196171
unfolding requirement
small p price q hp hx hq =
    ceiling_at_most (price * q * p) 10000 184467440651196171 (omega arith) (omega (arith, mul-le (price * q) p 18446744065119617025 100 (mul-le price q 4294967295 4294967295 (omega (arith, hx.fits)) (omega (arith, hq.fits))) hp))
