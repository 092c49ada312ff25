-- Worked figures: each row is a definition applied, and its value. Each yen or sen below can be checked by hand.
use Rattle.std.specs.Prelude.{◌≡◌, ℕ, Bool, cond, List, [], ◌∷◌, ◌++◌, map, ℤ, pos, ◌-ℤ◌, neg_ℤ}
use Rattle.std.specs.List.{AllByRecursion}
use Rattle.terms.specs.declared.lot.Lot.{Lot}
use Rattle.terms.specs.declared.side.Side.TheVariants.{Buy, Sell}
use Rattle.terms.specs.Charges.{points, difference, paid, received}
use Rattle.terms.specs.Margins.{requirement, short_of, at_cut_level, shortfall}
use Rattle.terms.specs.Closing.{share, settlement, closing}

-- what the definitions give, and what it should be
pub record Figure : Type 0 where
  pub got : List ℤ
  pub told : List ℤ

infix 10 ◌is◌
abbrev pub ◌is◌ : List ℤ → List ℤ → Figure
◌is◌ got told = record { got = got; told = told }

-- one number, a number of either sign, a yes or no as 1 or 0
abbrev pub one : ℕ → List ℤ
one n = pos n ∷ []

abbrev pub minus : ℕ → ℤ
minus n = neg_ℤ (pos n)

abbrev pub truth : Bool → List ℤ
truth b = cond b (one 1) (one 0)

-- a charge taken apart
abbrev pub split : ℤ → ℕ → ℕ → List ℤ
split f c q = share f c q ∷ (f -ℤ share f c q) ∷ []

-- a long lot of account 3 without charge
abbrev pub long : ℕ → ℕ → Lot
long quantity price = record { account = 3; side = Buy; quantity = quantity; price = price; charge = pos 0 }

-- the settlements of a sale by account 3, then the units that stay of each lot
abbrev pub sale : (units price : ℕ) → List Lot → List ℤ
sale units price lots = (closing 3 Sell price units lots).settlements ++ map (λ (l : Lot). pos l.quantity) (closing 3 Sell price units lots).lots

abbrev pub figures : List Figure
figures =
    (one (requirement 50 10000001 1) is one 50001)
    ∷ (one (points 400 9999999 1) is one 39)
    ∷ ((difference 3 4000 10100000 10000000 ∷ []) is one 33333)
    ∷ (one (paid (pos 33333) 1) is one 334)
    ∷ (one (received (pos 33333) 1) is one 333)
    ∷ ((difference 3 4000 9900000 10000000 ∷ []) is (minus 33333 ∷ []))
    ∷ ((difference 3 4000 10200000 10000000 ∷ []) is one 40000)
    ∷ (split (pos 10) 1 3 is (pos 3 ∷ pos 7 ∷ []))
    ∷ (split (minus 10) 1 3 is (minus 3 ∷ minus 7 ∷ []))
    ∷ ((settlement Buy 10000000 10250000 100 (share (pos 4000) 100 100) ∷ []) is one 24600000)
    ∷ (sale 4 120 (long 2 100 ∷ long 3 110 ∷ []) is (pos 40 ∷ pos 20 ∷ pos 1 ∷ []))
    ∷ (truth (at_cut_level (pos 250000000) 5000000) is one 1)
    ∷ (truth (at_cut_level (pos 250000001) 5000000) is one 0)
    ∷ (truth (short_of (pos 499999999) 5000000) is one 1)
    ∷ (one (shortfall (pos 499999999) 5000000) is one 1)
    ∷ []

abbrev pub Stands : Figure → Type 0
Stands f = f.got ≡ f.told

abbrev pub FiguresStand : Type 0
FiguresStand = AllByRecursion Stands figures
