-- What `work` shows of a working.
use Rattle.std.specs.Prelude.{ℕ, List, ℤ, codes}
use Rattle.terms.specs.Charges.{difference}
use Rattle.terms.specs.declared.side.Side.{Side}
use Rattle.terms.specs.declared.side.Side.TheVariants.{Buy, Sell}
use Rattle.workings.specs.declared.working.FundingWork.{FundingWork}

-- the funding difference in yen a BTC
abbrev pub difference_of : FundingWork → ℤ
difference_of w = difference w.divisor.value w.cap.value w.last.value w.spot.value

-- those that hold lots of a side, and those that hold lots of the other
abbrev pub holders_of : Side → List ℕ
holders_of Buy = codes "longs"
holders_of Sell = codes "shorts"

abbrev pub others_of : Side → List ℕ
others_of Buy = codes "shorts"
others_of Sell = codes "longs"
