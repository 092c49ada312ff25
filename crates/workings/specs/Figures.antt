-- The name of each number that `work` takes, and its range.
use Rattle.std.specs.Prelude.{ℕ, List, codes, Result}
use Rattle.workings.specs.declared.between.RangeFault.{RangeFault}
use Rattle.workings.specs.declared.figure.Figure.{Figure}
use Rattle.workings.specs.declared.figure.Figure.TheVariants.{Spot, Last, Price, Quantity, Rate, Divisor, Cap, Percent, Charge, Closed, Held}
use Rattle.workings.specs.Between.{between_read}

abbrev pub figure_name : Figure → List ℕ
figure_name Spot = codes "SPOT"
figure_name Last = codes "LAST"
figure_name Price = codes "PRICE"
figure_name Quantity = codes "QTY"
figure_name Rate = codes "R"
figure_name Divisor = codes "G"
figure_name Cap = codes "K"
figure_name Percent = codes "P"
figure_name Charge = codes "CHARGE"
figure_name Closed = codes "C"
figure_name Held = codes "Q"

-- of a charge, on either side of nought; of closed units, whatever the lot holds
abbrev pub figure_min : Figure → ℕ
figure_min Spot = 1
figure_min Last = 1
figure_min Price = 1
figure_min Quantity = 1
figure_min Rate = 0
figure_min Divisor = 1
figure_min Cap = 0
figure_min Percent = 50
figure_min Charge = 0
figure_min Closed = 0
figure_min Held = 1

abbrev pub figure_max : Figure → ℕ
figure_max Spot = 100000000
figure_max Last = 100000000
figure_max Price = 100000000
figure_max Quantity = 50000
figure_max Rate = 1000
figure_max Divisor = 100
figure_max Cap = 4000
figure_max Percent = 100
figure_max Charge = 712400000000
figure_max Closed = 50000
figure_max Held = 50000

abbrev pub figure_read : Figure → List ℕ → Result ℕ RangeFault
figure_read f text = between_read (figure_min f) (figure_max f) text
