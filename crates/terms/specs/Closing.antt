-- Closing lots, oldest first.
use Rattle.std.specs.Prelude.{ℕ, ◌-◌, min, cond, not, ◌&&◌, List, [], ◌∷◌, ◌++◌, ℤ, pos, ◌-ℤ◌, ◌*ℤ◌, neg_ℤ, ◌==◌, int_div, nat_lt}
use Rattle.terms.specs.declared.lot.Lot.{Lot}
use Rattle.terms.specs.declared.side.Side.{Side}
use Rattle.terms.specs.declared.side.Side.TheVariants.{Buy, Sell}
use Rattle.terms.specs.Codes.{same_side}

-- closing c of q units of a lot takes this share of its charge, truncated toward nought
unfoldable pub share : (charge : ℤ) (c q : ℕ) → ℤ
share f c q = int_div (f *ℤ pos c) (pos q)

-- z for a long lot, −z for a short one
abbrev pub sided : Side → ℤ → ℤ
sided Buy z = z
sided Sell z = neg_ℤ z

-- what the account gets in sen for c units, where it bears that share; below nought it pays
unfoldable pub settlement : Side → (opening closing c : ℕ) (share : ℤ) → ℤ
settlement s opening closing c share = sided s (pos c *ℤ (pos closing -ℤ pos opening)) -ℤ pos 100 *ℤ share

-- of a lot, how many units a trade of so many units by account a on side s closes: none but of the account's own opposite lots
abbrev pub closes : ℕ → Side → ℕ → Lot → ℕ
closes a s n l = cond (l.account == a && not (same_side s l.side)) (min n l.quantity) 0

-- a lot less c units, with the rest of its charge
abbrev pub reduced : ℕ → Lot → Lot
reduced c l = record { account = l.account; side = l.side; quantity = l.quantity - c; price = l.price; charge = l.charge -ℤ share l.charge c l.quantity }

-- what is left of it: nothing where all units are closed
abbrev pub remains : ℕ → Lot → List Lot
remains c l = cond (l.quantity == c) [] (reduced c l ∷ [])

abbrev pub settles : ℕ → ℕ → Lot → ℤ
settles price c l = settlement l.side l.price price c (share l.charge c l.quantity)

-- what a trade leaves: the lots, a settlement for each lot of which it closed a part, and the units that found none to close
pub record Closed : Type 0 where
  pub lots : List Lot
  pub settlements : List ℤ
  pub left : ℕ

abbrev pub behind : List Lot → List ℤ → Closed → Closed
behind ls zs x = record { lots = ls ++ x.lots; settlements = zs ++ x.settlements; left = x.left }

unfoldable pub closing : ℕ → Side → (price n : ℕ) → List Lot → Closed
closing a s price n [] = record { lots = []; settlements = []; left = n }
closing a s price n (l ∷ ls) =
    cond (nat_lt 0 (closes a s n l))
    (behind (remains (closes a s n l) l) (settles price (closes a s n l) l ∷ []) (closing a s price (n - closes a s n l) ls))
    (behind (l ∷ []) [] (closing a s price n ls))
