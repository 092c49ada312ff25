-- The units that an account holds on one side.
use Rattle.std.specs.Prelude.{◌≡◌, ℕ, ◌+◌, true, cond, ◌&&◌, List, [], ◌∷◌, ◌==◌}
use Rattle.terms.specs.declared.lot.Lot.{Lot}
use Rattle.terms.specs.declared.side.Side.{Side}
use Rattle.terms.specs.Codes.{same_side}
use Rattle.sums.specs.Sums.{units, AtMost}
use Rattle.lots.specs.Lots.{lawful_lots}

-- over account a's lots of side s; an opposite lot counts nought
unfoldable pub position_of : ℕ → Side → List Lot → ℕ
position_of a s [] = 0
position_of a s (l ∷ ls) = cond (l.account == a && same_side l.side s) l.quantity 0 + position_of a s ls

-- the same as the sum over any records that tell account, side and quantity
abbrev pub PositionsAreUnits : Type 0
PositionsAreUnits = (a : ℕ) (s : Side) (ls : List Lot) → units (λ (l : Lot). l.account) (λ l. l.side) (λ l. l.quantity) a s ls ≡ position_of a s ls

-- whatever the time at which lots are lawful
abbrev pub LawfulLotsAreSmall : Type 0
LawfulLotsAreSmall = (time : ℕ) (ls : List Lot) → lawful_lots time ls ≡ true → AtMost (λ (l : Lot). l.quantity) 50000 ls
