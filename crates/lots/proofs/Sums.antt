-- What sums over lawful lots come to, and how large they can be.
use Rattle.std.proofs.Common.{◌≡◌, ℕ, ◌+◌, ◌*◌, ◌^◌, ◌<◌, ◌≤◌, Bool, true, false, cond, ◌&&◌, eqb, nat_le, List, [], ◌∷◌, ◌++◌, length, get_or, take, ℤ, pos, ◌+ℤ◌, ◌-ℤ◌, ◌*ℤ◌, nat_abs, refl, ap, ◌∙◌, arith}
use Rattle.std.specs.List.{FoldsTo}
use Rattle.std.proofs.lemmas.Int.{ints}
use Rattle.std.proofs.lemmas.List.{take_more}
use Rattle.std.proofs.lemmas.Bool.{and_parts}
use Rattle.std.proofs.lemmas.Bool.Decides.{nat_tests}
use Rattle.slots.specs.Every.{every}
use Rattle.terms.specs.declared.lot.Lot.{Lot}
use Rattle.terms.specs.declared.side.Side.{Side}
use Rattle.terms.specs.Codes.{same_side}
use Rattle.terms.specs.Closing.{sided}
use Rattle.terms.proofs.Signs.{nat_abs_add, nat_abs_sub, nat_abs_mul}
use Rattle.terms.proofs.Limits.{rise_small}
use Rattle.sums.specs.Sums.{of, units, AtMost}
use Rattle.sums.proofs.Sums.{AddsUp, sum_is, sum_small, every_if, units_at_most}
use Rattle.lots.specs.declared.holding.Holding.{Holding}
use Rattle.lots.specs.Lots.{lawful_lot, lawful_lots}
use Rattle.lots.specs.Worth.{worth, worth_of, worth_of_all, units_of, no_holding, holding_of, Plus}
use Rattle.lots.specs.Positions.{position_of}
use Rattle.lots.proofs.Lawful.{lawful, charge_small}

position_adds : (a : ℕ) (s : Side) → AddsUp (position_of a s) (λ l. eqb l.account a && same_side l.side s) (λ l. l.quantity)
unfolding position_of
position_adds a s = record { none = refl; more = λ l ls. refl }

units_adds : (a : ℕ) → AddsUp (units_of a) (λ l. eqb l.account a) (λ l. l.quantity)
unfolding units_of
units_adds a = record { none = refl; more = λ l ls. refl }

pub position_is : (a : ℕ) (s : Side) (ls : List Lot) → units (λ l. l.account) (λ l. l.side) (λ l. l.quantity) a s ls ≡ position_of a s ls
position_is a s = sum_is (position_adds a s)

-- at a time of a ledger
module _ (time : ℕ) where
  pub all_few : (ls : List Lot) → lawful_lots time ls ≡ true → AtMost (λ l. l.quantity) 50000 ls
  all_few = every_if (lawful_lot time) (λ (l : Lot). nat_le l.quantity 50000) (λ l h. let few = (lawful time l h).few in grind (arith, nat_tests, few))

  pub units_fit : (a : ℕ) (s : Side) (ls : List Lot) → lawful_lots time ls ≡ true → length ls ≤ 4096 → units (λ l. l.account) (λ l. l.side) (λ l. l.quantity) a s ls < 2 ^ 32
  units_fit a s ls h few = omega (arith, units_at_most (λ l. l.account) (λ l. l.side) (λ l. l.quantity) a s 50000 ls (all_few ls h))

  pub units_small : (a : ℕ) (ls : List Lot) → lawful_lots time ls ≡ true → units_of a ls ≤ 50000 * length ls
  units_small a = sum_small (units_adds a) (lawful_lot time) 50000 (λ l h. (lawful time l h).few)

  module _ (price : ℕ) (t : time ≤ 94694399) (p : price ≤ 100000000) where
    worth_small : (l : Lot) → lawful_lot time l ≡ true → nat_abs (worth (pos price) l) ≤ 76240000000000
    unfolding worth
    worth_small l h =
        let b = lawful time l h in
        let gain = sided l.side (pos l.quantity *ℤ (pos price -ℤ pos l.price)) in
        omega (arith, nat_abs_sub gain (pos 100 *ℤ l.charge), nat_abs_mul 100 l.charge, rise_small l.side l.quantity l.price price b.few b.priced.1 p, charge_small time l t b)

    pub worth_of_small : (a : ℕ) (ls : List Lot) → lawful_lots time ls ≡ true → nat_abs (worth_of a (pos price) ls) ≤ 76240000000000 * length ls
    unfolding worth_of every
    worth_of_small a [] s = omega arith
    worth_of_small a (l ∷ ls) s =
        let parts = and_parts (lawful_lot time l) (lawful_lots time ls) s in
        let part : (b : Bool) → nat_abs (cond b (worth (pos price) l) (pos 0)) ≤ 76240000000000 = elim [ true ↦ worth_small l parts.0 | false ↦ omega arith ] in
        omega (arith, nat_abs_add (cond (eqb l.account a) (worth (pos price) l) (pos 0)) (worth_of a (pos price) ls), part (eqb l.account a), worth_of_small a ls parts.1)

    pub all_small : (ls : List Lot) → lawful_lots time ls ≡ true → nat_abs (worth_of_all (pos price) ls) ≤ 76240000000000 * length ls
    unfolding worth_of_all every
    all_small [] s = omega arith
    all_small (l ∷ ls) s =
        let parts = and_parts (lawful_lot time l) (lawful_lots time ls) s in
        omega (arith, nat_abs_add (worth (pos price) l) (worth_of_all (pos price) ls), worth_small l parts.0, all_small ls parts.1)

all_push : (m : ℤ) (ls : List Lot) (l : Lot) → worth_of_all m (ls ++ l ∷ []) ≡ worth_of_all m ls +ℤ worth m l
unfolding worth_of_all
all_push m [] l = omega (arith, ints)
all_push m (x ∷ ls) l = let e = all_push m ls l in omega (arith, ints)

-- one lot more
pub all_more : (m : ℤ) (ls : List Lot) (i : ℕ) (d : Lot) → i < length ls → worth_of_all m (take (i + 1) ls) ≡ worth_of_all m (take i ls) +ℤ worth m (get_or ls i d)
all_more m ls i d h = ap (worth_of_all m) (take_more ls i d h) ∙ all_push m (take i ls) (get_or ls i d)

-- a lot more in a holding
abbrev pub Adds : ℤ → Holding → Lot → Holding → Type 0
Adds m h l k = Plus h (worth m l) l.quantity k

module _ (a : ℕ) (m : ℤ) where
  comes : (ls : List Lot) (h k : Holding) → FoldsTo (Adds m) h (of (λ l. l.account) a ls) k → Plus h (worth_of a m ls) (units_of a ls) k
  unfolding worth_of units_of
  comes [] h k e = rw e (record { worth_is = omega (arith, ints); units_is = omega arith })
  comes (l ∷ ls) h k e = one (eqb l.account a) e (λ x r. comes ls x k r)
    where
      rest : List Lot
      rest = of (λ l. l.account) a ls

      one : (b : Bool) → FoldsTo (Adds m) h (cond b (l ∷ rest) rest) k → ((x : Holding) → FoldsTo (Adds m) x rest k → Plus x (worth_of a m ls) (units_of a ls) k)
          → Plus h (cond b (worth m l) (pos 0) +ℤ worth_of a m ls) (cond b l.quantity 0 + units_of a ls) k
      one true (x, s, r) more = let q = more x r in record { worth_is = omega (arith, ints, q.worth_is, s.worth_is); units_is = omega (arith, q.units_is, s.units_is) }
      one false r more = let q = more h r in record { worth_is = omega (arith, ints, q.worth_is); units_is = omega (arith, q.units_is) }

  -- what the lots of account a come to, added one at a time
  pub holding_is : (ls : List Lot) (k : Holding) → FoldsTo (Adds m) no_holding (of (λ l. l.account) a ls) k → k ≡ holding_of a m ls
  holding_is ls k e =
      let p = comes ls no_holding k e in
      let w : k.worth ≡ worth_of a m ls = omega (arith, ints, p.worth_is) in
      let u : k.units ≡ units_of a ls = omega (arith, p.units_is) in
      rw (w, u)
