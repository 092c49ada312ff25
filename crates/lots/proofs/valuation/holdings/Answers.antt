use Rattle.std.proofs.Common.{◌≡◌, ℕ, ◌*◌, ◌<◌, ◌≤◌, true, length, get_or, take, pos, nat_abs, ap, arith, rules}
use Rattle.std.proofs.lemmas.List.{length-take-le}
use Rattle.slots.specs.Items.{items}
use Rattle.slots.proofs.Every.{every_read}
use Rattle.slots.proofs.Items.{items_fit}
use Rattle.sums.proofs.Sums.{folds_as, every_taken}
use Rattle.lots.specs.Worth.{no_holding, holding_of}
use Rattle.lots.specs.Lots.{lawful_lot}
use Rattle.lots.proofs.Sums.{Adds, holding_is, worth_of_small, units_small}
use Rattle.lots.proofs.valuation.holdings.Goals as goal

-- the lot that is read is lawful, and what those before it came to is small
pub by_account-requires : goal.by_account-requires
by_account-requires c = (
  omega arith,
  λ i l h k e f.
      let s = c.args.lots.now in
      let ls = items s in
      let m = c.args.price in
      let inside : i < length ls = rw (ap length c.as_slice.ensures) at k in
      let few = length-take-le i ls (omega (arith, inside)) in
      let before = every_taken (lawful_lot c.args.time) i ls c.requires.lots in
      let ok : lawful_lot c.args.time l ≡ true = every_read (lawful_lot c.args.time) ls i l c.requires.lots inside (rw c.as_slice.ensures at e) in
      let is : h ≡ holding_of l.account (pos m) (take i ls) = holding_is l.account (pos m) _ _ (folds_as _ (Adds (pos m)) (λ x l y s. search rules) _ _ _ (rw c.as_slice.ensures at f)) in
      let worth : nat_abs h.worth ≤ 76240000000000 * 4095 = rw is (omega (arith, worth_of_small c.args.time m c.requires.time c.requires.price l.account (take i ls) before, few, items_fit s, c.requires.few, inside)) in
      let units : h.units ≤ 50000 * 4095 = rw is (omega (arith, units_small c.args.time l.account (take i ls) before, few, items_fit s, c.requires.few, inside)) in
      search rules,
)

pub returns : goal.returns
returns c =
    let s = c.args.lots.now in
    let ls = items s in
    let m = c.args.price in
    let is : (a : ℕ) → a < 256 → get_or c.by_account.result a no_holding ≡ holding_of a (pos m) ls =
    λ a h. holding_is a (pos m) _ _ (folds_as _ (Adds (pos m)) (λ x l y s. search rules) _ _ _ (rw c.as_slice.ensures at c.by_account.ensures a h)) in
    record {
      value = is;
      bound = λ a h. rw (is a h) (omega (arith, worth_of_small c.args.time m c.requires.time c.requires.price a ls c.requires.lots, items_fit s, c.requires.few));
      few = λ a h. rw (is a h) (omega (arith, units_small c.args.time a ls c.requires.lots, items_fit s, c.requires.few));
    }
