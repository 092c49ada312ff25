use Rattle.std.proofs.Common.{◌≡◌, ◌+◌, ◌^◌, ◌<◌, length, take, ℤ, pos, ◌+ℤ◌, nat_abs, sym, refl, ap, ◌∙◌, arith, w64, to_z, of_z}
use Rattle.std.proofs.lemmas.List.{take_all, length-take-le}
use Rattle.slots.specs.Items.{items}
use Rattle.slots.proofs.Every.{every_at}
use Rattle.slots.proofs.Items.{items_fit}
use Rattle.terms.proofs.Signs.{back, sfits_by}
use Rattle.sums.proofs.Sums.{every_taken}
use Rattle.lots.specs.Lots.{lawful_lot}
use Rattle.lots.specs.Worth.{worth_of_all}
use Rattle.lots.proofs.Sums.{all_more, all_small}
use Rattle.lots.proofs.valuation.worth_of_all.Goals as goal

pub loop-l-init : goal.loop-l-init
unfolding worth_of_all
loop-l-init c = record { in_range = omega arith; so_far = refl }

pub worth-sum-requires : goal.worth-sum-requires
worth-sum-requires c =
    let s = c.args.lots.now in
    record { time = c.requires.time; lot = rw c.as_slice-l-items.ensures (every_at (lawful_lot c.args.time) (items s) c.loop-l.l-index _ (rw (ap length c.as_slice-l-items.ensures) at c.loop-l-test.true) c.requires.lots) }

-- the sum with one lot more, as it is computed
next : (c : goal.After-worth-sum) → to_z w64 c.loop-l.sum-bits +ℤ to_z w64 (of_z w64 c.worth-sum.result) ≡ worth_of_all (pos c.args.price) (take (c.loop-l.l-index + 1) (items c.args.lots.now))
next c =
    let ls = items c.args.lots.now in
    let m = pos c.args.price in
    let h : c.loop-l.l-index < length ls = rw (ap length c.as_slice-l-items.ensures) at c.loop-l-test.true in
    let z = back w64 c.worth-sum.result (omega (arith, c.worth-sum.ensures.bound)) ∙ (rw c.as_slice-l-items.ensures at c.worth-sum.ensures.value) in
    rw (c.loop-l.invariant.so_far, z) (sym (all_more m ls c.loop-l.l-index _ h))

next_small : (c : goal.After-worth-sum) → nat_abs (worth_of_all (pos c.args.price) (take (c.loop-l.l-index + 1) (items c.args.lots.now))) < 2 ^ 63
next_small c =
    let s = c.args.lots.now in
    let ls = items s in
    let i = c.loop-l.l-index in
    let h : i < length ls = rw (ap length c.as_slice-l-items.ensures) at c.loop-l-test.true in
    omega (arith, all_small c.args.time c.args.price c.requires.time c.requires.price (take (i + 1) ls) (every_taken (lawful_lot c.args.time) (i + 1) ls c.requires.lots), length-take-le (i + 1) ls (omega (arith, h)), items_fit s, c.requires.few)

pub overflow_add-sum : goal.overflow_add-sum
overflow_add-sum c = rw (next c) (sfits_by w64 _ (next_small c))

pub loop-l-preserved : goal.loop-l-preserved
loop-l-preserved c = record {
  in_range = omega (arith, ap length c.as_slice-l-items.ensures);
  so_far = ap (λ (z : ℤ). to_z w64 (of_z w64 z)) (next c) ∙ back w64 _ (next_small c);
}

pub returns : goal.returns
returns c =
    let s = c.args.lots.now in
    let is = c.loop-l.invariant.so_far ∙ ap (worth_of_all (pos c.args.price)) (take_all c.loop-l.l-index (items s) (rw (ap length c.as_slice-l-items.ensures) at c.loop-l-test.false)) in
    record { value = is; bound = rw is (omega (arith, all_small c.args.time c.args.price c.requires.time c.requires.price (items s) c.requires.lots, items_fit s, c.requires.few)) }
