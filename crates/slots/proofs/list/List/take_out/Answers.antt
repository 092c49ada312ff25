use Rattle.std.proofs.Common.{◌≡◌, ℕ, suc, ◌+◌, ◌-◌, ◌≤◌, min, List, length, take, drop, refl, ap, ◌∙◌, arith}
use Rattle.std.specs.List.{remove, copy_within}
use Rattle.std.proofs.lemmas.List.{length-drop, take-take, drop-take}
use Rattle.std.proofs.lemmas.List.Edits.{take-paste}
use Rattle.slots.specs.Items.{used}
use Rattle.slots.proofs.Items.{length_items}
use Rattle.slots.proofs.list.List.take_out.Goals as goal

-- what stood past place i of the first n has moved one place down
kept : {T : Type 0} (S : List T) (i k n : ℕ) → n ≡ suc i + k → n ≤ length S → take (i + k) (copy_within S (i + 1) n i) ≡ remove (take n S) i
kept S i k n all h =
    let a : i ≤ length S = omega arith in
    let b : n - (i + 1) ≡ k = omega arith in
    let d : i + 1 ≡ suc i = omega arith in
    let f : i ≤ suc i + k = omega arith in
    let room : k ≤ length (drop (suc i) S) = omega (arith, length-drop (suc i) S) in
    rw (b, d, all, take-paste S i (drop (suc i) S) k a room, take-take i (suc i + k) S f, drop-take (suc i) k S) refl

pub returns-clause-items : goal.returns-clause-items
returns-clause-items g c =
    let l = c.args.self.now in
    let S = l.slots.now in
    let i = c.args.i in
    let k = used l - suc i in
    let n = c.len-n.ensures ∙ length_items l in
    let all : used l ≡ suc i + k = omega (arith, length_items l, c.requires) in
    let h : used l ≤ length S = omega arith in
    let now = c.copy_within.ensures.after ∙ ap (λ (m : ℕ). copy_within S (i + 1) m i) n in
    let room = ap (min l.limit) c.copy_within.ensures.len in
    let fewer : min (c.len-n.result - 1) (min l.limit (length c.copy_within.new.self)) ≡ i + k = rw (room, n) (omega arith) in
    rw (fewer, now) (kept S i k (used l) all h)
