use Rattle.std.proofs.Common.{◌<◌, length, sym, ◌∙◌, arith, length-set}
use Rattle.std.proofs.lemmas.Fn.{says_at}
use Rattle.std.proofs.lemmas.List.Filters.{FiltersInPlace-all, FiltersInPlace-more_no, FiltersInPlace-more_set}
use Rattle.slots.specs.Items.{items}
use Rattle.slots.proofs.list.List.retain.Goals as goal
use Rattle.slots.proofs.list.List.retain.Goals.{then-keeps, else-keeps}

pub loop-i-preserved : goal.loop-i-preserved
loop-i-preserved g c =
    let v = c.loop-i.invariant in
    let h : c.loop-i.i < length (items c.loop-i.self) = omega (arith, c.len-i-end.ensures, v.3) in
    elim c.if-keeps.branch [
      | then-keeps w ↦
          rw (w.self-is, w.count-is, w.replace.ensures.items, w.replace.ensures.free, w.replace.ensures.capacity)
          (λ test told. FiltersInPlace-more_set (v.0 test told) h (sym (told _ _ (says_at g.F.Fn c.keeps.ensures w.if-keeps.true))) c.get-x.ensures, v.1, v.2, length-set _ _ _ ∙ v.3, omega (arith, v.4))
      | else-keeps w ↦
          rw (w.self-is, w.count-is)
          (λ test told. FiltersInPlace-more_no (v.0 test told) h (sym (told _ _ (says_at g.F.Fn c.keeps.ensures w.if-keeps.false))) c.get-x.ensures, v.1, v.2, v.3, omega (arith, v.4))
    ]

pub returns-clause-items : goal.returns-clause-items
returns-clause-items g c test told = c.truncate.ensures.items ∙ FiltersInPlace-all (c.loop-i.invariant.0 test told) (omega (arith, c.len-i-end.ensures, c.loop-i.invariant.3))
