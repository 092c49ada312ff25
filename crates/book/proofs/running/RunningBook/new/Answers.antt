use Rattle.std.proofs.Common.{◌≡◌, ℕ, zero, suc, get_or, replicate, ℤ, pos, refl, ap, ◌∙◌, arith}
use mathlib.Core.Path.{fun_ext}
use Rattle.book.specs.Meaning.{fresh, together}
use Rattle.book.proofs.Sums.{together_nil}
use Rattle.book.proofs.running.RunningBook.new.Goals as goal

blank_at : (n k : ℕ) → get_or (replicate n (pos 0)) k (pos 0) ≡ pos 0
blank_at zero k = refl
blank_at (suc n) zero = refl
blank_at (suc n) (suc k) = blank_at n k

pub invariant_of-result : goal.invariant_of-result
invariant_of-result c = record {
  few = omega (arith, c.min.ensures);
  even = ap (together 256) (fun_ext (blank_at 256)) ∙ together_nil 256;
  near = λ k l. rw (blank_at 256 k) (omega arith);
}

pub returns : goal.returns
returns c = ap (λ (f : ℕ → ℤ). record { balance = f; made = 0; left = c.min.result }) (fun_ext (blank_at 256)) ∙ ap fresh c.min.ensures
