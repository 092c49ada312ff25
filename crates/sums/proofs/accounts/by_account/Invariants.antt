use Rattle.std.proofs.Common.{◌≡◌, ℕ, ◌<◌, ◌≤◌, length, get_or, take}
use Rattle.std.specs.List.{FoldsTo}
use Rattle.sums.specs.Sums.{of}
use Rattle.sums.proofs.accounts.by_account.Given as goal

abbrev pub invariant-loop-r : goal.invariant-loop-r
invariant-loop-r g l = record {
  in_range : l.r-index ≤ length l.records;
  accounts : length l.sums ≡ 256;
  folded : (a : ℕ) (d : _) → a < 256 → FoldsTo (λ v r w. goal.F-post g l.add v r w) l.fn.nought (of g.T.Sided.account a (take l.r-index l.records)) (get_or l.sums a d);
}
