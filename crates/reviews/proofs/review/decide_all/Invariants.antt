use Rattle.std.proofs.Common.{◌≡◌, ℕ, ◌<◌, ◌≤◌, false, length, get_or}
use Rattle.slots.specs.Items.{items}
use Rattle.accounts.specs.States.{state_of}
use Rattle.reviews.specs.Reviews.{decided}
use Rattle.reviews.proofs.review.decide_all.Given as goal

abbrev pub invariant-loop-a : goal.invariant-loop-a
invariant-loop-a g l = record {
  long : length l.void ≡ 256;
  put : (k : ℕ) → k < l.a → state_of l.accounts k ≡ (decided (g.B.Book.meaning l.book) l.valuation.settings.margin_percent l.valuation.spot l.valuation.mark.yen (items l.lots) (items l.orders) l.initial.accounts k).state;
  rest : (k : ℕ) → l.a ≤ k → state_of l.accounts k ≡ state_of l.initial.accounts k;
  told : (k : ℕ) → k < l.a → get_or l.void k false ≡ (decided (g.B.Book.meaning l.book) l.valuation.settings.margin_percent l.valuation.spot l.valuation.mark.yen (items l.lots) (items l.orders) l.initial.accounts k).void;
}
