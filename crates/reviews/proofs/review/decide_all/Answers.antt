use Rattle.std.proofs.Common.{◌≡◌, ℕ, ◌+◌, ◌<◌, ◌≤◌, false, cond, eqb, length, get_or, set, pos, refl, ap, ◌∙◌, ⊎_elim, arith}
use Rattle.std.proofs.lemmas.List.{length-set}
use Rattle.std.proofs.lemmas.Bool.{cases_eq, eq-eqb, ne_eqb, cond-true, cond-false}
use Rattle.slots.specs.Items.{items}
use Rattle.slots.proofs.Places.{set_at}
use Rattle.lots.specs.declared.holding.Holding.{Holding}
use Rattle.lots.specs.Worth.{no_holding, holding_of}
use Rattle.accounts.specs.declared.state.AccountState.{AccountState}
use Rattle.accounts.specs.declared.standing.Decision.{Decision}
use Rattle.accounts.specs.Review.{reviewed}
use Rattle.accounts.specs.States.{state_of}
use Rattle.reviews.specs.Standings.{standing_by}
use Rattle.reviews.specs.Reviews.{decided}
use Rattle.reviews.proofs.review.decide_all.Goals as goal

-- what holds before a place, and at it, holds one further
further : {T : Type 0} (was then due : ℕ → T) (i : ℕ) (new : T) → ((k : ℕ) → then k ≡ cond (eqb i k) new (was k)) → ((k : ℕ) → k < i → was k ≡ due k) → new ≡ due i → (k : ℕ) → k < i + 1 → then k ≡ due k
further {T} was then due i new at before here k h =
    ⊎_elim
    (λ (s : i ≡ k). at k ∙ cond-true (eqb i k) new (was k) (eq-eqb i k s) ∙ here ∙ ap due s)
    (λ (p : i ≡ k → ⊥). at k ∙ cond-false (eqb i k) new (was k) (ne_eqb i k p) ∙ before k (omega (arith, h, p)))
    (cases_eq i k)

-- what holds from a place on holds past it
past : {T : Type 0} (was then due : ℕ → T) (i : ℕ) (new : T) → ((k : ℕ) → then k ≡ cond (eqb i k) new (was k)) → ((k : ℕ) → i ≤ k → was k ≡ due k) → (k : ℕ) → i + 1 ≤ k → then k ≡ due k
past {T} was then due i new at after k h =
    let p : i ≡ k → ⊥ = λ e. omega (arith, e, h) in
    at k ∙ cond-false (eqb i k) new (was k) (ne_eqb i k p) ∙ after k (omega (arith, h))

pub loop-a-init : goal.loop-a-init
loop-a-init g c = record { long = refl; put = λ k h. absurd (omega (arith, h)); rest = λ k h. refl; told = λ k h. absurd (omega (arith, h)) }

pub loop-a-preserved : goal.loop-a-preserved
loop-a-preserved g c =
    let i = c.loop-a.a in
    let inv = c.loop-a.invariant in
    let d = c.decide-d.result in
    let m = g.B.Book.meaning c.args.book.now in
    let v = c.args.valuation.now in
    let p = v.settings.margin_percent in
    let due : ℕ → Decision = decided m p v.spot v.mark.yen (items c.args.lots.now) (items c.args.orders.now) c.args.accounts.now in
    let by : Holding → ℕ → AccountState → Decision = λ (h : Holding) (n : ℕ) (x : AccountState). reviewed i x (standing_by (m.balance i) p v.spot i h n) in
    let below : i < 256 = c.loop-a-test.true in
    let ls = items c.args.lots.now in
    let mark = v.mark.yen in
    let h = get_or c.holdings-held.result i no_holding in
    let n = get_or c.margins-ordered.result i 0 in
    let st = state_of c.args.accounts.now i in
    let here : d ≡ due i =
    c.decide-d.ensures ∙ ap (λ (x : AccountState). by h n x) (inv.rest i (omega arith)) ∙ ap (λ (x : Holding). by x n st) (c.holdings-held.ensures.value i below)
    ∙ ap (λ (k : ℕ). by (holding_of i (pos mark) ls) k st) (c.margins-ordered.ensures.value i below) in
    let inside : i < length c.loop-a.void = omega (arith, inv.long, below) in
    record {
      long = simp length-set inv.long;
      put = further (state_of c.loop-a.accounts) (state_of c.set.new.self) (λ (k : ℕ). (due k).state) i d.state c.set.ensures inv.put (ap (λ (x : Decision). x.state) here);
      rest = past (state_of c.loop-a.accounts) (state_of c.set.new.self) (state_of c.args.accounts.now) i d.state c.set.ensures inv.rest;
      told = further (λ (k : ℕ). get_or c.loop-a.void k false) (λ (k : ℕ). get_or (set c.loop-a.void i d.void) k false) (λ (k : ℕ). (due k).void) i d.void (λ k. set_at c.loop-a.void i k d.void false inside) inv.told (ap (λ (x : Decision). x.void) here);
    }

pub returns : goal.returns
returns g c =
    let inv = c.loop-a.invariant in
    record {
      states = λ a h. inv.put a (omega (arith, h, c.loop-a-test.false));
      rest = λ a h. inv.rest a (omega (arith, h, c.loop-a.auto.a-end));
      voids = λ a h. inv.told a (omega (arith, h, c.loop-a-test.false));
    }
