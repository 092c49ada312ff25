-- What a transfer keeps of a book, and what it does to kept balances and to entries.
use Rattle.std.proofs.Common.{◌≡◌, ℕ, ◌+◌, ◌-◌, ◌*◌, ◌^◌, ◌<◌, ◌≤◌, true, List, [], ◌∷◌, ◌++◌, length, get_or, take, ℤ, pos, ◌+ℤ◌, ◌-ℤ◌, neg_ℤ, nat_abs, None, Ok, ap, ◌∙◌, arith, w64, to_z, of_z}
use mathlib.Core.Path.{fun_ext}
use Rattle.std.proofs.lemmas.List.{length-set, length_push, take_more}
use Rattle.std.proofs.lemmas.Int.{ints, to_z_pos}
use Rattle.std.proofs.lemmas.Bool.{and_parts}
use Rattle.std.proofs.lemmas.Bool.Decides.{nat_tests}
use Rattle.terms.specs.Refusals.{answer}
use Rattle.terms.proofs.Refused.{taken, unless_none}
use Rattle.terms.proofs.Signs.{negated, nat_abs_add}
use Rattle.slots.specs.Every.{every}
use Rattle.slots.proofs.Places.{set_at}
use Rattle.book.specs.declared.entry.Entry.{Entry}
use Rattle.book.specs.Meaning.{Meaning, Lawful, fresh, together, only, shift, entered, transfer_refusal, transferred}
use Rattle.book.specs.Balances.{added, kept}
use Rattle.book.specs.Entries.{Proper, proper_entry, proper, posted, journaled}
use Rattle.book.proofs.Sums.{shift_small, together_nil, together_add, together_shift}

-- a transfer that a book admits
pub record Admitted (left p q n : ℕ) : Type 0 where
  pub apart : p ≡ q → ⊥
  pub some : 1 ≤ n
  pub small : n ≤ 80000000000000
  pub room : 0 < left

pub admitted : (left p q n : ℕ) → answer (transfer_refusal left p q n) ≡ Ok tt → Admitted left p q n
admitted left p q n h =
    let e : transfer_refusal left p q n ≡ None = taken (transfer_refusal left p q n) h in
    record { apart = grind (arith, nat_tests); some = grind (arith, nat_tests); small = grind (arith, nat_tests); room = grind (arith, nat_tests) }

pub transferred_taken : (m : Meaning) (p q n : ℕ) → answer (transfer_refusal m.left p q n) ≡ Ok tt → transferred m p q n ≡ entered m p q n
transferred_taken m p q n h = unless_none (transfer_refusal m.left p q n) m (entered m p q n) (taken (transfer_refusal m.left p q n) h)

-- an entry keeps what is always true of a book
pub lawful_entered : (m : Meaning) (p q n : ℕ) → Lawful m → p < 256 → q < 256 → Admitted m.left p q n → Lawful (entered m p q n)
lawful_entered m p q n h hp hq a =
    let both = together_add 256 m.balance (shift p q n) in
    let none = together_shift 256 p q n hp hq in
    record {
      few = omega arith;
      even = omega (arith, ints);
      near = λ k l. omega (arith, h.near k l, nat_abs_add (m.balance k) (shift p q n k), shift_small p q n k a.apart);
    }

pub lawful_fresh : (n : ℕ) → n ≤ 65536 → Lawful (fresh n)
lawful_fresh n h = record { few = omega arith; even = together_nil 256; near = λ k l. omega arith }

-- a balance, after z was added to that of account a
pub added_at : (bs : List ℤ) (a k : ℕ) (z : ℤ) → a < length bs → get_or (added bs a z) k (pos 0) ≡ get_or bs k (pos 0) +ℤ only a z k
unfolding only
added_at bs a k z h = let e = set_at bs a k (get_or bs a (pos 0) +ℤ z) (pos 0) h in grind (arith, nat_tests, ints)

-- the payer's balance lowered, then the payee's raised: one entry more
module _ (bs : List ℤ) (p q n : ℕ) (hp : p < length bs) (hq : q < length bs) where
  pub paid_at : (k : ℕ) → get_or (added (added bs p (neg_ℤ (pos n))) q (pos n)) k (pos 0) ≡ get_or bs k (pos 0) +ℤ shift p q n k
  unfolding shift only
  paid_at k =
      let less = get_or bs p (pos 0) +ℤ neg_ℤ (pos n) in
      let low = added bs p (neg_ℤ (pos n)) in
      let one = set_at bs p k less (pos 0) hp in
      let two = set_at low q k (get_or low q (pos 0) +ℤ pos n) (pos 0) (rw (length-set bs p less) hq) in
      let old = set_at bs p q less (pos 0) hp in
      grind (arith, nat_tests, ints)

  -- what they mean is the meaning with one entry more
  pub paid_is : (made left : ℕ) → kept (added (added bs p (neg_ℤ (pos n))) q (pos n)) (made + 1) (left - 1) ≡ entered (kept bs made left) p q n
  paid_is made left = ap (λ (b : ℕ → ℤ). record { balance = b; made = made + 1; left = left - 1 }) (fun_ext paid_at)

  -- as the code casts and negates the amount
  pub paid_means : (bs₁ bs₂ : List ℤ) (made left : ℕ) → n < 2 ^ 63 → bs₁ ≡ added bs p (to_z w64 (of_z w64 (pos 0 -ℤ to_z w64 n))) → bs₂ ≡ added bs₁ q (to_z w64 n)
      → kept bs₂ (made + 1) (left - 1) ≡ entered (kept bs made left) p q n
  paid_means bs₁ bs₂ made left h e f = rw (f, e, negated w64 n h, to_z_pos w64 n h) (paid_is made left)

-- a lawful entry as a test, and back
pub proper_test : (e : Entry) → Proper e → proper_entry e ≡ true
proper_test e h =
    let p = h.payer in
    let q = h.payee in
    let a = h.apart in
    let b = h.some in
    let d = h.small in
    grind (arith, nat_tests)

pub proper_fact : (e : Entry) → proper_entry e ≡ true → Proper e
proper_fact e h = record { payer = grind (arith, nat_tests); payee = grind (arith, nat_tests); apart = grind (arith, nat_tests); some = grind (arith, nat_tests); small = grind (arith, nat_tests) }

-- one more entry at the end
pub posted_push : (es : List Entry) (e : Entry) (k : ℕ) → posted (es ++ e ∷ []) k ≡ posted es k +ℤ shift e.payer e.payee e.amount k
unfolding posted
posted_push [] e k = omega (arith, ints)
posted_push (x ∷ es) e k = let h = posted_push es e k in omega (arith, ints)

pub posted_more : (es : List Entry) (i : ℕ) (d : Entry) (k : ℕ) → i < length es
    → posted (take (i + 1) es) k ≡ posted (take i es) k +ℤ shift (get_or es i d).payer (get_or es i d).payee (get_or es i d).amount k
posted_more es i d k l = ap (λ (xs : List Entry). posted xs k) (take_more es i d l) ∙ posted_push (take i es) (get_or es i d) k

same_meaning : {f g : ℕ → ℤ} {a b m n : ℕ} → f ≡ g → a ≡ b → m ≡ n → ◌≡◌ {A = Meaning} (record { balance = f; made = a; left = m }) (record { balance = g; made = b; left = n })
same_meaning e h k = rw (e, h, k)

pub journaled_push : (es es' : List Entry) (room room' : ℕ) (e : Entry) → es' ≡ es ++ e ∷ [] → room' ≡ room → journaled es' room' ≡ entered (journaled es room) e.payer e.payee e.amount
journaled_push es es' room room' e h k =
    let n = length_push es e in
    let left : room - length (es ++ e ∷ []) ≡ room - length es - 1 = omega arith in
    rw (h, k) (same_meaning (fun_ext (posted_push es e)) n left)

-- what proper entries add up to
pub posted_near : (es : List Entry) (k : ℕ) → proper es ≡ true → nat_abs (posted es k) ≤ 80000000000000 * length es
unfolding every posted
posted_near [] k h = omega arith
posted_near (e ∷ es) k h =
    let parts = and_parts (proper_entry e) (proper es) h in
    let p = proper_fact e parts.0 in
    let rest = posted_near es k parts.1 in
    omega (arith, p.small, shift_small e.payer e.payee e.amount k p.apart, nat_abs_add (shift e.payer e.payee e.amount k) (posted es k))

pub posted_even : (es : List Entry) → proper es ≡ true → together 256 (posted es) ≡ pos 0
unfolding every posted
posted_even [] h = together_nil 256
posted_even (e ∷ es) h =
    let parts = and_parts (proper_entry e) (proper es) h in
    let p = proper_fact e parts.0 in
    let one = together_shift 256 e.payer e.payee e.amount p.payer p.payee in
    let rest = posted_even es parts.1 in
    let both = together_add 256 (shift e.payer e.payee e.amount) (posted es) in
    omega (arith, ints)

pub lawful_journaled : (es : List Entry) (room : ℕ) → proper es ≡ true → length es ≤ room → room ≤ 65536 → Lawful (journaled es room)
lawful_journaled es room h fit few = record { few = omega arith; even = posted_even es h; near = λ k l. posted_near es k h }
