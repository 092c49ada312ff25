-- The words that a loop over `split_whitespace` has gathered.
use Rattle.std.proofs.Common.{◌≡◌, ℕ, ◌<◌, List, [], ◌∷◌, ◌++◌, length, sym, refl, ap, ◌∙◌, subst, Bor}
use Rattle.std.specs.Char.{is_whitespace, is_not_whitespace}
use Rattle.std.specs.Str.{NoCharPasses, EmptyOrStartsWithPassing}
use Rattle.workings.specs.Lines.{First, Words, texts}

-- what `split_whitespace` says of an item
pub first_of : (bs w rest : List ℕ) → (gap : List ℕ) × (bs ≡ gap ++ (w ++ rest)) × (0 < length w) × NoCharPasses is_not_whitespace gap × NoCharPasses is_whitespace w × ((more : List ℕ) × EmptyOrStartsWithPassing is_whitespace rest more) → First bs w rest
first_of bs w rest cut = record { gap = cut.0; cut = cut.1; some = cut.2; blank = cut.3; solid = cut.4; ends = cut.5 }

texts_push : (xs : List (Bor (List ℕ))) (x : Bor (List ℕ)) (ws : List (List ℕ)) → texts (xs ++ x ∷ []) ++ ws ≡ texts xs ++ x.now ∷ ws
texts_push [] x ws = refl
texts_push (y ∷ ys) x ws = ap (λ l. y.now ∷ l) (texts_push ys x ws)

-- xs are the words so far, before rest; x is one more
pub word_more : (text : List ℕ) (xs : List (Bor (List ℕ))) (x : Bor (List ℕ)) (ys : List (Bor (List ℕ))) {rest next : List ℕ} → ys ≡ xs ++ x ∷ [] → ((ws : List (List ℕ)) → Words rest ws → Words text (texts xs ++ ws)) → First rest x.now next → (ws : List (List ℕ)) → Words next ws → Words text (texts ys ++ ws)
word_more text xs x ys {rest} {next} e old first ws h = subst (Words text) (sym (ap (λ l. texts l ++ ws) e ∙ texts_push xs x ws)) (old (x.now ∷ ws) (next, first, h))
