-- A table of figures stands where one test over the whole of it, which computes, says so.
use Rattle.std.proofs.Common.{◌≡◌, Bool, true, false, ◌&&◌, T, eqb, List, [], ◌∷◌, ℤ, pos, negsuc, refl, ap, eqb→eq}
use Rattle.std.specs.List.{AllByRecursion}
use Rattle.terms.specs.Rounding.{ceiling}
use Rattle.terms.specs.Charges.{points, difference, paid, received}
use Rattle.terms.specs.Margins.{requirement, shortfall}
use Rattle.terms.specs.Closing.{share, settlement, closing}
use Rattle.terms.specs.Figures.{Figure, figures, Stands, FiguresStand}

abbrev same : ℤ → ℤ → Bool
same (pos m) (pos n) = eqb m n
same (pos m) (negsuc n) = false
same (negsuc m) (pos n) = false
same (negsuc m) (negsuc n) = eqb m n

abbrev all_same : List ℤ → List ℤ → Bool
all_same [] [] = true
all_same [] (y ∷ ys) = false
all_same (x ∷ xs) [] = false
all_same (x ∷ xs) (y ∷ ys) = same x y && all_same xs ys

abbrev agree : List Figure → Bool
agree [] = true
agree (f ∷ fs) = all_same f.got f.told && agree fs

both : (a b : Bool) → T (a && b) → T a × T b
both true b t = (tt, t)
both false b t = absurd t

same_is : (x y : ℤ) → T (same x y) → x ≡ y
same_is (pos m) (pos n) t = ap pos (eqb→eq m n t)
same_is (pos m) (negsuc n) t = absurd t
same_is (negsuc m) (pos n) t = absurd t
same_is (negsuc m) (negsuc n) t = ap negsuc (eqb→eq m n t)

all_same_is : (xs ys : List ℤ) → T (all_same xs ys) → xs ≡ ys
all_same_is [] [] t = refl
all_same_is [] (y ∷ ys) t = absurd t
all_same_is (x ∷ xs) [] t = absurd t
all_same_is (x ∷ xs) (y ∷ ys) t =
    let p = both (same x y) (all_same xs ys) t in
    rw (same_is x y p.0, all_same_is xs ys p.1)

agree_stands : (fs : List Figure) → T (agree fs) → AllByRecursion Stands fs
agree_stands [] t = tt
agree_stands (f ∷ fs) t =
    let p = both (all_same f.got f.told) (agree fs) t in
    (all_same_is f.got f.told p.0, agree_stands fs p.1)

pub figures_stand : FiguresStand
unfolding ceiling points difference paid received requirement shortfall share settlement closing
figures_stand = agree_stands figures tt
