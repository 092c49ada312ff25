-- A test that every record of a list passes.
use Rattle.std.specs.Prelude.{Bool, true, ◌&&◌, List, [], ◌∷◌}

unfoldable pub every : {T : Type 0} → (T → Bool) → List T → Bool
every test [] = true
every test (x ∷ xs) = test x && every test xs
