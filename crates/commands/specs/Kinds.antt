-- The words that name kinds of book.
use Rattle.std.specs.Prelude.{ℕ, refl, List, [], ◌∷◌, codes}
use Rattle.commands.specs.declared.opening.Kind.{Kind}
use Rattle.commands.specs.declared.opening.Kind.TheVariants.{Running, Journal}
use Rattle.workings.specs.Keywords.{TellsApart}

abbrev pub kinds : List Kind
kinds = Running ∷ (Journal ∷ [])

abbrev pub kind_word : Kind → List ℕ
kind_word Running = codes "running"
kind_word Journal = codes "journal"

pub kinds_apart : TellsApart kind_word kinds
kinds_apart Running = refl
kinds_apart Journal = refl
