-- One thing, or several.
use Rattle.std.specs.Prelude.{ℕ, Bool, cond, List, codes}
use Rattle.desk.specs.declared.several.Noun.{Noun}
use Rattle.desk.specs.declared.several.Noun.TheVariants.{Call, Command, Entry, Line}

abbrev pub noun_for : Noun → Bool → List ℕ
noun_for Call one = cond one (codes "call") (codes "calls")
noun_for Command one = cond one (codes "command") (codes "commands")
noun_for Entry one = cond one (codes "entry") (codes "entries")
noun_for Line one = cond one (codes "line") (codes "lines")
