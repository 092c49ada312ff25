-- The reasons that unreadable words and fields are given.
use Rattle.std.specs.Prelude.{◌≡◌, ℕ, List, Some, None, Err, IsUtf8}
use Rattle.commands.specs.declared.field.Field.{Field}
use Rattle.workings.specs.declared.number.NumberFault.TheVariants as fault
use Rattle.commands.specs.declared.unreadable.Unreadable.{Unreadable}
use Rattle.commands.specs.declared.unreadable.Unreadable.TheVariants.{NotText, NoCommand, NotOffered, WrongCount, NoNumber, TooLarge, NoKind, Work}
use Rattle.commands.specs.Commands.{kind_read}
use Rattle.commands.specs.Fields.{field_max}
use Rattle.workings.specs.Numbers.{number_read}
use Rattle.commands.specs.Verbs.{names}

-- why a line is no text
abbrev pub NoText : List ℕ → Unreadable → Type 0
NoText line NotText = IsUtf8 line → ⊥
NoText line (NoCommand t) = ⊥
NoText line (NotOffered t) = ⊥
NoText line (WrongCount v n) = ⊥
NoText line (NoNumber f t) = ⊥
NoText line (TooLarge f t) = ⊥
NoText line (NoKind t) = ⊥
NoText line (Work e) = ⊥

-- why the first word of a line names no command that is offered
abbrev pub NoVerb : List ℕ → Unreadable → Type 0
NoVerb w NotText = ⊥
NoVerb w (NoCommand t) = (t.now ≡ w) × (names w ≡ None)
NoVerb w (NotOffered t) = (t.now ≡ w) × (names w ≡ Some None)
NoVerb w (WrongCount v n) = ⊥
NoVerb w (NoNumber f t) = ⊥
NoVerb w (TooLarge f t) = ⊥
NoVerb w (NoKind t) = ⊥
NoVerb w (Work e) = ⊥

-- why a text is no number of a field
abbrev pub NoField : Field → List ℕ → Unreadable → Type 0
NoField field w NotText = ⊥
NoField field w (NoCommand t) = ⊥
NoField field w (NotOffered t) = ⊥
NoField field w (WrongCount v n) = ⊥
NoField field w (NoNumber f t) = (f ≡ field) × (t.now ≡ w) × (number_read (field_max field) w ≡ Err fault.NoNumber)
NoField field w (TooLarge f t) = (f ≡ field) × (t.now ≡ w) × (number_read (field_max field) w ≡ Err fault.TooLarge)
NoField field w (NoKind t) = ⊥
NoField field w (Work e) = ⊥

-- why a text is no kind of book
abbrev pub NoKindWord : List ℕ → Unreadable → Type 0
NoKindWord w NotText = ⊥
NoKindWord w (NoCommand t) = ⊥
NoKindWord w (NotOffered t) = ⊥
NoKindWord w (WrongCount v n) = ⊥
NoKindWord w (NoNumber f t) = ⊥
NoKindWord w (TooLarge f t) = ⊥
NoKindWord w (NoKind t) = (t.now ≡ w) × (kind_read w ≡ None)
NoKindWord w (Work e) = ⊥
