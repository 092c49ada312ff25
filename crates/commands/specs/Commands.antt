-- The commands that fields write.
use Rattle.std.specs.Prelude.{◌≡◌, ℕ, cond, List, [], length, drop, Some, None, Ok, codes, Option, slice_index_or}
use Rattle.std.specs.Str.{bytes_eq}
use Rattle.commands.specs.declared.command.Command.{Command}
use Rattle.commands.specs.declared.command.Command.TheVariants.{Open, Deposit, State, Statement, Work}
use Rattle.commands.specs.declared.field.Field.{Field}
use Rattle.commands.specs.declared.field.Field.TheVariants.{PointsRate, FundingDivisor, FundingCap, MarginPercent, Lots, Orders, Entries, Account, Yen}
use Rattle.commands.specs.declared.opening.Kind.{Kind}
use Rattle.commands.specs.declared.opening.Kind.TheVariants.{Running, Journal}
use Rattle.commands.specs.declared.opening.Request.{Request}
use Rattle.commands.specs.declared.verb.Verb.{Verb}
use Rattle.commands.specs.declared.verb.Verb.TheVariants as verb
use Rattle.commands.specs.Fields.{field_max}
use Rattle.workings.specs.Lines.{Words}
use Rattle.workings.specs.Numbers.{number_read}
use Rattle.commands.specs.Verbs.{names}
use Rattle.workings.specs.Workings.{Asked}

-- the verb under which a command is written
abbrev pub verb_of : Command → Verb
verb_of (Open q) = verb.Open
verb_of (Deposit a y) = verb.Deposit
verb_of State = verb.State
verb_of Statement = verb.Statement
verb_of (Work w) = verb.Work

-- n is the number that a field's text writes
abbrev pub Writes : Field → List ℕ → ℕ → Type 0
Writes f text n = number_read (field_max f) text ≡ Ok n

abbrev pub kind_read : List ℕ → Option Kind
kind_read text = cond (bytes_eq text (codes "running")) (Some Running) (cond (bytes_eq text (codes "journal")) (Some Journal) None)

-- the texts of the eight fields of an `open`, and what they ask for
pub record Requested (r g k p lots orders kind entries : List ℕ) (q : Request) : Type 0 where
  pub rate : Writes PointsRate r q.points_rate
  pub divisor : Writes FundingDivisor g q.funding_divisor
  pub cap_of : Writes FundingCap k q.funding_cap
  pub percent : Writes MarginPercent p q.margin_percent
  pub lots_of : Writes Lots lots q.layout.lots
  pub orders_of : Writes Orders orders q.layout.orders
  pub kind_of : kind_read kind ≡ Some q.layout.kind
  pub entries_of : Writes Entries entries q.layout.entries

-- the texts of the fields after a command's word, and the command
abbrev pub Filled : List (List ℕ) → Command → Type 0
Filled fs (Open q) = (length fs ≡ 8) × Requested (slice_index_or fs 0 []) (slice_index_or fs 1 []) (slice_index_or fs 2 []) (slice_index_or fs 3 []) (slice_index_or fs 4 []) (slice_index_or fs 5 []) (slice_index_or fs 6 []) (slice_index_or fs 7 []) q
Filled fs (Deposit a y) = (length fs ≡ 2) × Writes Account (slice_index_or fs 0 []) a × Writes Yen (slice_index_or fs 1 []) y
Filled fs State = length fs ≡ 0
Filled fs Statement = length fs ≡ 0
Filled fs (Work w) = Asked fs w

-- the words of a line, and the command that they write
pub record Written (ws : List (List ℕ)) (c : Command) : Type 0 where
  pub word : names (slice_index_or ws 0 []) ≡ Some (Some (verb_of c))
  pub fields : Filled (drop 1 ws) c

-- a line holds no command, or the one that its words write
abbrev pub Holds : List ℕ → Option Command → Type 0
Holds line None = Unit {0}
Holds line (Some c) = (ws : List (List ℕ)) × Words line ws × Written ws c
