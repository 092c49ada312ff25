-- The words that name commands, and the fields that follow each.
use Rattle.std.specs.Prelude.{ℕ, refl, cond, List, [], ◌∷◌, Some, None, codes, Option}
use Rattle.std.specs.Str.{bytes_eq}
use Rattle.commands.specs.declared.field.Field.{Field}
use Rattle.commands.specs.declared.field.Field.TheVariants.{PointsRate, FundingDivisor, FundingCap, MarginPercent, Lots, Orders, Kind, Entries, Account, Yen, Topic}
use Rattle.commands.specs.declared.verb.Verb.{Verb}
use Rattle.commands.specs.declared.verb.Verb.TheVariants.{Open, Deposit, State, Statement, Work}
use Rattle.workings.specs.Keywords.{TellsApart}

abbrev pub verbs : List Verb
verbs = Open ∷ (Deposit ∷ (State ∷ (Statement ∷ (Work ∷ []))))

abbrev pub word_of : Verb → List ℕ
word_of Open = codes "open"
word_of Deposit = codes "deposit"
word_of State = codes "state"
word_of Statement = codes "statement"
word_of Work = codes "work"

pub verbs_apart : TellsApart word_of verbs
verbs_apart Open = refl
verbs_apart Deposit = refl
verbs_apart State = refl
verbs_apart Statement = refl
verbs_apart Work = refl

-- after the topic of a `work` come the topic's own fields
abbrev pub fields_of : Verb → List Field
fields_of Open = PointsRate ∷ (FundingDivisor ∷ (FundingCap ∷ (MarginPercent ∷ (Lots ∷ (Orders ∷ (Kind ∷ (Entries ∷ [])))))))
fields_of Deposit = Account ∷ (Yen ∷ [])
fields_of State = []
fields_of Statement = []
fields_of Work = Topic ∷ []

-- every word of the whole format, with the command that it names where that is offered
abbrev pub table : List (List ℕ × Option Verb)
table =
    (codes "open", Some Open)
    ∷ ((codes "deposit", Some Deposit)
    ∷ ((codes "state", Some State)
    ∷ ((codes "statement", Some Statement)
    ∷ ((codes "work", Some Work)
    ∷ ((codes "clock", None)
    ∷ ((codes "spot", None)
    ∷ ((codes "withdraw", None)
    ∷ ((codes "order", None)
    ∷ ((codes "cancel", None)
    ∷ ((codes "fill", None)
    ∷ ((codes "reopen", None)
    ∷ ((codes "cut", None)
    ∷ ((codes "answer", None)
    ∷ [])))))))))))))

abbrev pub named_in : List (List ℕ × Option Verb) → List ℕ → Option (Option Verb)
named_in [] w = None
named_in (entry ∷ entries) w = cond (bytes_eq w entry.0) (Some entry.1) (named_in entries w)

abbrev pub names : List ℕ → Option (Option Verb)
names = named_in table
