-- The reasons that unreadable words after `work` are given.
use Rattle.std.specs.Prelude.{◌≡◌, ℕ, List, None, Err, Result}
use Rattle.workings.specs.declared.between.RangeFault.{RangeFault}
use Rattle.workings.specs.declared.figure.Figure.{Figure}
use Rattle.workings.specs.declared.work_fault.WorkFault.{WorkFault}
use Rattle.workings.specs.declared.work_fault.WorkFault.TheVariants.{NoWord, NoTopic, WrongCount, NoFigure}
use Rattle.workings.specs.Topics.{topic_named}

-- why a word is no topic
abbrev pub NoTopicWord : List ℕ → WorkFault → Type 0
NoTopicWord w NoWord = ⊥
NoTopicWord w (NoTopic t) = (t.now ≡ w) × (topic_named w ≡ None)
NoTopicWord w (WrongCount p n) = ⊥
NoTopicWord w (NoFigure f t e) = ⊥

-- why a text, read as r, is no number of a figure
abbrev pub Unfit : {A : Type 0} → Figure → List ℕ → Result A RangeFault → WorkFault → Type 0
Unfit figure w r NoWord = ⊥
Unfit figure w r (NoTopic t) = ⊥
Unfit figure w r (WrongCount p n) = ⊥
Unfit figure w r (NoFigure f t e) = (f ≡ figure) × (t.now ≡ w) × (r ≡ Err e)
