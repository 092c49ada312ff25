-- The words that name topics of `work`, and the numbers that follow each.
use Rattle.std.specs.Prelude.{ℕ, refl, cond, List, [], ◌∷◌, Some, None, codes, Option}
use Rattle.std.specs.Str.{bytes_eq}
use Rattle.workings.specs.declared.figure.Figure.{Figure}
use Rattle.workings.specs.declared.figure.Figure.TheVariants.{Spot, Last, Price, Quantity, Rate, Divisor, Cap, Percent, Charge, Closed, Held}
use Rattle.workings.specs.declared.topic.Topic.{Topic}
use Rattle.workings.specs.declared.topic.Topic.TheVariants.{Points, Funding, Margin, Split}
use Rattle.workings.specs.Keywords.{TellsApart}

abbrev pub topics : List Topic
topics = Points ∷ (Funding ∷ (Margin ∷ (Split ∷ [])))

abbrev pub topic_word : Topic → List ℕ
topic_word Points = codes "points"
topic_word Funding = codes "funding"
topic_word Margin = codes "margin"
topic_word Split = codes "split"

abbrev pub figures_of : Topic → List Figure
figures_of Points = Spot ∷ (Quantity ∷ (Rate ∷ []))
figures_of Funding = Last ∷ (Spot ∷ (Divisor ∷ (Cap ∷ (Quantity ∷ []))))
figures_of Margin = Price ∷ (Quantity ∷ (Percent ∷ []))
figures_of Split = Charge ∷ (Closed ∷ (Held ∷ []))

abbrev pub topic_named : List ℕ → Option Topic
topic_named w =
    cond (bytes_eq w (codes "points")) (Some Points)
    (cond (bytes_eq w (codes "funding")) (Some Funding)
    (cond (bytes_eq w (codes "margin")) (Some Margin)
    (cond (bytes_eq w (codes "split")) (Some Split) None)))

pub topics_apart : TellsApart topic_word topics
topics_apart Points = refl
topics_apart Funding = refl
topics_apart Margin = refl
topics_apart Split = refl
