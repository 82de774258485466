-- What the text of a comparison says is true of every event.
use Rattle.std.proofs.Common.{◌≡◌, inl, inr, true}
use Rattle.gw_configuration.specs.Configuration.{Configuration}
use Rattle.gw_policy_review.specs.comparison.Laws.{IsAskOf}
use Rattle.gw_policy_review.proofs.comparison_lemmas.TextLaw.{alike_is_alike, found_is_all, lines_are_true, pairs_are_all}
use Rattle.gw_core.specs.Asks.{asks}
use Rattle.gw_ask_sets.specs.regions.Comparing.{IsDecided}
use Rattle.gw_ask_sets.specs.regions.Regions.{lies}
use Rattle.gw_rules.specs.Ask.{Ask}
use Rattle.gw_rules.proofs.EachAsk.{each_weaker}
use Rattle.gw_ask_sets.specs.shapes.Shape.{LiesInOne}
use Rattle.gw_ask_sets.specs.shapes.Shapes.{shapes}
use Rattle.gw_verdicts.specs.Compared.{EventsAreAlike, EventsAreCompared, EventsArePaired, LinesAreTrueOfEvents, OfBoth}
use Rattle.gw_verdicts.proofs.ShapeLaw.{asks_lie_in_shapes}

-- what holds of each ask of the shapes holds of each ask that is raised
raised : (old new : Configuration) (Holds : Ask → Type 0) → ((ask : Ask) → IsAskOf old new ask → Holds ask) → OfBoth old new Holds
raised old new Holds so = (
  λ numbered w under e is. each_weaker (LiesInOne (shapes old)) Holds (λ ask lies. so ask (inl lies)) (asks w e)
      (asks_lie_in_shapes old numbered w under e is),
  λ numbered w under e is. each_weaker (LiesInOne (shapes new)) Holds (λ ask lies. so ask (inr lies)) (asks w e)
      (asks_lie_in_shapes new numbered w under e is),
)

pub events_are_compared : EventsAreCompared
events_are_compared old new most made text translated finished paired =
    raised old new _ (found_is_all old new most made text translated finished paired)

pub events_are_paired : EventsArePaired
events_are_paired old new most made text translated paired =
    raised old new _ (pairs_are_all old new most made text translated paired)

pub events_are_alike : EventsAreAlike
events_are_alike old new most made text translated alike = raised old new _ (alike_is_alike old new most made text translated alike)

pub lines_are_true_of_events : LinesAreTrueOfEvents
lines_are_true_of_events old new most made text translated =
    raised old new _ (λ ask is. each_weaker
    (λ f. (other : Ask) → IsAskOf old new other → lies f.region other ≡ true → IsDecided old.rules new.rules f other)
    (λ f. lies f.region ask ≡ true → IsDecided old.rules new.rules f ask)
    (λ f so within. so ask is within) translated.found (lines_are_true old new most made text translated))
