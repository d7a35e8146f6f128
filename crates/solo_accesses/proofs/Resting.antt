-- Hands that are empty stay so behind walks and accesses.
use Rattle.std.proofs.Common.{List, refl, ap}
use Rattle.xp_board.specs.Hands.{IsEmptyHand}
use Rattle.xp_board.specs.declared.step.Item.{Item}
use Rattle.xp_board.specs.declared.holdings.Holdings.{Holdings}
use Rattle.xp_board.specs.Told.{PortValue}
use Rattle.step_maker.specs.Holds.{Holds, Same}
use Rattle.step_maker.proofs.Resting.{bare, empty_as}

pub holds_empty : (v w : PortValue) (h : Holdings) → Holds v w h → IsEmptyHand h → IsEmptyHand w.holdings
holds_empty v w h a e = empty_as w.holdings h (ap (λ (y : PortValue). bare y.holdings) a) e

pub same_empty : (v w : PortValue) → Same v w → IsEmptyHand v.holdings → IsEmptyHand w.holdings
same_empty v w a e = holds_empty v w v.holdings a e

-- whatever is cached
pub cached_empty : (h : Holdings) (items : List Item) → IsEmptyHand h → IsEmptyHand (record h { cache = items })
cached_empty h items e = empty_as (record h { cache = items }) h refl e
