-- The items of a list that keeps one item in place, and more in a vector.
use Rattle.std.specs.Prelude.{List, [], ◌∷◌}
use Rattle.xp_words.specs.declared.ops.Pair.{Pair}
use Rattle.xp_words.specs.declared.ops.PairStore.{PairStore}
use Rattle.xp_words.specs.declared.ops.PairStore.TheVariants as stores

abbrev pub stored : PairStore → List Pair
stored (stores.One item) = item ∷ []
stored (stores.Many items) = items.items
