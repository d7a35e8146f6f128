-- A partial frame that is to be released first is a table of which entries are recorded; another one has none.
use Rattle.std.proofs.Common.{◌≡◌, ℕ, ◌<◌, ◌&&◌, nat_lt, Bool, true, false, refl, arith}
use Rattle.std.proofs.lemmas.Bool.Decides.{nat_tests}
use Rattle.xp_words.specs.PageTypes.{is_table}
use Rattle.xp_words.specs.declared.kind.KindWord.{KindWord}
use Rattle.xp_words.specs.declared.kind.PageType.{PageType}
use Rattle.table_releases.specs.Found.{has_recorded}

both_are : (b : Bool) (n : ℕ) → (b && nat_lt 0 n) ≡ true → (b ≡ true) × (0 < n)
both_are true n is = (refl, grind (arith, nat_tests))
both_are false n is = absurd cc

none_by : (b : Bool) (n : ℕ) → (b && nat_lt 0 n) ≡ false → (b ≡ false → n ≡ 0) → n ≡ 0
none_by true n is page = grind (arith, nat_tests)
none_by false n is page = page refl

pub recorded_table : (t : PageType) (k : KindWord) → has_recorded t k ≡ true → is_table t ≡ true
recorded_table t k is = (both_are (is_table t) k.progress is).0

pub recorded_some : (t : PageType) (k : KindWord) → has_recorded t k ≡ true → 0 < k.progress
recorded_some t k is = (both_are (is_table t) k.progress is).1

-- of a frame without entries nothing is recorded
pub recorded_none : (t : PageType) (k : KindWord) → has_recorded t k ≡ false → (is_table t ≡ false → k.progress ≡ 0) → k.progress ≡ 0
recorded_none t k is page = none_by (is_table t) k.progress is page
