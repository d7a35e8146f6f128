-- The kind words with a pin and without are spellings.
use Rattle.std.proofs.Common.{◌≡◌, nat_lt, true, ◌<◌, ◌^◌, IsTrue, refl, arith}
use Rattle.std.proofs.lemmas.Bool.{and_parts}
use Rattle.std.proofs.lemmas.Bool.Decides.{nat_tests}
use Rattle.xp_words.specs.KindWords.{is_kind, has_form}
use Rattle.xp_words.specs.PageTypes.{is_table}
use Rattle.xp_words.specs.declared.kind.KindWord.{KindWord}
use Rattle.xp_board.specs.KindSteps.{MayUnpin}
use Rattle.xp_board.specs.Readings.{is_live}
use Rattle.table_words.specs.Pins.{pinned_kind, unpinned_kind}

pub pinned_is : (k : KindWord) → IsTrue (is_kind k) → IsTrue (is_live k) → IsTrue (is_table k.kind) → 0 < k.number → IsTrue (is_kind (pinned_kind k))
unfolding has_form
pinned_is k is live table counted = grind (arith, nat_tests)

pub unpinned_is : (k : KindWord) → IsTrue (is_kind k) → IsTrue (is_live k) → IsTrue (is_kind (unpinned_kind k))
unfolding has_form
unpinned_is k is live = grind (arith, nat_tests)

-- ---- a pin that may come off
pinned_form : (k : KindWord) → has_form k ≡ true → k.pinned ≡ true → IsTrue (is_live k)
unfolding has_form
pinned_form k form on = grind (arith, nat_tests)

-- only a live frame is pinned
pub pinned_lives : (k : KindWord) → IsTrue (is_kind k) → k.pinned ≡ true → IsTrue (is_live k)
pinned_lives k is on = pinned_form k (and_parts (nat_lt k.progress (2 ^ 10)) (has_form k) (and_parts (nat_lt k.number (2 ^ 36)) _ is).1).1 on

pub may_unpin : (k : KindWord) → IsTrue (is_kind k) → k.pinned ≡ true → MayUnpin k (unpinned_kind k)
may_unpin k is on = record { live = pinned_lives k is on; pinned = on; left = refl }
