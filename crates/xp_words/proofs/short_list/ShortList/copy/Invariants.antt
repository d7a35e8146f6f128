use Rattle.std.proofs.Common.{◌≡◌, ◌≤◌, take, length}
use Rattle.xp_words.proofs.short_list.ShortList.copy.Given as goal

abbrev pub invariant-loop-item : goal.invariant-loop-item
invariant-loop-item _ l = (l.items.items ≡ take l.item-index l.item-items) × (length l.item-items ≤ 16)
