-- What 0 says at each place.
use Rattle.std.proofs.Common.{◌≡◌, false, refl}
use Rattle.xp_words.specs.RefWords.{ref_read}
use Rattle.xp_words.specs.KindWords.{kind_fields}
use Rattle.xp_board.specs.Readings.{is_live, is_locked, is_dying, ref_count, allocated_mark, type_count, free_stamp, kind_stamp}
use Rattle.xp_board.specs.Recorded.{marks}
use Rattle.xp_board.specs.Sound.{is_busy}

-- a word that the machine has not reads as 0, and the frame is free, dead and without a type
pub zero_count : ref_count 0 ≡ 0
unfolding ref_count ref_read
zero_count = refl

pub zero_mark : allocated_mark 0 ≡ 0
unfolding allocated_mark ref_read
zero_mark = refl

pub zero_undying : is_dying 0 ≡ false
unfolding is_dying ref_read
zero_undying = refl

pub zero_stamp : free_stamp 0 ≡ 0
unfolding free_stamp ref_read
zero_stamp = refl

pub zero_kind_stamp : kind_stamp 0 ≡ 0
unfolding kind_stamp kind_fields
zero_kind_stamp = refl

pub zero_types : type_count (kind_fields 0) ≡ 0
unfolding type_count kind_fields
zero_types = refl

pub zero_marks : marks (kind_fields 0) ≡ 0
unfolding marks kind_fields
zero_marks = refl

pub zero_unlive : is_live (kind_fields 0) ≡ false
unfolding kind_fields
zero_unlive = refl

pub zero_idle : is_busy (kind_fields 0) ≡ false
unfolding kind_fields
zero_idle = refl

pub zero_unlocked : is_locked (kind_fields 0) ≡ false
unfolding kind_fields
zero_unlocked = refl
