-- A word that keeps its type.
use Rattle.std.proofs.Common.{◌≡◌, ℕ, false, IsTrue, refl}
use Rattle.xp_words.specs.KindWords.{kind_fields}
use Rattle.xp_words.specs.declared.kind.KindWord.{KindWord}
use Rattle.xp_board.specs.Readings.{is_dead}
use Rattle.xp_board.proofs.Returned.{same_type}
use Rattle.step_maker.specs.Reasons.{keeps_type}

pub kept_type : (found new : ℕ) (k l : KindWord) → kind_fields found ≡ k → kind_fields new ≡ l → l.kind ≡ k.kind → is_dead k ≡ false → IsTrue (keeps_type found new)
kept_type found new k l is to same alive = rw (is, to, same, alive, same_type k.kind) refl
