-- What a look at a cell tells of a frame in work leaves that the same frame.
use Rattle.std.proofs.Common.{◌≡◌, ℕ, ◌+◌, if◌then◌else◌, Bool, true, false, Some, refl}
use Rattle.xp_words.specs.KindWords.{kind_fields}
use Rattle.xp_board.specs.declared.holdings.Work.{Work}
use Rattle.xp_board.specs.After.{counts_fixed, learned_last, learned_work}

pub learned_frame : (i w : ℕ) (e : Work) → (learned_work i w e).frame ≡ e.frame
learned_frame i w e = by_mark (kind_fields e.word).unflushed
  where
    by_mark : (u : Bool) → (if u then e else record e { seen = Some (record { index = i; word = w }); unsettled = learned_last i e.recorded w e.unsettled; fixed = if counts_fixed i w e then e.fixed + 1 else e.fixed }).frame ≡ e.frame
    by_mark true = refl
    by_mark false = refl
