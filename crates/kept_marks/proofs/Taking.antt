-- When a mark may be taken back, and what that leaves in hand.
use Rattle.std.proofs.Common.{◌≡◌, ◌≢◌, ℕ, ◌<◌, true, Result, Ok, Err, IfErr, MatchResult, None, IsTrue, refl}
use Rattle.xp_words.specs.KindWords.{is_kind, kind_write}
use Rattle.xp_words.specs.declared.kind.KindWord.{KindWord}
use Rattle.xp_words.specs.declared.place.Place.TheVariants.{Kind}
use Rattle.xp_board.specs.declared.step.Act.TheVariants.{Cas}
use Rattle.xp_board.specs.declared.step.StepKind.TheVariants as kinds
use Rattle.xp_board.specs.KindSteps.{TakeBack}
use Rattle.xp_board.specs.Readings.{is_partial}
use Rattle.xp_board.specs.Told.{PortValue}
use Rattle.step_maker.specs.Holds.{Holds, MayWork}
use Rattle.step_maker.specs.Moves.{May, Moves, found_by}
use Rattle.kind_words.specs.Kinds.{looked_at}
use Rattle.kind_words.proofs.RowSteps.{exchanged, may_exchange, unexchanged}
use Rattle.kept_marks.specs.Marks.{IsUnpaged, took_back, unkept_kind}
use Rattle.kept_marks.proofs.MarkWords.{unkept_fits, unkept_is, unkept_row}

module _ (v : PortValue) (f : ℕ) (k : KindWord) (is : IsTrue (is_kind k)) (partial : IsTrue (is_partial k)) (kept : k.kept ≡ true) (page : IsUnpaged k) where
  pub may_take_back : (e n : ℕ) → f < v.post.machine.frames → MayWork v → e ≡ kind_write k → n ≡ kind_write (unkept_kind k) → May v (Kind f) (Cas e n) kinds.Kind None
  may_take_back e n frame may =
      may_exchange v f k (unkept_kind k) TakeBack is (unkept_is k is partial page) (unkept_row k partial) e n frame may (unkept_fits v.post.machine k partial)
      (record { partial = partial; kept = kept; left = refl })

  pub take_back_hand : (w : PortValue) (e n : ℕ) (r : Result (Unit {0}) ℕ) → e ≡ kind_write k → n ≡ kind_write (unkept_kind k) → Moves v w (Kind f) (Cas e n) kinds.Kind None (found_by e r) → IfErr r (λ found. found ≢ e) →
      MatchResult r (λ done. Holds v w (took_back f k v.holdings)) (λ found. Holds v w (looked_at f found v.holdings))
  take_back_hand w e n (Ok done) is_e is_n m off = exchanged v f k (unkept_kind k) TakeBack is (unkept_is k is partial page) (unkept_row k partial) w e n is_e is_n m
  take_back_hand w e n (Err found) is_e is_n m off = unexchanged v w f _ _ found m off
