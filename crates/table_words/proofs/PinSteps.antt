-- When a pin may be set and cleared, and what that leaves in hand.
use Rattle.std.proofs.Common.{◌≡◌, ◌≢◌, ℕ, ◌<◌, true, false, Result, Ok, Err, IfErr, MatchResult, Some, None, IsTrue, arith}
use Rattle.std.proofs.lemmas.Bool.Decides.{nat_tests}
use Rattle.xp_words.specs.KindWords.{is_kind, kind_write}
use Rattle.xp_words.specs.declared.kind.KindWord.{KindWord}
use Rattle.xp_words.specs.declared.place.Place.TheVariants.{Kind}
use Rattle.xp_board.specs.declared.step.Act.TheVariants.{Cas}
use Rattle.xp_board.specs.declared.step.StepKind.TheVariants as kinds
use Rattle.xp_board.specs.KindSteps.{MayPin, MayUnpin, Pin, Unpin, kind_row}
use Rattle.xp_board.specs.Readings.{is_live}
use Rattle.xp_board.specs.Spelling.{is_kind_in}
use Rattle.xp_board.specs.Told.{PortValue}
use Rattle.step_maker.specs.Holds.{Holds, MayWork}
use Rattle.step_maker.specs.Moves.{May, Moves, found_by}
use Rattle.kind_words.specs.Kinds.{looked_at}
use Rattle.kind_words.proofs.RowSteps.{exchanged, may_exchange, unexchanged}
use Rattle.table_words.specs.Pins.{gave_pin, pinned_kind, took_pin, unpinned_kind}
use Rattle.table_words.proofs.PinWords.{pinned_is, unpinned_is}

pin_row : (k : KindWord) → IsTrue (is_live k) → k.pinned ≡ false → kind_row k (pinned_kind k) ≡ Pin
pin_row k live off = grind (arith, nat_tests)

unpin_row : (k : KindWord) → IsTrue (is_live k) → k.pinned ≡ true → kind_row k (unpinned_kind k) ≡ Unpin
unpin_row k live on = grind (arith, nat_tests)

module _ (v : PortValue) (f : ℕ) (k : KindWord) (is : IsTrue (is_kind k)) (pins : MayPin v.post.machine v.post.vcpu f k (pinned_kind k) v.holdings) where
  pub may_set_pin : (e n : ℕ) → f < v.post.machine.frames → MayWork v → IsTrue (is_kind_in v.post.machine (Some k)) → e ≡ kind_write k → n ≡ kind_write (pinned_kind k) → May v (Kind f) (Cas e n) kinds.Kind None
  may_set_pin e n frame may fits = may_exchange v f k (pinned_kind k) Pin is (pinned_is k is pins.live pins.table pins.counted) (pin_row k pins.live pins.unpinned) e n frame may fits pins

  pub set_pin_hand : (w : PortValue) (e n : ℕ) (r : Result (Unit {0}) ℕ) → e ≡ kind_write k → n ≡ kind_write (pinned_kind k) → Moves v w (Kind f) (Cas e n) kinds.Kind None (found_by e r) → IfErr r (λ found. found ≢ e) →
      MatchResult r (λ done. Holds v w (gave_pin f k v.holdings)) (λ found. Holds v w (looked_at f found v.holdings))
  set_pin_hand w e n (Ok done) is_e is_n m off = exchanged v f k (pinned_kind k) Pin is (pinned_is k is pins.live pins.table pins.counted) (pin_row k pins.live pins.unpinned) w e n is_e is_n m
  set_pin_hand w e n (Err found) is_e is_n m off = unexchanged v w f _ _ found m off

module _ (v : PortValue) (f : ℕ) (k : KindWord) (is : IsTrue (is_kind k)) (unpins : MayUnpin k (unpinned_kind k)) where
  pub may_clear_pin : (e n : ℕ) → f < v.post.machine.frames → MayWork v → IsTrue (is_kind_in v.post.machine (Some k)) → e ≡ kind_write k → n ≡ kind_write (unpinned_kind k) → May v (Kind f) (Cas e n) kinds.Kind None
  may_clear_pin e n frame may fits = may_exchange v f k (unpinned_kind k) Unpin is (unpinned_is k is unpins.live) (unpin_row k unpins.live unpins.pinned) e n frame may fits unpins

  pub clear_pin_hand : (w : PortValue) (e n : ℕ) (r : Result (Unit {0}) ℕ) → e ≡ kind_write k → n ≡ kind_write (unpinned_kind k) → Moves v w (Kind f) (Cas e n) kinds.Kind None (found_by e r) → IfErr r (λ found. found ≢ e) →
      MatchResult r (λ done. Holds v w (took_pin f k v.holdings)) (λ found. Holds v w (looked_at f found v.holdings))
  clear_pin_hand w e n (Ok done) is_e is_n m off = exchanged v f k (unpinned_kind k) Unpin is (unpinned_is k is unpins.live) (unpin_row k unpins.live unpins.pinned) w e n is_e is_n m
  clear_pin_hand w e n (Err found) is_e is_n m off = unexchanged v w f _ _ found m off
