-- Loads, exchanges that found another word, and steps on words of which no fact speaks.
use Rattle.std.proofs.Common.{◌≡◌, ◌≢◌, ℕ, ◌-◌, ◌^◌, ◌<◌, ◌==◌, ◌||◌, not, false, List, IsTrue, refl, sym, ap, ◌∙◌}
use Rattle.xp_words.specs.Machine.{Machine}
use Rattle.xp_words.specs.declared.place.Place.{Place}
use Rattle.xp_words.specs.declared.place.Place.TheVariants.{Pages, Refs, Kind, M2p, Cell}
use Rattle.xp_words.specs.Places.{sizes_of, flushed_of, run_of, asked_of}
use Rattle.xp_board.specs.declared.step.Step.{Step}
use Rattle.xp_board.specs.declared.holdings.Looking.{Looking}
use Rattle.xp_board.specs.declared.holdings.Holdings.{Holdings}
use Rattle.xp_board.specs.Lists.{with_more, with_fewer, EachOf}
use Rattle.xp_board.specs.After.{noted, learned}
use Rattle.xp_board.specs.KindSteps.{still_looking}
use Rattle.xp_board.specs.WellFormed.{IsRaisedFormed, IsLookingFormed}
use Rattle.xp_board.specs.Sound.{Sound}
use Rattle.step_effects.proofs.ActEffects.{Looked, Mapped, Charged, Refunded, Asked, Missed}
use Rattle.found_rule.proofs.Learning.{Act, act}
use Rattle.found_rule.proofs.WordsAt.{is_read, words_quiet}
use Rattle.found_rule.proofs.Quiet.{Done, SameHand, same_hand, done_same, found_same, formed_same}
use Rattle.xp_board.proofs.HandLists.{EachOf-kept}
use Rattle.xp_board.proofs.Sums.{either}

same_looking : (a : Holdings) (xs : List Looking) → SameHand a (record a { looking = xs })
same_looking a xs =
    record { refs = refl; typed = refl; works = refl; locks = refl; ending = refl; claimed = refl; cache = refl; walk = refl; cold = refl; turn = refl; acked = refl; ran = refl }

same_credits : (a : Holdings) (xs : List ℕ) → SameHand a (record a { credits = xs })
same_credits a xs =
    record { refs = refl; typed = refl; works = refl; locks = refl; ending = refl; claimed = refl; cache = refl; walk = refl; cold = refl; turn = refl; acked = refl; ran = refl }

unread : (p q : Place) → is_read p ≡ false → IsTrue (is_read q) → q ≢ p
unread p q off r e = let k = ap is_read e in cc

module _ (n : Machine) (s : ℕ) (x : Step) (m m2 : Place → ℕ) (b c : ℕ → Holdings) (l : s < (sizes_of n).vcpus) (sound : Sound n m b) (others : (t : ℕ) → t ≢ s → c t ≡ b t) where
  -- a word of which no fact speaks, and a hand of which none does
  module _ (p : Place) (u : Holdings) (off : is_read p ≡ false) (acted : Act n s p m m2 (b s) u (c s)) (same : SameHand (b s) u) where
    kept : (q : Place) → IsTrue (is_read q) → m2 q ≡ m q
    kept q r = acted.others q (unread p q off r)

    pub unread_done : u.raised ≡ (b s).raised → u.looking ≡ (b s).looking → Done n s m m2 b c
    unread_done raised looking =
        done_same n s p m m2 b c u acted l sound same (words_quiet n s m m2 b sound (λ q r. kept q r)) others
        (λ f i. kept (Cell f i) refl) (λ f. kept (Kind f) refl) (λ f. kept (Refs f) refl) (λ v. kept (flushed_of v) refl) (λ v. kept (run_of v) refl) raised looking

    pub unread_raised : IsRaisedFormed u → EachOf (IsLookingFormed n s) u.looking → Done n s m m2 b c
    unread_raised raised looking =
        record {
          found = found_same n s p m m2 b c u acted l sound same (words_quiet n s m m2 b sound (λ q r. kept q r)) others
              (λ f i. kept (Cell f i) refl) (λ f. kept (Kind f) refl) (λ f. kept (Refs f) refl) (λ v. kept (flushed_of v) refl) (λ v. kept (run_of v) refl);
          formed = formed_same n s p m m2 b c u acted l sound same raised looking;
        }

  pub looked_done : (p : Place) → Looked n s x p m m2 (b s) (c s) → Done n s m m2 b c
  looked_done p d =
      let w = d.words in
      done_same n s p m m2 b c (b s)
      (act n s x p m m2 (b s) (b s) (c s) d.place d.real (d.left ∙ sym (w p)) (λ q o. w q) refl refl refl refl
      (d.hand ∙ ap (λ v. noted x (m p) (learned s p (m p) v (b s))) (sym (w p))))
      l sound (same_hand (b s)) (words_quiet n s m m2 b sound (λ q r. w q)) others
      (λ f i. w (Cell f i)) (λ f. w (Kind f)) (λ f. w (Refs f)) (λ v. w (flushed_of v)) (λ v. w (run_of v)) refl refl

  pub missed_done : (f : ℕ) → Missed n x f m m2 (b s) (c s) → Done n s m m2 b c
  missed_done f d =
      let w = d.words in
      let p = Kind f in
      let u = record (b s) { looking = still_looking f (m (Kind f)) (b s).looking } in
      let a = act n s x p m m2 (b s) u (c s) d.place d.real (d.left ∙ sym (w p)) (λ q o. w q) refl refl refl refl d.hand in
      let same = same_looking (b s) (still_looking f (m (Kind f)) (b s).looking) in
      record {
        found = found_same n s p m m2 b c u a l sound same (words_quiet n s m m2 b sound (λ q r. w q)) others
            (λ g i. w (Cell g i)) (λ g. w (Kind g)) (λ g. w (Refs g)) (λ v. w (flushed_of v)) (λ v. w (run_of v));
        formed = formed_same n s p m m2 b c u a l sound same (record { held = (sound.formed s l).raised.held }) (EachOf-kept (IsLookingFormed n s) (λ e. not (e.frame == f) || (e.word == m (Kind f))) (b s).looking (sound.formed s l).looking);
      }

  pub mapped_done : (f : ℕ) → Mapped n x f m m2 (b s) (c s) → Done n s m m2 b c
  mapped_done f d =
      let w = d.wrote in
      unread_done (M2p f) (b s) refl (act n s x (M2p f) m m2 (b s) (b s) (c s) w.place w.real w.left w.others refl refl refl refl d.hand) (same_hand (b s)) refl refl

  pub charged_done : (d : ℕ) → Charged n x d m m2 (b s) (c s) → Done n s m m2 b c
  charged_done g d =
      let w = d.wrote in
      let u = record (b s) { credits = with_more (m2 (Pages g) - m (Pages g)) g (b s).credits } in
      unread_done (Pages g) u refl (act n s x (Pages g) m m2 (b s) u (c s) w.place w.real w.left w.others refl refl refl refl d.hand) (same_credits (b s) (with_more (m2 (Pages g) - m (Pages g)) g (b s).credits)) refl refl

  pub refunded_done : (d by : ℕ) → Refunded n x d by m m2 (b s) (c s) → Done n s m m2 b c
  refunded_done g by d =
      let w = d.wrote in
      let u = record (b s) { credits = with_fewer (2 ^ 64 - by) g (b s).credits } in
      unread_done (Pages g) u refl (act n s x (Pages g) m m2 (b s) u (c s) w.place w.real w.left w.others refl refl refl refl d.hand) (same_credits (b s) (with_fewer (2 ^ 64 - by) g (b s).credits)) refl refl

  pub asked_done : (v : ℕ) → Asked n x v m m2 (b s) (c s) → Done n s m m2 b c
  asked_done v d =
      let w = d.wrote in
      unread_done (asked_of v) (b s) refl
      (act n s x (asked_of v) m m2 (b s) (b s) (c s) w.place w.real w.left w.others refl refl refl refl
      (d.hand ∙ ap (noted x (m (asked_of v))) (sym (either (λ y. y ≡ (b s)) (v == s) (b s) (b s) refl refl))))
      (same_hand (b s)) refl refl
