-- What soundness says of the words of a vCPU that is alone with nothing in hand.
use Rattle.std.proofs.Common.{◌≡◌, ℕ, ◌+◌, ◌<◌, is_none, length, false, Option, Some, None, IsTrue, refl, sym, ap, ◌∙◌, subst, inl, inr, arith}
use Rattle.std.proofs.lemmas.Bool.{cases_eq}
use Rattle.xp_words.specs.Machine.{Machine}
use Rattle.xp_words.specs.Places.{sizes_of}
use Rattle.xp_words.specs.RefWords.{bit, ref_read}
use Rattle.xp_words.specs.declared.place.Place.TheVariants.{Pages, Refs}
use Rattle.xp_words.specs.declared.refs.RefWord.{RefWord}
use Rattle.xp_words.specs.declared.refs.RefWord.TheVariants.{Dying, Free, Owned}
use Rattle.xp_board.specs.declared.holdings.Holdings.{Holdings}
use Rattle.xp_board.specs.Hands.{IsEmptyHand, claims_of, endings_of}
use Rattle.xp_board.specs.Lists.{times, times_by}
use Rattle.xp_board.specs.Readings.{is_dying, is_dying_in, is_free, is_free_in, is_number, owner_in, owner_of}
use Rattle.xp_board.specs.Recorded.{hands, is_page_of}
use Rattle.xp_board.specs.Sound.{Sound, hand_of}
use Rattle.xp_board.specs.Spelling.{IsSpelling, is_ref_in}
use Rattle.xp_board.specs.Told.{PortValue, Story, told_word, word_in}
use Rattle.xp_board.proofs.Numbers.{refs_there}
use Rattle.xp_board.proofs.Sums.{no_bit, sum_below-none, sum_below-same}
use Rattle.step_maker.specs.Plain.{Words}
use Rattle.answer_laws.specs.Alone.{IsAlone}
use Rattle.rest_laws.specs.Resting.{AreEmpty}
use Rattle.table_law.specs.Plain.{Describes, Plain, share_in, share_of}
use Rattle.script_law.specs.Memory.{is_owned_by as is_share_by, pages_of}

pub alone_sound : (v : PortValue) → (a : IsAlone v) → Sound v.post.machine (told_word v) (hand_of a.story.hands)
alone_sound v a = subst (λ (o : Option Story). Sound v.post.machine (word_in v.post.machine o) (hand_of a.story.hands)) (sym a.telling) a.state.sound

pub alone_empty : (v : PortValue) → (a : IsAlone v) → IsEmptyHand v.holdings → AreEmpty v.post.machine (hand_of a.story.hands)
alone_empty v a empty t real =
    elim (cases_eq t v.post.vcpu) [
      | inl own ↦ subst (λ s. IsEmptyHand (hand_of a.story.hands s)) (sym own) (subst IsEmptyHand (sym a.mine) empty)
      | inr other ↦ a.others t real other
    ]

-- ---- hands
none_claimed : (f : ℕ) (u : Holdings) → IsEmptyHand u → endings_of f u.ending + claims_of f u.claimed ≡ 0
unfolding times_by
none_claimed f u empty = rw (empty.ending, empty.claimed) refl

no_credit : (d : ℕ) (u : Holdings) → IsEmptyHand u → times d u.credits ≡ 0
unfolding times_by
no_credit d u empty = rw empty.credits refl

pub none_of : (n : Machine) (h : ℕ → Holdings) (c : Holdings → ℕ) → ((u : Holdings) → IsEmptyHand u → c u ≡ 0) → AreEmpty n h → hands c (sizes_of n) h ≡ 0
unfolding hands
none_of n h c none empty = sum_below-none (sizes_of n).vcpus (λ s. c (h s)) (λ s real. none (h s) (empty s real))

-- ---- one reference word: no frame is dying
module _ (n : Machine) (m : Words) (h : ℕ → Holdings) (sound : Sound n m h) (empty : AreEmpty n h) where
  pub not_dying : (g : ℕ) → is_dying (m (Refs g)) ≡ false
  not_dying g = no_bit (is_dying (m (Refs g))) (sym (sound.alone.dying g) ∙ none_of n h (λ u. endings_of g u.ending + claims_of g u.claimed) (none_claimed g) empty)

  free_by : (r : Option RefWord) → IsTrue (is_ref_in n r) → is_dying_in r ≡ false → is_free_in r ≡ is_none (share_in r)
  free_by (Some (Free stamp)) is off = refl
  free_by (Some (Owned owner allocated count)) is off = refl
  free_by (Some (Dying owner)) is off = absurd cc
  free_by None is off = absurd cc

  -- who has no share is free
  pub free_is : (g : ℕ) → g < n.frames → is_free (m (Refs g)) ≡ is_none (share_of (m (Refs g)))
  unfolding is_free is_dying IsSpelling
  free_is g inside = free_by (ref_read (m (Refs g))) (sound.spelled.spelled (Refs g) (refs_there (sizes_of n) g inside)) (not_dying g)

  page_by : (d : ℕ) (r : Option RefWord) → is_dying_in r ≡ false → is_number (owner_in r) d ≡ is_share_by d (share_in r)
  page_by d (Some (Free stamp)) off = refl
  page_by d (Some (Owned owner allocated count)) off = refl
  page_by d (Some (Dying owner)) off = absurd cc
  page_by d None off = refl

  page_is : (d g : ℕ) → is_page_of d (m (Refs g)) ≡ bit (is_share_by d (share_of (m (Refs g))))
  unfolding is_dying owner_of
  page_is d g = ap bit (page_by d (ref_read (m (Refs g))) (not_dying g))

  -- the pages of a domain are the frames that it owns
  pub pages_are : (p : Plain) (d : ℕ) → Describes n m p → d < length n.page_limit → m (Pages d) ≡ pages_of n d p
  pages_are p d describes inside =
      let counts = sound.counts.pages d inside in
      let none = none_of n h (λ u. times d u.credits) (no_credit d) empty in
      let same = sum_below-same n.frames (λ f. is_page_of d (m (Refs f))) (λ g. bit (is_share_by d (p.shares g))) (λ g low. page_is d g ∙ ap (λ o. bit (is_share_by d o)) (sym (describes.shares g low))) in
      omega arith
