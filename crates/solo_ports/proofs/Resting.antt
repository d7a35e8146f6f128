-- Words where nothing is left to be settled are at rest and orderly; and what is known of the old words is so.
use Rattle.std.proofs.Common.{◌≡◌, ◌≢◌, ℕ, ◌<◌, Option, Some, sym, ap, ◌∙◌, subst, arith}
use Rattle.xp_words.specs.KindWords.{kind_fields}
use Rattle.xp_words.specs.declared.kind.KindWord.{KindWord}
use Rattle.xp_words.specs.Places.{memory, old0_of, old1_of, run_of, sizes_of}
use Rattle.xp_words.specs.declared.place.Place.{Place}
use Rattle.xp_words.specs.declared.place.Place.TheVariants.{Kind, Vcpu}
use Rattle.xp_board.specs.declared.holdings.Holdings.{Holdings}
use Rattle.xp_board.specs.Hands.{IsEmptyHand}
use Rattle.xp_board.specs.Readings.{kind_at}
use Rattle.xp_board.specs.Sound.{Sound, hand_of}
use Rattle.xp_board.specs.Steps.{last_since}
use Rattle.xp_board.specs.Told.{PortValue, Story, told_word, word_in}
use Rattle.xp_board.specs.WellFormed.{WellFormed}
use Rattle.step_maker.specs.Holds.{Rests}
use Rattle.answer_laws.specs.Alone.{IsAlone}
use Rattle.table_words.specs.OldWords.{old_place}
use Rattle.table_words.specs.declared.old_words.OldWord.TheVariants.{First, Second}
use Rattle.table_law.specs.Lawful.{IsAtRest}
use Rattle.course_laws.specs.Courses.{IsOrderly}
use Rattle.course_laws.proofs.Awaiting.{alone_orderly}
use Rattle.rest_laws.specs.Resting.{AreEmpty, IsNothingLeft}
use Rattle.rest_laws.proofs.Partials.{at_rest}
use Rattle.script_law.specs.Values.{Solo}
use Rattle.solo_ports.specs.Standing.{Clean, Stands}
use Rattle.solo_ports.proofs.Pinned.{sober_kept}

-- ---- a port that is alone tells sound words
module _ (v : PortValue) (alone : IsAlone v) where
  abbrev words : Place → ℕ
  words = memory (sizes_of v.post.machine) alone.story.words

  told_is : (q : Place) → told_word v q ≡ words q
  told_is q = ap (λ (o : Option Story). word_in v.post.machine o q) alone.telling

  sound : Sound v.post.machine words (hand_of alone.story.hands)
  sound = alone.state.sound

  -- the own word k is what the vCPU last found or left there, while it runs
  pub known : (k w : ℕ) → v.post.vcpu < (sizes_of v.post.machine).vcpus → Rests v → k ≢ 4 → k ≢ 5 → ((u : Holdings) → WellFormed v.post.machine v.post.vcpu u → u ≡ v.holdings → last_since (sizes_of v.post.machine) 0 (Vcpu v.post.vcpu k) u.steps ≡ Some w) → told_word v (Vcpu v.post.vcpu k) ≡ w
  known k w real rests off4 off5 last =
      let h = hand_of alone.story.hands in
      let own = (sound.found v.post.vcpu real).own in
      let runs : words (run_of v.post.vcpu) ≡ 0 = own.run 0 (ap (λ (u : Holdings). u.run) alone.mine ∙ rests.may.running) in
      told_is (Vcpu v.post.vcpu k) ∙ own.words k w off4 off5 (λ stopped. let a = runs in let b = stopped in omega arith) (last (h v.post.vcpu) (sound.formed v.post.vcpu real) alone.mine)

  pub first_known : (w : ℕ) → v.post.vcpu < (sizes_of v.post.machine).vcpus → Rests v → v.holdings.old0 ≡ Some w → told_word v (old_place v.post.vcpu First) ≡ w
  first_known w real rests is = known 2 w real rests (λ e. absurd (omega arith)) (λ e. absurd (omega arith)) (λ u formed mine. sym formed.own.old0 ∙ ap (λ (y : Holdings). y.old0) mine ∙ is)

  pub second_known : (w : ℕ) → v.post.vcpu < (sizes_of v.post.machine).vcpus → Rests v → v.holdings.old1 ≡ Some w → told_word v (old_place v.post.vcpu Second) ≡ w
  second_known w real rests is = known 3 w real rests (λ e. absurd (omega arith)) (λ e. absurd (omega arith)) (λ u formed mine. sym formed.own.old1 ∙ ap (λ (y : Holdings). y.old1) mine ∙ is)

-- ---- at rest
module _ (v : PortValue) (x : Solo) (c : Clean v x) where
  abbrev s : Stands v x
  s = c.stands

  abbrev m : Place → ℕ
  m = words v s.alone

  own_alone : (t : ℕ) → t < (sizes_of v.post.machine).vcpus → t ≡ v.post.vcpu
  own_alone t real = let one = s.only in let mine = s.real in omega arith

  all_empty : AreEmpty v.post.machine (hand_of s.alone.story.hands)
  all_empty t real = subst (λ k. IsEmptyHand (hand_of s.alone.story.hands k)) (sym (own_alone t real)) (subst IsEmptyHand (sym s.alone.mine) s.empty)

  left_none : IsNothingLeft v.post.machine m (hand_of s.alone.story.hands)
  left_none =
      record {
        hands = all_empty;
        first = λ t real. subst (λ k. m (old0_of k) ≡ 0) (sym (own_alone t real)) (sym (told_is v s.alone (old_place v.post.vcpu First)) ∙ c.first);
        second = λ t real. subst (λ k. m (old1_of k) ≡ 0) (sym (own_alone t real)) (sym (told_is v s.alone (old_place v.post.vcpu Second)) ∙ s.second);
        unkept = λ g inside.
            sym (ap (λ (y : ℕ). (kind_fields y).kept) (told_is v s.alone (Kind g)))
            ∙ (sym (sober_kept (kind_at (told_word v) g)) ∙ (sym (ap (λ (k : KindWord). k.kept) (c.frames.kinds g inside)) ∙ s.unkept g inside));
      }

  pub clean_rests : IsAtRest v.post.machine (told_word v)
  clean_rests = subst (λ (o : Option Story). IsAtRest v.post.machine (word_in v.post.machine o)) (sym s.alone.telling) (at_rest v.post.machine m (hand_of s.alone.story.hands) s.alone.state.sound left_none)

pub clean_orderly : (v : PortValue) (x : Solo) → Clean v x → IsOrderly v.post.machine (told_word v)
clean_orderly v x c = alone_orderly v c.stands.alone
