-- A port of the only vCPU, with nothing in hand: no frame is just being given back.
use Rattle.std.proofs.Common.{◌≡◌, ℕ, ◌+◌, ◌<◌, true, [], Option, refl, sym, ap, ◌∙◌, subst, inl, inr}
use Rattle.std.proofs.lemmas.Bool.{cases_eq}
use Rattle.xp_words.specs.Machine.{IsMachine}
use Rattle.xp_words.specs.Places.{sizes_of}
use Rattle.xp_words.specs.declared.place.Place.TheVariants.{Refs}
use Rattle.xp_board.specs.declared.holdings.Holdings.{Holdings}
use Rattle.xp_board.specs.Hands.{claims_of, endings_of}
use Rattle.xp_board.specs.Lists.{times_by}
use Rattle.xp_board.specs.Recorded.{hands}
use Rattle.xp_board.specs.Sound.{hand_of}
use Rattle.xp_board.specs.Told.{PortValue, Story, is_telling, told_word, word_in}
use Rattle.xp_board.proofs.Sums.{sum_below-none, no_bit}
use Rattle.answer_laws.proofs.Shared.{alone_telling}
use Rattle.shown_words.specs.Shown.{IsSettledRef, NoneDies, StandsAlone}

-- an empty hand has no frame that ends or was claimed
none_held : (f : ℕ) (h : Holdings) → h.ending ≡ [] → h.claimed ≡ [] → endings_of f h.ending + claims_of f h.claimed ≡ 0
unfolding times_by
none_held f h ended claimed = rw ended (rw claimed refl)

module _ (v : PortValue) (s : StandsAlone v) where
  nobody : (f t : ℕ) → t < (sizes_of v.post.machine).vcpus → endings_of f (hand_of s.alone.story.hands t).ending + claims_of f (hand_of s.alone.story.hands t).claimed ≡ 0
  nobody f t real = elim (cases_eq t v.post.vcpu) [
    | inl at ↦
        let same : hand_of s.alone.story.hands t ≡ v.holdings = ap (λ u. hand_of s.alone.story.hands u) at ∙ s.alone.mine in
        none_held f (hand_of s.alone.story.hands t) (ap (λ (h : Holdings). h.ending) same ∙ s.empty.ending) (ap (λ (h : Holdings). h.claimed) same ∙ s.empty.claimed)
    | inr off ↦ let none = s.alone.others t real off in none_held f (hand_of s.alone.story.hands t) none.ending none.claimed
  ]

  none_ends : (f : ℕ) → hands (λ u. endings_of f u.ending + claims_of f u.claimed) (sizes_of v.post.machine) (hand_of s.alone.story.hands) ≡ 0
  unfolding hands
  none_ends f = sum_below-none (sizes_of v.post.machine).vcpus (λ t. endings_of f (hand_of s.alone.story.hands t).ending + claims_of f (hand_of s.alone.story.hands t).claimed) (nobody f)

  pub stands_none : NoneDies (told_word v)
  stands_none f =
      subst (λ (o : Option Story). IsSettledRef (word_in v.post.machine o (Refs f))) (sym s.alone.telling)
      (record { small = s.alone.state.sound.spelled.small (Refs f); owned = no_bit _ (sym (s.alone.state.sound.alone.dying f) ∙ none_ends f) })

  pub stands_machine : IsMachine v.post.machine
  stands_machine = s.alone.state.sound.machine

  pub stands_telling : is_telling v ≡ true
  stands_telling = alone_telling v s.alone
