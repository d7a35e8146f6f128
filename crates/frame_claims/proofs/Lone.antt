-- A vCPU that is alone and holds nothing: the map of free frames has the bits of the free frames, and no exchange of a claim is lost.
use Rattle.std.proofs.Common.{◌≡◌, ℕ, ◌^◌, ◌<◌, true, [], is_some, Option, Result, Ok, Err, refl, sym, ap, ◌∙◌, subst, inl, inr, arith}
use Rattle.std.proofs.lemmas.Bool.{cases_eq}
use Rattle.xp_words.specs.Places.{sizes_of}
use Rattle.xp_words.specs.declared.place.Place.TheVariants.{Map, Refs}
use Rattle.xp_words.specs.declared.reply.Stop.{Stop}
use Rattle.xp_board.specs.declared.holdings.Holdings.{Holdings}
use Rattle.xp_board.specs.Hands.{IsEmptyHand}
use Rattle.xp_board.specs.Lists.{times, times_by}
use Rattle.xp_board.specs.Readings.{is_free}
use Rattle.xp_board.specs.Recorded.{hands}
use Rattle.xp_board.specs.Sound.{hand_of, is_hinted}
use Rattle.xp_board.specs.Told.{PortValue, Story, is_telling, told_word, word_in}
use Rattle.xp_board.proofs.Sums.{sum_below-none, same_bit}
use Rattle.step_maker.specs.Asked.{Request, of_block}
use Rattle.step_maker.specs.Visits.{Does}
use Rattle.answer_laws.specs.Alone.{IsAlone}
use Rattle.answer_laws.proofs.NothingLost.{never_lost}
use Rattle.frame_claims.specs.Blocks.{IsBlockSize}
use Rattle.frame_claims.specs.Claiming.{StopsClaim}
use Rattle.frame_claims.specs.Found.{ClaimsBy}
use Rattle.frame_claims.specs.Plain.{ClaimsPlainly, MapAgrees, ref_looks}
use Rattle.frame_claims.proofs.Outcomes.{NeverLost, claim_had, claim_stops}
use Rattle.frame_claims.proofs.Telling.{does_holds, does_told}

no_times : (f : ℕ) (h : Holdings) → h.raised ≡ [] → times f h.raised ≡ 0
unfolding times_by
no_times f h none = rw none refl

module _ (v : PortValue) (alone : IsAlone v) (empty : IsEmptyHand v.holdings) where
  pub tells : is_telling v ≡ true
  tells = ap (λ (o : Option Story). is_some o) alone.telling

  nobody : (f s : ℕ) → s < (sizes_of v.post.machine).vcpus → times f (hand_of alone.story.hands s).raised ≡ 0
  nobody f s real = elim (cases_eq s v.post.vcpu) [
    | inl at ↦ no_times f (hand_of alone.story.hands s) (ap (λ t. (hand_of alone.story.hands t).raised) at ∙ ap (λ (h : Holdings). h.raised) alone.mine ∙ empty.raised)
    | inr off ↦ no_times f (hand_of alone.story.hands s) (alone.others s real off).raised
  ]

  none_raised : (f : ℕ) → hands (λ u. times f u.raised) (sizes_of v.post.machine) (hand_of alone.story.hands) ≡ 0
  unfolding hands
  none_raised f = sum_below-none (sizes_of v.post.machine).vcpus (λ s. times f (hand_of alone.story.hands s).raised) (nobody f)

  pub lone_agrees : MapAgrees v.post.machine (told_word v)
  lone_agrees f low =
      subst (λ (o : Option Story). is_hinted (word_in v.post.machine o) f ≡ is_free (word_in v.post.machine o (Refs f))) (sym alone.telling)
      (same_bit _ _ (let bits = alone.state.sound.map.bits f low in let none = none_raised f in omega (arith, bits, none)))

  pub lone_small : (w : ℕ) → told_word v (Map w) < 2 ^ 64
  lone_small w = subst (λ (o : Option Story). word_in v.post.machine o (Map w) < 2 ^ 64) (sym alone.telling) (alone.state.sound.spelled.small (Map w))

  module _ (w : PortValue) (d k : ℕ) (size : IsBlockSize k) (g : Option ℕ) where
    -- a call that may take any frame, in blocks of k
    any_block : Request
    any_block = record (of_block 0 k 0) { names = λ f. true }

    pub never_lost_here : (e : Stop) → StopsClaim v w k e → NeverLost e
    unfolding any_block
    never_lost_here e stops place s x is =
        let all = subst (StopsClaim v w k) is stops in
        never_lost v w any_block place s x tells (all.2 any_block (record { asks = record { number = k; pages = refl; names = λ f a b. refl }; block = refl }) (omega arith))

    pub lone_bound : (f : ℕ) → Does v w (λ vs. ClaimsBy v.post d k g (Ok f) vs) → Does v w (λ vs. ref_looks vs ≡ k)
    lone_bound f does = does_told v w (λ vs. ClaimsBy v.post d k g (Ok f) vs) (λ vs. ref_looks vs ≡ k) tells (λ vs told t. (claim_had v.post (told_word v) lone_agrees lone_small d k size g f vs told t).0) does

    pub lone_had : (f : ℕ) → Does v w (λ vs. ClaimsBy v.post d k g (Ok f) vs) → ClaimsPlainly v.post.machine (told_word v) d k (Ok f)
    lone_had f does = does_holds v w (λ vs. ClaimsBy v.post d k g (Ok f) vs) (ClaimsPlainly v.post.machine (told_word v) d k (Ok f)) tells (λ vs told t. (claim_had v.post (told_word v) lone_agrees lone_small d k size g f vs told t).1) does

    pub lone_stops : (e : Stop) → StopsClaim v w k e → Does v w (λ vs. ClaimsBy v.post d k g (Err e) vs) → ClaimsPlainly v.post.machine (told_word v) d k (Err e)
    lone_stops e stops does =
        does_holds v w (λ vs. ClaimsBy v.post d k g (Err e) vs) (ClaimsPlainly v.post.machine (told_word v) d k (Err e)) tells
        (λ vs told t. claim_stops v.post (told_word v) lone_agrees lone_small d k size g e vs (never_lost_here e stops) told t) does

    -- as it is answered
    pub lone_answer : (answer : Result ℕ Stop) (e : Stop) → answer ≡ Err e → StopsClaim v w k e → Does v w (λ vs. ClaimsBy v.post d k g answer vs) → ClaimsPlainly v.post.machine (told_word v) d k answer
    lone_answer answer e is stops does = subst (ClaimsPlainly v.post.machine (told_word v) d k) (sym is) (lone_stops e stops (subst (λ a. Does v w (λ vs. ClaimsBy v.post d k g a vs)) is does))
