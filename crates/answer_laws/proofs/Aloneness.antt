-- A vCPU that is alone stays so in its own steps, and finds no frame busy.
use Rattle.std.proofs.Common.{◌≡◌, ℕ, ◌<◌, List, [], ◌∷◌, length, true, is_some, Option, Some, None, IsTrue, refl, sym, ap, ◌∙◌, subst, inl, inr, get_or-set_same}
use Rattle.std.proofs.lemmas.List.{get_or-set_other}
use Rattle.std.proofs.lemmas.Bool.{cases_eq}
use Rattle.xp_words.specs.declared.place.Place.TheVariants.{Kind}
use Rattle.xp_words.specs.Places.{sizes_of, memory}
use Rattle.xp_words.specs.declared.reply.Pause.{Pause}
use Rattle.xp_words.specs.declared.reply.Pause.TheVariants.{Due, Lost, Busy, Flush, Alive}
use Rattle.xp_words.specs.declared.reply.Stop.TheVariants.{Paused}
use Rattle.xp_board.specs.declared.holdings.Holdings.{Holdings}
use Rattle.xp_board.specs.declared.holdings.Made.{Made}
use Rattle.xp_board.specs.declared.step.Step.{Step}
use Rattle.xp_board.specs.After.{after}
use Rattle.xp_board.specs.Hands.{IsEmptyHand, empty}
use Rattle.xp_board.specs.Legal.{Legal}
use Rattle.xp_board.specs.Runs.{State, place_of, next, word_at}
use Rattle.xp_board.specs.Sound.{hand_of}
use Rattle.xp_board.specs.Told.{Post, PortValue, Story, IsTold, tells, stepped, Went, is_telling}
use Rattle.xp_board.proofs.Going.{went_post}
use Rattle.sound_rule.proofs.OwnRun.{RunsSound}
use Rattle.step_maker.specs.Moves.{Moment, Ran, Came, Met, step_at}
use Rattle.step_maker.proofs.Noting.{made_now}
use Rattle.step_maker.proofs.Telling.{moves_went}
use Rattle.step_maker.specs.Answers.{Stops}
use Rattle.step_maker.specs.Asked.{Request}
use Rattle.step_maker.specs.Finding.{FoundWith}
use Rattle.step_maker.specs.Pauses.{IsElsewhere, found_busy}
use Rattle.answer_laws.specs.Alone.{IsAlone, IsDueOrFlush}
use Rattle.answer_laws.proofs.Holding.{nobody_busies, empty_elsewhere}
use Rattle.answer_laws.proofs.Meeting.{nobody_in_the_way, none_some}

-- ---- own steps
module _ (keeps : RunsSound) where
  alone_step : (v : PortValue) (x : Step) (found : ℕ) → v.post.vcpu < (sizes_of v.post.machine).vcpus → Legal v.post.machine v.post.vcpu v.holdings x → IsTold v.post.machine v.told (place_of v.post.machine x) found →
      IsAlone v → IsAlone (stepped v x found)
  alone_step v x found real may told alone =
      let n = v.post.machine in
      let s = v.post.vcpu in
      let a = alone.story in
      let c : State = record { words = a.words; hands = a.hands } in
      let b : State = next n c s x in
      let all : IsTold n (Some a) (place_of n x) found = subst (λ (o : Option Story). IsTold n o (place_of n x) found) alone.telling told in
      let word : word_at n c (place_of n x) ≡ found = all.1 in
      let legal : Legal n s (hand_of a.hands s) x = subst (λ (h : Holdings). Legal n s h x) (sym alone.mine) may in
      let inside : s < length a.hands = subst (λ k. s < k) (sym alone.state.all_hands) real in
      record {
        story = record { opening = a.opening; log = (s, x) ∷ a.log; words = b.words; hands = b.hands };
        telling = ap (tells s x found (after n s v.holdings x found)) alone.telling ∙ (λ k. tells s x (sym word k) (after n s (sym alone.mine k) x (sym word k)) (Some a));
        state = keeps n c b ((s, x) ∷ []) (c, refl, record { vcpu = real; legal = legal; next_is = refl }) alone.state;
        mine = get_or-set_same a.hands s (after n s (hand_of a.hands s) x (word_at n c (place_of n x))) empty inside ∙ (λ k. after n s (alone.mine k) x (word k));
        others = λ t there off. subst IsEmptyHand (sym (get_or-set_other a.hands s t (after n s (hand_of a.hands s) x (word_at n c (place_of n x))) empty off)) (alone.others t there off);
      }

  alone_went : (v w : PortValue) (xs : List Made) → v.post.vcpu < (sizes_of v.post.machine).vcpus → Went v xs w → IsAlone v → IsAlone w
  alone_went v w [] real a alone = subst IsAlone (sym a) alone
  alone_went v w (x ∷ xs) real a alone =
      let there = subst (λ (q : Post). q.vcpu < (sizes_of q.machine).vcpus) (sym (went_post v a.0 xs a.1)) real in
      subst IsAlone (sym a.4) (alone_step a.0 x.step x.found there a.2 a.3 (alone_went v a.0 xs real a.1 alone))

  alone_ran : (v w : PortValue) (ms : List Moment) → Ran v ms w → IsAlone v → IsAlone w
  alone_ran v w [] a alone = subst IsAlone (sym a) alone
  alone_ran v w (m ∷ ms) a alone =
      alone_went a.0 w (made_now (step_at a.0.post.machine m.place m.act m.kind m.mark) m.found ∷ []) a.2.moves.finds.real (moves_went a.0 w m.place m.act m.kind m.mark m.found a.2.moves) (alone_ran v a.0 ms a.1 alone)

  pub alone_came : (v w : PortValue) → IsAlone v → Came v w → IsAlone w
  unfolding Came
  alone_came v w alone a = alone_ran v w a.0 a.1 alone

-- ---- frames that were found busy
abbrev pub AloneStays : Type 0
AloneStays = (v w : PortValue) → IsAlone v → Came v w → IsAlone w

-- what a vCPU that is alone does not hold it finds not busy
spared : (u : PortValue) (f x : ℕ) → IsAlone u → IsTold u.post.machine u.told (Kind f) x → IsTrue (found_busy x) → IsElsewhere f u.holdings → ⊥
spared u f x alone told busy off =
    let n = u.post.machine in
    let s = u.post.vcpu in
    let a = alone.story in
    let all : IsTold n (Some a) (Kind f) x = subst (λ (o : Option Story). IsTold n o (Kind f) x) alone.telling told in
    nobody_busies n (memory (sizes_of n) a.words) (hand_of a.hands) f alone.state.sound.alone
    (λ t real. elim (cases_eq t s) [
      | inl at ↦ subst (λ (h : Holdings). IsElsewhere f h) (sym alone.mine ∙ ap (hand_of a.hands) (sym at)) off
      | inr away ↦ empty_elsewhere f (hand_of a.hands t) (alone.others t real away)
    ])
    (subst (λ y. IsTrue (found_busy y)) (sym all.1) busy)

busy_then : AloneStays → (v w : PortValue) (f x : ℕ) (h : Holdings) → IsAlone v → FoundWith (Met v w) (Kind f) x h → IsTrue (found_busy x) → IsElsewhere f h → ⊥
busy_then stays v w f x h alone a busy off =
    let met = a.was in
    let u = met.from in
    let told = subst (λ y. IsTold u.post.machine u.told (Kind f) y) a.word (subst (λ q. IsTold u.post.machine u.told q a.moment.found) a.place met.moved.moves.told) in
    spared u f x (stays v u alone met.before) told busy (subst (λ (k : Holdings). IsElsewhere f k) (sym a.hand ∙ met.moved.hand) off)

pub never_busy : AloneStays → (v w : PortValue) (r : Request) (f x : ℕ) → IsAlone v → r.destroys ≡ None → Stops v w r (Paused (Busy f x)) → ⊥
unfolding Stops
never_busy stays v w r f x alone alive stops = by_case stops
  where
    by_case : Stops v w r (Paused (Busy f x)) → ⊥
    by_case (inl b) = busy_then stays v w f x b.2 alone b.4 b.6 b.8
    by_case (inr b) = nobody_in_the_way v.post.machine r (Met v w) f x alive b

-- ---- all pauses
abbrev pub NothingBusy : Type 0
NothingBusy = (v w : PortValue) (r : Request) (f x : ℕ) → IsAlone v → r.destroys ≡ None → Stops v w r (Paused (Busy f x)) → ⊥

abbrev pub NothingLost : Type 0
NothingLost = (v w : PortValue) (r : Request) (place e x : ℕ) → is_telling v ≡ true → Stops v w r (Paused (Lost place e x)) → ⊥

pub due_or_flush : NothingBusy → NothingLost → (v w : PortValue) (r : Request) (x : Pause) → IsAlone v → r.destroys ≡ None → Stops v w r (Paused x) → IsDueOrFlush x
unfolding Stops
due_or_flush busy lost v w r Due alone alive stops = tt
due_or_flush busy lost v w r (Flush u stamp x) alone alive stops = tt
due_or_flush busy lost v w r (Lost place e x) alone alive stops = lost v w r place e x (ap is_some alone.telling) stops
due_or_flush busy lost v w r (Busy f x) alone alive stops = busy v w r f x alone alive stops
due_or_flush busy lost v w r (Alive u x) alone alive stops = none_some r.destroys _ alive stops.0
