-- A turn of a vCPU that is asked for a flush makes it.
use Rattle.std.proofs.Common.{◌≡◌, ◌≢◌, ℕ, ◌+◌, ◌<◌, ◌≤◌, ◌==◌, nat_lt, Bool, true, false, Option, Some, None, Ok, Err, IsTrue, ◌⊎◌, refl, sym, ap, ◌∙◌, subst, inl, inr, arith}
use Rattle.std.proofs.lemmas.Bool.{eq-eqb, eqb-true, ltb-true}
use Rattle.xp_words.specs.Machine.{Machine}
use Rattle.xp_words.specs.Places.{asked_of, flushed_of, sizes_of}
use Rattle.xp_words.specs.declared.place.Place.TheVariants.{Clock}
use Rattle.xp_board.specs.declared.holdings.Holdings.{Holdings}
use Rattle.xp_board.specs.declared.step.Act.{Act}
use Rattle.xp_board.specs.declared.step.Act.TheVariants.{Cas, Load, Store}
use Rattle.xp_board.specs.declared.step.Mark.{Mark}
use Rattle.xp_board.specs.declared.step.Mark.TheVariants.{Turn}
use Rattle.xp_board.specs.declared.step.StepKind.{StepKind}
use Rattle.xp_board.specs.declared.step.StepKind.TheVariants as kinds
use Rattle.xp_board.specs.Acts.{left_by}
use Rattle.xp_board.specs.Readings.{last_clock}
use Rattle.xp_board.specs.Sound.{SoundState, hand_of}
use Rattle.xp_board.specs.Steps.{EachSince, some_since}
use Rattle.xp_board.specs.Told.{Post, PortValue, Story, is_telling, told_word, word_in}
use Rattle.xp_board.proofs.MoreSteps.{since_each}
use Rattle.step_maker.specs.Moves.{Came, Moves}
use Rattle.step_maker.proofs.Coming.{came_post, came_trans, moves_came}
use Rattle.step_maker.proofs.Noting.{moves_since}
use Rattle.step_maker.proofs.Telling.{moves_telling, told_elsewhere, told_here, told_there}
use Rattle.answer_laws.specs.Alone.{IsAlone}
use Rattle.answer_laws.proofs.Shared.{alone_telling}
use Rattle.flush_words.specs.Flushing.{FlushesOwn}
use Rattle.flush_words.proofs.Flushed.{own_flushed}
use Rattle.flush_words.proofs.FlushTwin.{own_refused, own_ticked}
use Rattle.flush_words.proofs.Lasting.{came_keeps}
use Rattle.tlb_walks.specs.Dropping.{Acks, Heeds}

-- ---- what is sound of the own flush
module _ (n : Machine) (s t : ℕ) (o : Option Story) (h : Holdings) (story : Story) (is : o ≡ Some story) (state : SoundState n story.words story.hands) where
  flushed_most : word_in n o (flushed_of t) ≤ word_in n o Clock
  flushed_most = subst (λ (p : Option Story). word_in n p (flushed_of t) ≤ word_in n p Clock) (sym is) (state.sound.stamped.flushed t)

  flushed_each : hand_of story.hands s ≡ h → s < (sizes_of n).vcpus → EachSince (sizes_of n) 0 (flushed_of t) (λ x. x ≤ word_in n o (flushed_of t)) h.steps
  flushed_each mine real =
      subst (λ (p : Option Story). EachSince (sizes_of n) 0 (flushed_of t) (λ x. x ≤ word_in n p (flushed_of t)) h.steps) (sym is)
      (subst (λ (k : Holdings). EachSince (sizes_of n) 0 (flushed_of t) (λ x. x ≤ word_in n (Some story) (flushed_of t)) k.steps) mine ((state.sound.found s real).flushed t))

pub flushed_by_clock : (w : PortValue) (t : ℕ) → IsAlone w → told_word w (flushed_of t) ≤ told_word w Clock
flushed_by_clock w t alone = flushed_most w.post.machine w.post.vcpu t w.told w.holdings alone.story alone.telling alone.state

-- the word to which a vCPU is flushed is at least what a step of the own found or left there
module _ (a u w : PortValue) (t : ℕ) (act : Act) (kind : StepKind) (mark : Option Mark) (found : ℕ) (m : Moves a u (flushed_of t) act kind mark found) (came : Came u w) (alone : IsAlone w) where
  same_post : w.post ≡ a.post
  same_post = came_post a w (came_trans a u w (moves_came a u (flushed_of t) act kind mark found m) came)

  left_stays : left_by act found ≤ told_word w (flushed_of t)
  left_stays =
      let n = w.post.machine in
      let each = flushed_each n w.post.vcpu t w.told w.holdings alone.story alone.telling alone.state alone.mine (subst (λ (q : Post). q.vcpu < (sizes_of q.machine).vcpus) (sym same_post) m.finds.real) in
      let some = came_keeps u w _ came (moves_since a u (flushed_of t) act kind mark found m 0 (λ x. x == left_by act found) (omega arith) (eq-eqb _ _ refl)) in
      since_each (sizes_of n) 0 (flushed_of t) (λ x. x == left_by act found) (λ x. x ≤ told_word w (flushed_of t)) (left_by act found ≤ told_word w (flushed_of t)) w.holdings.steps each
      (subst (λ (q : Post). IsTrue (some_since (sizes_of q.machine) 0 (flushed_of t) (λ x. x == left_by act found) w.holdings.steps)) (sym same_post) some)
      (λ x at most. let same = eqb-true x (left_by act found) at in omega (arith, same, most))

  pub flushed_stays : is_telling a ≡ true → told_word u (flushed_of t) ≤ told_word w (flushed_of t)
  flushed_stays is = let here = told_here a u (flushed_of t) act kind mark found m is in let least = left_stays in omega (arith, here, least)

-- ---- a turn begins
module _ (v w : PortValue) (alone : IsAlone v) (acks : Acks v w) where
  is : is_telling v ≡ true
  is = alone_telling v alone

  marked_is : is_telling acks.a ≡ true
  marked_is = moves_telling v acks.a (asked_of v.post.vcpu) Load kinds.Look (Some Turn) acks.asked acks.marked ∙ is

  looked_is : is_telling acks.b ≡ true
  looked_is = moves_telling acks.a acks.b (flushed_of v.post.vcpu) Load kinds.Look None acks.flushed acks.looked ∙ marked_is

  looked_came : Came v acks.b
  looked_came = came_trans v acks.a acks.b (moves_came v acks.a (asked_of v.post.vcpu) Load kinds.Look (Some Turn) acks.asked acks.marked) (moves_came acks.a acks.b (flushed_of v.post.vcpu) Load kinds.Look None acks.flushed acks.looked)

  asked_word : told_word v (asked_of v.post.vcpu) ≡ acks.asked
  asked_word = told_there v acks.a (asked_of v.post.vcpu) Load kinds.Look (Some Turn) acks.asked acks.marked is

  flushed_word : told_word v (flushed_of v.post.vcpu) ≡ acks.flushed
  flushed_word =
      sym (told_elsewhere v acks.a (asked_of v.post.vcpu) Load kinds.Look (Some Turn) acks.asked acks.marked (flushed_of v.post.vcpu) (λ e. cc))
      ∙ told_there acks.a acks.b (flushed_of v.post.vcpu) Load kinds.Look None acks.flushed acks.looked marked_is

  clock_word : told_word acks.b Clock ≡ told_word v Clock
  clock_word =
      told_elsewhere acks.a acks.b (flushed_of v.post.vcpu) Load kinds.Look None acks.flushed acks.looked Clock (λ e. cc)
      ∙ told_elsewhere v acks.a (asked_of v.post.vcpu) Load kinds.Look (Some Turn) acks.asked acks.marked Clock (λ e. cc)

  -- the flush is not asked for, or made
  module _ (goes : told_word v Clock ≢ last_clock) (x : PortValue) (came : Came w x) (ended : IsAlone x) where
    ticked : FlushesOwn acks.b w (Ok tt) → told_word v Clock < told_word x (flushed_of v.post.vcpu)
    ticked flushes =
        let f = own_flushed acks.b w flushes in
        let t = own_ticked acks.b w looked_is flushes in
        let own : acks.b.post.vcpu ≡ v.post.vcpu = ap (λ (q : Post). q.vcpu) (came_post v acks.b looked_came) in
        let exchanged = moves_telling f.loaded f.exchanged Clock (Cas f.clock (f.clock + 1)) kinds.Tick None f.found f.tick ∙ moves_telling acks.b f.loaded Clock Load kinds.Look None f.clock f.look ∙ looked_is in
        let stays = flushed_stays f.exchanged w x acks.b.post.vcpu (Store f.to) kinds.Ack None f.before f.ack came ended exchanged in
        let now = t.flushed in
        let clock = clock_word in
        let there = ap (λ i. told_word x (flushed_of i)) own in
        omega (arith, stays, now, clock, there)

    abbrev Heeded : Type 0
    Heeded = ((acks.asked < acks.flushed) × (acks.asked < told_word x (flushed_of v.post.vcpu))) ⊎ (told_word v Clock < told_word x (flushed_of v.post.vcpu))

    heeded : (b : Bool) → nat_lt acks.asked acks.flushed ≡ b → Heeds b acks.b w → Heeded
    unfolding left_by
    heeded true less same =
        let stays = flushed_stays acks.a acks.b x v.post.vcpu Load kinds.Look None acks.flushed acks.looked (subst (λ y. Came y x) same came) ended marked_is in
        let here = told_here acks.a acks.b (flushed_of v.post.vcpu) Load kinds.Look None acks.flushed acks.looked marked_is in
        let past = ltb-true acks.asked acks.flushed less in
        inl (past, omega (arith, stays, here, past))
    heeded false less (Ok tt, flushes) = inr (ticked flushes)
    heeded false less (Err e, flushes) = absurd (goes (sym clock_word ∙ (own_refused acks.b w e looked_is flushes).0))

    heeds : Heeded
    heeds = heeded (nat_lt acks.asked acks.flushed) refl acks.heeds

    pub acks_tick : told_word v (flushed_of v.post.vcpu) ≤ told_word v (asked_of v.post.vcpu) → told_word v Clock < told_word x Clock
    acks_tick behind =
        let asked = asked_word in
        let flushed = flushed_word in
        let most = flushed_by_clock x v.post.vcpu ended in
        elim heeds [
          | inl past ↦ (let is_past = past.0 in absurd (omega (arith, asked, flushed, is_past, behind)))
          | inr past ↦ omega (arith, past, most)
        ]

    pub acks_flush : told_word v (asked_of v.post.vcpu) ≤ told_word v Clock → told_word v (asked_of v.post.vcpu) < told_word x (flushed_of v.post.vcpu)
    acks_flush most =
        let asked = asked_word in
        elim heeds [
          | inl past ↦ (let is_past = past.1 in omega (arith, asked, is_past))
          | inr past ↦ omega (arith, past, most)
        ]
