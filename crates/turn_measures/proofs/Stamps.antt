-- No vCPU is asked to flush past a value that the clock has not come to.
use Rattle.std.proofs.Common.{◌≡◌, ◌⊎◌, ℕ, ◌<◌, ◌≤◌, ◌==◌, ◌&&◌, nat_lt, if◌then◌else◌, Bool, true, false, List, [], ◌∷◌, Option, Some, None, IsTrue, refl, sym, ap, ◌∙◌, subst, inl, inr, arith}
use Rattle.std.proofs.lemmas.Bool.{and_parts, eqb-true, not-true}
use Rattle.xp_words.specs.KindWords.{kind_fields}
use Rattle.xp_words.specs.Machine.{Machine}
use Rattle.xp_words.specs.Places.{Sizes, asked_of, memory, place_at, sizes_of}
use Rattle.xp_words.specs.RefWords.{ref_read}
use Rattle.xp_words.specs.declared.kind.KindWord.{KindWord}
use Rattle.xp_words.specs.declared.place.Place.{Place}
use Rattle.xp_words.specs.declared.place.Place.TheVariants.{Clock, Kind, Refs}
use Rattle.xp_words.specs.declared.refs.RefWord.{RefWord}
use Rattle.xp_words.specs.declared.refs.RefWord.TheVariants.{Free, Owned, Dying}
use Rattle.xp_board.specs.declared.holdings.Holdings.{Holdings}
use Rattle.xp_board.specs.declared.holdings.Made.{Made}
use Rattle.xp_board.specs.declared.step.Act.{Act}
use Rattle.xp_board.specs.declared.step.Act.TheVariants.{Load, Cas, Store, Add, Max}
use Rattle.xp_board.specs.declared.step.Mark.{Mark}
use Rattle.xp_board.specs.declared.step.StepKind.{StepKind}
use Rattle.xp_board.specs.declared.step.StepKind.TheVariants as steps
use Rattle.xp_board.specs.Acts.{left_by}
use Rattle.xp_board.specs.AskSteps.{Awaits, AwaitsFree, AwaitsFrame, MayAsk}
use Rattle.xp_board.specs.ContextSteps.{LegalContext}
use Rattle.xp_board.specs.Legal.{LegalAs}
use Rattle.xp_board.specs.Lists.{EachOf}
use Rattle.xp_board.specs.Hands.{work_on}
use Rattle.xp_board.specs.Marks.{after_mark}
use Rattle.xp_board.specs.Readings.{clock_value, free_stamp, is_free, is_free_in, kind_at, kind_stamp}
use Rattle.xp_board.specs.Sound.{Sound, hand_of, is_busy}
use Rattle.xp_board.specs.Steps.{is_at, left_of, some_before, some_step}
use Rattle.xp_board.specs.Told.{Post, PortValue, Story, is_telling, told_word, word_in}
use Rattle.xp_board.proofs.KindReadings.{busy_cases, stamp_of}
use Rattle.xp_board.proofs.Noted.{mark_steps}
use Rattle.xp_board.proofs.PlaceTests.{same_place}
use Rattle.xp_board.proofs.RefForms.{free_number}
use Rattle.xp_board.proofs.StepLists.{head_or_tail}
use Rattle.xp_board.proofs.WorkFacts.{works_facts}
use Rattle.xp_board.proofs.RefWords.{free_says}
use Rattle.step_maker.specs.Moves.{Came, Moment, Moves, Ran, hand_at}
use Rattle.step_maker.proofs.Noting.{moves_keeps}
use Rattle.step_maker.proofs.Telling.{told_elsewhere}
use Rattle.answer_laws.specs.Alone.{IsAlone}
use Rattle.answer_laws.proofs.Shared.{alone_telling}
use Rattle.vcpu_turn.proofs.Hindering.{AloneStays}
use Rattle.turn_measures.proofs.AskedOthers.{is_there, word_here}

-- ---- by kind
-- the clock does not go back
clock_least : (n : Machine) (s : ℕ) (h : Holdings) (a : Act) (mark : Option Mark) (kind : StepKind) → LegalAs n s h Clock a mark kind → (x : ℕ) → x ≤ left_by a x
unfolding left_by
clock_least n s h Load mark how legal x = omega arith
clock_least n s h (Cas e y) mark steps.Tick legal x = by (x == e) refl
  where
    by : (b : Bool) → (x == e) ≡ b → x ≤ (if b then y else x)
    by true at = let same = eqb-true x e at in let next = legal.left in omega (arith, same, next)
    by false at = omega arith
clock_least n s h (Store y) mark steps.Look legal x = absurd legal
clock_least n s h (Add y) mark steps.Look legal x = absurd legal
clock_least n s h (Max y) mark steps.Look legal x = absurd legal
clock_least n s h _ _ _ legal x = absurd legal

-- a vCPU, also the own one, is asked in no other way
abbrev Asks : Machine → ℕ → Holdings → Act → StepKind → Type 0
Asks n t h a kind = (a ≡ Load) ⊎ ((kind ≡ steps.Ask) × ((stamp : ℕ) × (a ≡ Max stamp) × MayAsk n t stamp h))

module _ (n : Machine) (s t : ℕ) (h : Holdings) where
  names_none : (new : ℕ) → LegalContext n s h (asked_of t) (Store new) → ⊥
  names_none new (inl name) = let word = name.word in cc
  names_none new (inr (inl base)) = let word = base.word in cc
  names_none new (inr (inr empty)) = let word = empty.word in cc

  asks_by : (a : Act) (mark : Option Mark) (kind : StepKind) → LegalAs n s h (asked_of t) a mark kind → Asks n t h a kind
  asks_by Load mark how legal = inl refl
  asks_by (Store new) mark steps.Context legal = absurd (names_none new legal)
  asks_by (Store new) mark steps.Ack legal = absurd (let word = legal.word in cc)
  asks_by (Store new) mark steps.Run legal = absurd (let word = legal.1 in cc)
  asks_by (Max stamp) mark steps.Ask legal = inr (refl, (stamp, refl, legal.1))
  asks_by (Cas e new) mark steps.Look legal = absurd legal
  asks_by (Add by) mark steps.Look legal = absurd legal
  asks_by _ _ _ legal = absurd legal

-- ---- what a stamp was found in
-- a step below a number that passes the test left at that place a word with that property
module _ (z : Sizes) (clock : ℕ) where
  found_most : (n : ℕ) (p : Place) (test : ℕ → Bool) (xs : List Made) → EachOf (λ x. (clock_value (place_at z x.step.place) x.found ≤ clock) × (clock_value (place_at z x.step.place) (left_of x) ≤ clock)) xs → IsTrue (some_before z n p test xs) →
      (w : ℕ) × IsTrue (test w) × (clock_value p w ≤ clock)
  unfolding EachOf some_step
  found_most n p test [] each some = absurd cc
  found_most n p test (x ∷ xs) each some =
      elim (head_or_tail (λ k y. nat_lt k n && (is_at z p y && test (left_of y))) x xs some) [
        | inl here ↦
            (let a = (and_parts _ _ here).1 in
            let b = and_parts _ _ a in
            (left_of x, b.1, subst (λ q. clock_value q (left_of x) ≤ clock) (same_place (place_at z x.step.place) p b.0) each.0.1))
        | inr there ↦ found_most n p test xs each.1 there
      ]

free_itself : (w : ℕ) (o : Option RefWord) → ref_read w ≡ o → is_free_in o ≡ true → free_stamp w ≡ w
free_itself w (Some (Free stamp)) read free = (free_says w stamp read).stamp ∙ sym (free_number w stamp read)
free_itself w (Some (Owned owner allocated count)) read free = absurd cc
free_itself w (Some (Dying owner)) read free = absurd cc
free_itself w None read free = absurd cc

module _ (n : Machine) (m : Place → ℕ) (h : ℕ → Holdings) (s : ℕ) (g : Holdings) (sound : Sound n m h) (real : s < (sizes_of n).vcpus) (works : (h s).works ≡ g.works)
    (more : (test : ℕ → Made → Bool) → IsTrue (some_step test g.steps) → IsTrue (some_step test (h s).steps)) where
  frame_most : (since v stamp : ℕ) → AwaitsFrame n since v stamp g → stamp ≤ m Clock
  frame_most since v stamp a =
      let facts = works_facts n m h s a.work.frame a.work sound real (ap (λ ws. work_on a.work.frame ws) works ∙ a.here) in
      let fields : kind_at m a.work.frame ≡ kind_fields a.work.word = ap kind_fields facts.word in
      let most = sound.stamped.kinds a.work.frame in
      let number : (kind_at m a.work.frame).number ≡ stamp = ap (λ (k : KindWord). k.number) fields ∙ a.stamped in
      by (kind_at m a.work.frame) refl most number facts.busy
    where
      by : (k : KindWord) → kind_at m a.work.frame ≡ k → kind_stamp (m (Kind a.work.frame)) ≤ m Clock → k.number ≡ stamp → is_busy k ≡ true → stamp ≤ m Clock
      by k is most number busy = elim (busy_cases k busy) [
        | inl work ↦ (let stamped = stamp_of (m (Kind a.work.frame)) k is (not-true k.validated (and_parts _ _ work.0).0) in omega (arith, stamped, most, number))
        | inr closing ↦ (let none : k.number ≡ 0 = eqb-true k.number 0 (and_parts k.validated (k.number == 0) closing.0).1 in omega (arith, none, number))
      ]

  free_most : (since stamp : ℕ) → AwaitsFree n since stamp g → stamp ≤ m Clock
  unfolding clock_value is_free
  free_most since stamp a =
      let one = found_most (sizes_of n) (m Clock) since (Refs a.frame) (λ w. is_free w && (w == stamp)) (h s).steps (sound.found s real).clock (more _ a.found) in
      let b = and_parts (is_free one.0) (one.0 == stamp) one.1 in
      let most = one.2 in
      let itself = free_itself one.0 (ref_read one.0) refl b.0 in
      let same = eqb-true one.0 stamp b.1 in
      omega (arith, most, itself, same)

  clock_most : (since stamp : ℕ) → IsTrue (some_before (sizes_of n) since Clock (λ w. w == stamp) g.steps) → stamp ≤ m Clock
  unfolding clock_value
  clock_most since stamp some =
      let one = found_most (sizes_of n) (m Clock) since Clock (λ w. w == stamp) (h s).steps (sound.found s real).clock (more _ some) in
      let same = eqb-true one.0 stamp one.1 in
      let most = one.2 in
      omega (arith, same, most)

  ask_most : (v stamp : ℕ) → MayAsk n v stamp g → stamp ≤ m Clock
  ask_most v stamp ask = by ask.awaits
    where
      by : Awaits n ask.since v stamp g → stamp ≤ m Clock
      by (inl frame) = frame_most ask.since v stamp frame
      by (inr (inl free)) = free_most ask.since stamp free
      by (inr (inr clock)) = clock_most ask.since stamp clock

-- ---- one step
same_if : (b : Bool) (x : Holdings) → (if b then x else x) ≡ x
same_if true x = refl
same_if false x = refl

works_left : (v : PortValue) (t stamp found : ℕ) (mark : Option Mark) → (hand_at v (asked_of t) (Max stamp) steps.Ask mark found).works ≡ (after_mark v.post.machine mark v.holdings).works
works_left v t stamp found mark = ap (λ (h : Holdings). h.works) (same_if (t == v.post.vcpu) (after_mark v.post.machine mark v.holdings))

asked_most : (v w : PortValue) (t stamp found : ℕ) (mark : Option Mark) → Moves v w (asked_of t) (Max stamp) steps.Ask mark found → MayAsk v.post.machine t stamp (after_mark v.post.machine mark v.holdings) → IsAlone w → stamp ≤ told_word w Clock
asked_most v w t stamp found mark m ask alone =
    let g = after_mark v.post.machine mark v.holdings in
    let same : w.post ≡ v.post = ap (λ (y : PortValue). y.post) m.to in
    let hand : hand_of alone.story.hands w.post.vcpu ≡ w.holdings = alone.mine in
    let kept = mark_steps v.post.machine mark v.holdings in
    subst (λ (o : Option Story). stamp ≤ word_in w.post.machine o Clock) (sym alone.telling)
    (ask_most w.post.machine (memory (sizes_of w.post.machine) alone.story.words) (hand_of alone.story.hands) w.post.vcpu g alone.state.sound
    (subst (λ (q : Post). q.vcpu < (sizes_of q.machine).vcpus) (sym same) m.finds.real)
    (ap (λ (h : Holdings). h.works) (hand ∙ ap (λ (y : PortValue). y.holdings) m.to) ∙ works_left v t stamp found mark)
    (λ test some.
    subst (λ (h : Holdings). IsTrue (some_step test h.steps)) (sym hand)
    (moves_keeps v w (asked_of t) (Max stamp) steps.Ask mark found m test (subst (λ xs. IsTrue (some_step test xs)) kept some)))
    t stamp (subst (λ (q : Post). MayAsk q.machine t stamp g) (sym same) ask))

module _ (v w : PortValue) (p : Place) (a : Act) (kind : StepKind) (mark : Option Mark) (found : ℕ) (m : Moves v w p a kind mark found) (alone : IsAlone v) where
  is : is_telling v ≡ true
  is = alone_telling v alone

  pub clock_on : told_word v Clock ≤ told_word w Clock
  clock_on = elim (is_there p Clock) [
    | inl at ↦
        (let here = word_here v w p a kind mark found m is Clock at in
        let legal = subst (λ q. LegalAs v.post.machine v.post.vcpu (after_mark v.post.machine mark v.holdings) q a mark kind) (sym at) m.may.act in
        let least = clock_least v.post.machine v.post.vcpu (after_mark v.post.machine mark v.holdings) a mark kind legal (told_word v Clock) in
        omega (arith, here, least))
    | inr away ↦ (let same = told_elsewhere v w p a kind mark found m Clock away in omega (arith, same))
  ]

  asked_by : (t : ℕ) → IsAlone w → asked_of t ≡ p → Asks v.post.machine t (after_mark v.post.machine mark v.holdings) a kind → told_word v (asked_of t) ≤ told_word v Clock → left_by a (told_word v (asked_of t)) ≤ told_word w Clock
  unfolding left_by
  asked_by t ended at (inl load) most = let same : left_by a (told_word v (asked_of t)) ≡ told_word v (asked_of t) = ap (λ (b : Act). left_by b (told_word v (asked_of t))) load in let on = clock_on in omega (arith, same, on, most)
  asked_by t ended at (inr asks) most =
      let stamp = asks.1.0 in
      let max_is : left_by a (told_word v (asked_of t)) ≡ left_by (Max stamp) (told_word v (asked_of t)) = ap (λ (b : Act). left_by b (told_word v (asked_of t))) asks.1.1 in
      let moves = subst (λ k. Moves v w (asked_of t) (Max stamp) k mark found) asks.0 (subst (λ b. Moves v w (asked_of t) b kind mark found) asks.1.1 (subst (λ q. Moves v w q a kind mark found) (sym at) m)) in
      let no_later = asked_most v w t stamp found mark moves asks.1.2 ended in
      let on = clock_on in
      omega (arith, max_is, no_later, on, most)

  asked_on : (t : ℕ) → IsAlone w → told_word v (asked_of t) ≤ told_word v Clock → told_word w (asked_of t) ≤ told_word w Clock
  asked_on t ended most = elim (is_there p (asked_of t)) [
    | inl at ↦
        (let here = word_here v w p a kind mark found m is (asked_of t) at in
        let legal = subst (λ q. LegalAs v.post.machine v.post.vcpu (after_mark v.post.machine mark v.holdings) q a mark kind) (sym at) m.may.act in
        let left = asked_by t ended at (asks_by v.post.machine v.post.vcpu t (after_mark v.post.machine mark v.holdings) a mark kind legal) most in
        omega (arith, here, left))
    | inr away ↦ (let same = told_elsewhere v w p a kind mark found m (asked_of t) away in let on = clock_on in omega (arith, same, on, most))
  ]

-- ---- many
module _ (stays : AloneStays) (t : ℕ) (v : PortValue) (alone : IsAlone v) (most : told_word v (asked_of t) ≤ told_word v Clock) where
  ran_asked : (w : PortValue) (ms : List Moment) → Ran v ms w → told_word w (asked_of t) ≤ told_word w Clock
  unfolding Came
  ran_asked w [] ran = subst (λ (y : PortValue). told_word y (asked_of t) ≤ told_word y Clock) (sym ran) most
  ran_asked w (m ∷ ms) ran =
      let there = stays v ran.0 alone (ms, ran.1) in
      asked_on ran.0 w m.place m.act m.kind m.mark m.found ran.2.moves there t (stays v w alone (m ∷ ms, ran)) (ran_asked ran.0 ms ran.1)

  pub asks_stay : (w : PortValue) → Came v w → told_word w (asked_of t) ≤ told_word w Clock
  unfolding Came
  asks_stay w came = ran_asked w came.0 came.1
