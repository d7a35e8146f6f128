-- On a board that tells all words no exchange finds another word than the vCPU's last step there left.
use Rattle.std.proofs.Common.{◌≡◌, ◌⊎◌, ℕ, ◌<◌, ◌≤◌, List, [], ◌∷◌, length, Some, sym, ap, ◌∙◌, subst, arith, inl, inr, true}
use Rattle.std.proofs.lemmas.Bool.{cases_order}
use Rattle.xp_words.specs.Places.{Sizes, number, sizes_of, place_at}
use Rattle.xp_words.specs.declared.place.Place.{Place}
use Rattle.xp_words.specs.declared.reply.Pause.TheVariants.{Lost}
use Rattle.xp_words.specs.declared.reply.Stop.TheVariants.{Paused}
use Rattle.xp_words.proofs.PlaceLaws.{place_back}
use Rattle.xp_board.specs.declared.holdings.Made.{Made}
use Rattle.xp_board.specs.declared.holdings.Holdings.{Holdings}
use Rattle.xp_board.specs.Steps.{last_since}
use Rattle.xp_board.specs.Told.{Post, PortValue, is_telling, told_word}
use Rattle.xp_board.proofs.MoreSteps.{last_since-cases, last_since-here, last_since-elsewhere, none_last}
use Rattle.step_maker.specs.Moves.{Moment, Ran, Came, step_at}
use Rattle.step_maker.proofs.Coming.{ran_post}
use Rattle.step_maker.proofs.Noting.{made_now, moves_steps}
use Rattle.step_maker.proofs.Telling.{ran_telling, told_there, told_here, told_elsewhere}
use Rattle.step_maker.specs.Answers.{Stops}
use Rattle.step_maker.specs.Asked.{Request}
use Rattle.step_maker.proofs.Shared.{ran_longer}

-- ---- the last step at a place
or_less : (k l : ℕ) → (k ≤ l) ⊎ (l < k)
or_less k l = elim (cases_order k l) [
  | inl at ↦ inl (omega (arith, at))
  | inr (inl below) ↦ inl (omega arith)
  | inr (inr above) ↦ inr above
]

-- one since a later step is one since an earlier step
last_sooner : (z : Sizes) (k n : ℕ) (p : Place) (e : ℕ) (xs : List Made) → k ≤ n → last_since z n p xs ≡ Some e → last_since z k p xs ≡ Some e
last_sooner z k n p e [] l is = absurd (none_last z n p e [] (omega arith) is)
last_sooner z k n p e (x ∷ xs) l is =
    elim (or_less n (length xs)) [
      | inr high ↦ absurd (none_last z n p e (x ∷ xs) (omega (arith, high)) is)
      | inl low ↦ elim (last_since-cases z n p e x xs is) [
        | inl here ↦ last_since-here z k p x xs (omega (arith, low, l)) here.0 ∙ ap (λ w. Some w) here.1
        | inr off ↦ last_since-elsewhere z k p x xs (omega (arith, low, l)) off.0 ∙ last_sooner z k n p e xs l off.1
      ]
    ]

-- ---- all steps of a piece

-- what the last step there left is what the board tells
told_last : (v u : PortValue) (ms : List Moment) (p : Place) (e : ℕ) → Ran v ms u → is_telling v ≡ true → last_since (sizes_of v.post.machine) (length v.holdings.steps) p u.holdings.steps ≡ Some e →
    told_word u p ≡ e
told_last v u [] p e a tells is = absurd (none_last (sizes_of v.post.machine) (length v.holdings.steps) p e u.holdings.steps (rw a (omega arith)) is)
told_last v u (m ∷ ms) p e a tells is =
    let t : PortValue = a.0 in
    let z = sizes_of v.post.machine in
    let x : Made = made_now (step_at t.post.machine m.place m.act m.kind m.mark) m.found in
    let steps : u.holdings.steps ≡ x ∷ t.holdings.steps = moves_steps t u m.place m.act m.kind m.mark m.found a.2.moves in
    let there : place_at z x.step.place ≡ m.place =
    subst (λ (q : Post). place_at (sizes_of q.machine) (number (sizes_of t.post.machine) m.place) ≡ m.place) (ran_post v t ms a.1)
    (place_back (sizes_of t.post.machine) m.place a.2.moves.may.place) in
    elim (last_since-cases z (length v.holdings.steps) p e x t.holdings.steps (subst (λ (xs : List Made). last_since z (length v.holdings.steps) p xs ≡ Some e) steps is)) [
      | inl here ↦
          subst (λ q. told_word u q ≡ e) (sym there ∙ here.0)
          (told_here t u m.place m.act m.kind m.mark m.found a.2.moves (ran_telling v t ms a.1 ∙ tells) ∙ here.1)
      | inr off ↦
          told_elsewhere t u m.place m.act m.kind m.mark m.found a.2.moves p (λ same. off.0 (there ∙ sym same)) ∙ told_last v t ms p e a.1 tells off.1
    ]

-- so no exchange is lost on a board that tells all words
pub never_lost : (v w : PortValue) (r : Request) (place e x : ℕ) → is_telling v ≡ true → Stops v w r (Paused (Lost place e x)) → ⊥
unfolding Stops Came
never_lost v w r place e x tells stops =
    let a = stops.3.0 in
    let b = a.was_before in
    let c = a.was_exchange in
    let sooner = ran_longer v b.from b.before.0 b.before.1 in
    let z = sizes_of v.post.machine in
    let last : last_since z (length a.before.hand.steps) stops.0 c.from.holdings.steps ≡ Some e =
    subst (λ (h : Holdings). last_since z (length a.before.hand.steps) stops.0 h.steps ≡ Some e) c.moved.hand a.last in
    let from_start = last_sooner z (length v.holdings.steps) (length a.before.hand.steps) stops.0 e c.from.holdings.steps
    (rw (ap (λ (h : Holdings). length h.steps) b.moved.hand) sooner) last in
    let told : told_word c.from stops.0 ≡ e = told_last v c.from c.before.0 stops.0 e c.before.1 tells from_start in
    let found : told_word c.from stops.0 ≡ x =
    subst (λ q. told_word c.from q ≡ x) a.place (told_there c.from c.to _ _ _ _ _ c.moved.moves (ran_telling v c.from c.before.0 c.before.1 ∙ tells) ∙ a.word) in
    a.other (sym found ∙ told)
