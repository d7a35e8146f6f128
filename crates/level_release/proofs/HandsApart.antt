-- The tables in the own works are of different frames, and no lock or claim is one of them: any sound state says so.
use Rattle.std.proofs.Common.{◌≡◌, ◌≢◌, ℕ, ◌+◌, ◌<◌, ◌≤◌, true, false, List, [], ◌∷◌, ◌++◌, Option, Some, None, IsTrue, refl, sym, ap, ◌∙◌, subst, arith, inl, inr}
use Rattle.std.proofs.lemmas.Bool.Decides.{nat_tests}
use Rattle.xp_words.specs.KindWords.{has_form}
use Rattle.xp_words.specs.Machine.{Machine}
use Rattle.xp_words.specs.Places.{Sizes, is_place, sizes_of}
use Rattle.xp_words.specs.declared.kind.KindWord.{KindWord}
use Rattle.xp_words.specs.declared.place.Place.{Place}
use Rattle.xp_words.specs.declared.place.Place.TheVariants.{Kind, Refs}
use Rattle.xp_board.specs.After.{learned_cell, learned_claim, learned_lock, learned_work}
use Rattle.xp_board.specs.Hands.{changed_claim, changed_lock, changed_work, claim_of, claims_of, endings_of, lock_on, locks_on, refs_to, work_on, works_on}
use Rattle.xp_board.specs.Lists.{first_by}
use Rattle.xp_board.specs.Readings.{is_closing, is_locked, kind_at, ref_count}
use Rattle.xp_board.specs.Sound.{is_busy}
use Rattle.xp_board.specs.Spelling.{IsSpelling}
use Rattle.xp_board.specs.Told.{Finds, PortValue}
use Rattle.xp_board.specs.declared.holdings.Claimed.{Claimed}
use Rattle.xp_board.specs.declared.holdings.Holdings.{Holdings}
use Rattle.xp_board.specs.declared.holdings.Lock.{Lock}
use Rattle.xp_board.specs.declared.holdings.Work.{Work}
use Rattle.xp_board.proofs.Counted.{in_hand_counted, type_below}
use Rattle.xp_board.proofs.KindForms.{spelled_form}
use Rattle.xp_board.proofs.KindReadings.{busy_forms, work_count}
use Rattle.xp_board.proofs.ListCounts.{first_by-cons_here, first_by-none, times_by-cons, times_by-cons_here}
use Rattle.xp_board.proofs.WorkFacts.{Works, work_word, works_facts}
use Rattle.xp_board.proofs.Works.{counted_alive, nobody_locks, one_works}
use Rattle.step_maker.specs.Moves.{Moment, MovesBy, Ran}
use Rattle.step_maker.specs.Visits.{Does, Visit, visits}
use Rattle.frame_words.proofs.CellSteps.{learned_apart}
use Rattle.partial_state.specs.declared.stack.TableWork.{TableWork}
use Rattle.level_release.specs.Holding.{AreInRelease}
use Rattle.level_release.proofs.HandsKnown.{AreApart}

-- ---- what the first step shows of the hand before it
pub record FirstFound (v : PortValue) : Type 0 where
  pub place : Place
  pub word : ℕ
  pub finds : Finds v.post.machine v.post.vcpu v.holdings place word

first_by_ran : {v : PortValue} (x y : PortValue) (ms : List Moment) → Ran v ms x → (m : Moment) → MovesBy x y m → FirstFound v
first_by_ran x y [] ran m moves = subst (λ (q : PortValue). FirstFound q) ran (record { place = m.place; word = m.found; finds = moves.moves.finds })
first_by_ran {v} x y (k ∷ ks) ran m moves = first_by_ran ran.0 x ks ran.1 k ran.2

first_of_some : {v : PortValue} (w : PortValue) (ms : List Moment) → Ran v ms w → visits ms ≢ [] → FirstFound v
first_of_some w [] ran some = absurd (some refl)
first_of_some {v} w (m ∷ ms) ran some = first_by_ran ran.0 w ms ran.1 m ran.2

pub does_first : {v : PortValue} (w : PortValue) (P : List Visit → Type 0) → Does v w P → ((vs : List Visit) → P vs → vs ≢ []) → FirstFound v
unfolding Does
does_first {v} w P does some = first_of_some w does.0 does.1 (some (visits does.0) does.2)

pub list_some : {A : Type 0} (xs : List A) (y : A) {zs : List A} → zs ≡ xs ++ (y ∷ []) → zs ≢ []
list_some [] y is none = let k : y ∷ [] ≡ [] = sym is ∙ none in cc
list_some (x ∷ xs) y is none = let k : x ∷ (xs ++ (y ∷ [])) ≡ [] = sym is ∙ none in cc

busy_unlocked : (k : KindWord) → has_form k ≡ true → is_busy k ≡ true → is_locked k ≡ false
unfolding has_form
busy_unlocked k form busy = grind (arith, nat_tests)

no_claims : (a : ℕ) {b : ℕ} → a + b ≡ 0 → b ≡ 0
no_claims a none = omega arith

-- ---- different frames
pub tables_apart : (z : Sizes) (made : ℕ) (inner : Option TableWork) (f : ℕ) (ts : List TableWork) (es : List Work) → AreInRelease z made inner ts es → works_on f es ≡ 0 → AreApart f ts
tables_apart z made inner f [] es are none = tt
tables_apart z made inner f (t ∷ ts) [] are none = absurd are
tables_apart z made inner f (t ∷ ts) (e ∷ es) are none = (
  λ same. absurd (let more = times_by-cons_here (λ (y : Work). y.frame) f e es (are.0.frame ∙ same) in omega (arith, more, none)),
  tables_apart z made (Some t) f ts es are.2 (let more = times_by-cons (λ (y : Work). y.frame) f e es in omega (arith, more, none)),
)

module _ {n : Machine} {s : ℕ} {h : Holdings} {p : Place} {w : ℕ} (finds : Finds n s h p w) {f : ℕ} {e : Work} {es : List Work} (are : h.works ≡ e ∷ es) (at : e.frame ≡ f) where
  once : works_on f h.works ≤ 1
  once = subst (λ (u : Holdings). works_on f u.works ≤ 1) finds.mine (one_works n finds.words finds.hands finds.sound.alone f s finds.real)

  -- the frame of the newest work is that of no other one
  pub others_apart : works_on f es ≡ 0
  others_apart =
      let more = ap (λ xs. works_on f xs) are ∙ times_by-cons_here (λ (y : Work). y.frame) f e es at in
      let one = once in
      omega (arith, more, one)

  pub none_else : work_on f es ≡ None
  none_else = first_by-none (λ (y : Work). y.frame) f es others_apart

  here : work_on f (finds.hands s).works ≡ Some e
  here = ap (λ (u : Holdings). work_on f u.works) finds.mine ∙ ap (λ xs. work_on f xs) are ∙ first_by-cons_here (λ (y : Work). y.frame) f e es at

  pub facts : Works n finds.words finds.hands s f e
  facts = works_facts n finds.words finds.hands s f e finds.sound finds.real here

  -- ---- no lock and no claim
  module _ (inside : f < n.frames) where
    not_locked : is_locked (kind_at finds.words f) ≡ false
    unfolding IsSpelling is_place
    not_locked =
        let there : IsTrue (is_place (sizes_of n) (Kind f)) = grind (arith, nat_tests) in
        busy_unlocked (kind_at finds.words f) (spelled_form n (finds.words (Kind f)) (finds.sound.spelled.spelled (Kind f) there)) facts.busy

    no_lock : lock_on f h.locks ≡ None
    no_lock =
        first_by-none (λ (y : Lock). y.frame) f h.locks
        (subst (λ (u : Holdings). locks_on f u.locks ≡ 0) finds.mine (nobody_locks n finds.words finds.hands finds.sound.alone f not_locked s finds.real))

    counted : 0 < ref_count (finds.words (Refs f))
    counted =
        elim (busy_forms (kind_at finds.words f) facts.busy) [
          | inl work ↦
              let one = work_count (kind_at finds.words f) work in
              let low = type_below (sizes_of n) finds.words finds.hands f finds.sound.counts in
              omega (arith, one, low)
          | inr closing ↦
              let low =
              in_hand_counted (sizes_of n) finds.words finds.hands s f finds.real finds.sound.counts
              (subst (λ g. 0 < refs_to g (finds.hands s).refs) facts.frame (facts.agrees.closing (subst (λ k. IsTrue (is_closing k)) (work_word n finds.words finds.hands s f e facts) closing))) in
              omega (arith, low)
        ]

    no_claim : claim_of f h.claimed ≡ None
    no_claim =
        first_by-none (λ (y : Claimed). y.frame) f h.claimed (subst (λ (u : Holdings). claims_of f u.claimed ≡ 0) finds.mine
        (no_claims (endings_of f (finds.hands s).ending) (counted_alive n finds.words finds.hands finds.sound.alone f s finds.real counted)))

    bare : Holdings
    bare = record h { works = [] }

    nothing_learned : (i word : ℕ) → learned_cell f i word bare ≡ bare
    unfolding bare first_by
    nothing_learned i word = learned_apart f i word bare (record { works = refl; locks = no_lock; claimed = no_claim })

    locks_are : (i word : ℕ) → changed_lock f (learned_lock i word) h.locks ≡ h.locks
    unfolding bare
    locks_are i word = ap (λ (k : Holdings). k.locks) (nothing_learned i word)

    claims_are : (i word : ℕ) → changed_claim f (learned_claim i word) h.claimed ≡ h.claimed
    unfolding bare
    claims_are i word = ap (λ (k : Holdings). k.claimed) (nothing_learned i word)

    -- a look at one of its entries changes nothing but what is known of that frame
    pub looked_apart : (i word : ℕ) → learned_cell f i word h ≡ record h { works = changed_work f (learned_work i word) h.works }
    looked_apart i word =
        ap (λ ls. record h { works = changed_work f (learned_work i word) h.works; locks = ls; claimed = changed_claim f (learned_claim i word) h.claimed }) (locks_are i word)
        ∙ ap (λ cs. record h { works = changed_work f (learned_work i word) h.works; claimed = cs }) (claims_are i word)
