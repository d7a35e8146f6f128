-- What each act on a cell leaves, but for exchanges of another demand.
use Rattle.xp_board.specs.After.{noted, learned_cell}
use Rattle.xp_board.specs.GuestSteps.{MayStore}
use Rattle.xp_board.proofs.RefWords.{is_dying-read, dying_says}
use Rattle.xp_board.proofs.Sums.{some_bit, hands-part}
use Rattle.std.proofs.Common.{◌≡◌, ◌≢◌, ℕ, ◌+◌, ◌<◌, ◌==◌, ◌&&◌, false, Option, Some, None, refl, sym, ◌∙◌, ap, subst, arith, IsTrue, inl, inr}
use Rattle.std.proofs.lemmas.Bool.{and_parts}
use Rattle.std.proofs.lemmas.Bool.Decides.{nat_tests}
use Rattle.xp_words.specs.declared.kind.PageType.{PageType}
use Rattle.xp_words.specs.PageTypes.{is_table, type_number}
use Rattle.xp_words.specs.Machine.{Machine}
use Rattle.xp_words.specs.declared.place.Place.{Place}
use Rattle.xp_words.specs.declared.place.Place.TheVariants.{Cell, Refs}
use Rattle.xp_words.specs.Places.{sizes_of, is_place}
use Rattle.xp_board.specs.declared.holdings.Holdings.{Holdings}
use Rattle.xp_board.specs.declared.holdings.Claimed.{Claimed}
use Rattle.xp_board.specs.declared.holdings.Work.{Work}
use Rattle.xp_board.specs.declared.step.Step.{Step}
use Rattle.xp_board.specs.Readings.{kind_at, is_dying}
use Rattle.xp_board.specs.Hands.{claim_of, work_on, endings_of, claims_of}
use Rattle.xp_board.specs.Recorded.{held}
use Rattle.xp_board.specs.CellSteps.{AllowsPlain}
use Rattle.xp_board.specs.Found.{is_same_entry}
use Rattle.xp_board.specs.Reach.{Writes, Reach, cached, use_of}
use Rattle.xp_board.specs.Keeping.{MayAct}
use Rattle.xp_board.specs.Sound.{Sound, Spelled}
use Rattle.step_effects.proofs.ActEffects.{Rewrote, Filled, GuestStored, Touched}
use Rattle.xp_board.proofs.HandLists.{first-some, some_of-member}
use Rattle.count_rule.proofs.Learning.{kept_noted, kept_cell, same_hand}
use Rattle.count_rule.proofs.SpelledLaw.{wrote_spelled}
use Rattle.xp_board.proofs.EntryWords.{entry_asks_same, touched_same}
use Rattle.count_rule.proofs.WalkHands.{same_descended, cold_descended}
use Rattle.xp_board.proofs.Recordless.{marked_none, unreferenced_none}
use Rattle.xp_board.proofs.HeldByForm.{no_table}
use Rattle.count_rule.proofs.CellLaw.{cell_outcome}
use Rattle.count_rule.proofs.Outcome.{Outcome}
use Rattle.xp_board.proofs.LockFacts.{lock_facts, rewritten_same}
use Rattle.xp_board.proofs.WorkFacts.{work_word, works_facts}

not_seven : (t : PageType) → type_number t ≡ 7 → is_table t ≡ false
not_seven t e = grind (arith, nat_tests)

module _ (n : Machine) (s : ℕ) (x : Step) (m m2 : Place → ℕ) (b c : ℕ → Holdings) (vcpu : s < (sizes_of n).vcpus) (others : (t : ℕ) → t ≢ s → c t ≡ b t) (may : MayAct n s x (b s)) (sound : Sound n m b) (f i : ℕ) where
  pub rewrote_outcome : Rewrote n x f i m m2 (b s) (c s) → Outcome n m2 c
  rewrote_outcome d =
      let same = rewritten_same n m b s f i (m2 (Cell f i)) d.e (lock_facts n m b s f d.e sound vcpu d.here) d.same in
      cell_outcome n s m m2 b c vcpu others sound f i d.wrote.others (λ l. same)
      (kept_noted x (m (Cell f i)) (b s) _ (c s) d.hand (kept_cell f i (m2 (Cell f i)) (b s) (b s) (same_hand (b s)))) (d.wrote.running refl) (ap (λ u. u.cold) d.hand)
      (λ k e. ap (λ u. u.cache) d.hand ∙ e) (λ k e. ap (λ u. u.walk) d.hand ∙ e)
      (wrote_spelled n s x (Cell f i) _ m m2 (b s) d.wrote may sound.machine sound.spelled (λ by l. absurd l) (λ v l. absurd l))

  pub touched_outcome : Touched n x f i m m2 (b s) (c s) → Outcome n m2 c
  touched_outcome d =
      let same = subst (λ y. IsTrue (is_same_entry (m (Cell f i)) y)) (sym d.may.left) (touched_same d.walk (m (Cell f i))) in
      let still = (cold_descended n d.walk (m2 (Cell f i)) (b s)).cold in
      cell_outcome n s m m2 b c vcpu others sound f i d.wrote.others (λ l. sym (entry_asks_same (kind_at m f).kind i (m (Cell f i)) (m2 (Cell f i)) same))
      (kept_noted x (m (Cell f i)) (b s) _ (c s) d.hand (kept_cell f i (m2 (Cell f i)) (b s) _ (same_descended n d.walk (m2 (Cell f i)) (b s)))) (d.wrote.running refl)
      (ap (λ u. u.cold) d.hand ∙ still)
      (λ k e. let none = (sound.idle s vcpu).cold_walk k in let flying = d.may.flying in absurd (cc)) (λ k e. let flying = d.may.flying in absurd (cc))
      (wrote_spelled n s x (Cell f i) _ m m2 (b s) d.wrote may sound.machine sound.spelled (λ by l. absurd l) (λ v l. absurd l))

  -- no entry of the frame is recorded
  plain_outcome : (w : ℕ) → ((q : Place) → q ≢ Cell f i → m2 q ≡ m q) → c s ≡ noted x w (learned_cell f i (m2 (Cell f i)) (b s)) → held (sizes_of n) m b f ≡ 0 → (b s).run ≡ Some 0 → Spelled n m2 → Outcome n m2 c
  plain_outcome w words hand none running spelled =
      cell_outcome n s m m2 b c vcpu others sound f i words (λ l. absurd (omega arith))
      (kept_noted x w (b s) _ (c s) hand (kept_cell f i (m2 (Cell f i)) (b s) (b s) (same_hand (b s)))) running (ap (λ u. u.cold) hand)
      (λ k e. ap (λ u. u.cache) hand ∙ e) (λ k e. ap (λ u. u.walk) hand ∙ e) spelled

  written_none : IsTrue (is_place (sizes_of n) (Cell f i)) → MayStore f (b s) → held (sizes_of n) m b f ≡ 0
  written_none real store =
      let item = some_of-member (λ y. (y.frame == f) && y.writable) (b s).cache store.item in
      let parts = and_parts (item.0.frame == f) item.0.writable item.2 in
      let frame : item.0.frame ≡ f = grind (arith, nat_tests) in
      let purpose : use_of item.0 ≡ Writes = rw parts.1 refl in
      let reach = subst (λ y. Reach (sizes_of n) m (b s) y Writes) frame (subst (λ y. Reach (sizes_of n) m (b s) item.0.frame y) purpose (cached item.0 item.1)) in
      let fresh = sound.fresh.each s vcpu f Writes reach in
      elim (fresh.bears.typed (λ e. cc)) [
        | inl typed ↦ no_table (kind_at m f) _ (not_seven (kind_at m f).kind typed.1)
        | inr marked ↦ marked_none n m b f sound marked.0
      ]

  pub guest_outcome : GuestStored n x f i m m2 (b s) (c s) → Outcome n m2 c
  guest_outcome d =
      plain_outcome (m (Cell f i)) d.wrote.others d.hand (written_none d.wrote.real d.may) (d.wrote.running refl)
      (wrote_spelled n s x (Cell f i) _ m m2 (b s) d.wrote may sound.machine sound.spelled (λ by l. absurd l) (λ v l. absurd l))

  -- ---- a claimed frame, a descriptor page in the own work, or ordinary memory
  claimed_none : (e : Claimed) → claim_of f (b s).claimed ≡ Some e → held (sizes_of n) m b f ≡ 0
  claimed_none e here =
      let some = first-some (λ y. y.frame) f e (b s).claimed here in
      let all = sound.alone.dying f in
      let part = hands-part (λ u. endings_of f u.ending + claims_of f u.claimed) (sizes_of n) b s vcpu in
      let dying = some_bit (is_dying (m (Refs f))) (omega arith) in
      let r = is_dying-read (m (Refs f)) dying in
      unreferenced_none n m b f sound (dying_says (m (Refs f)) r.0 r.1).counts

  filled_none : (k : Option Claimed) (w : Option Work) → claim_of f (b s).claimed ≡ k → work_on f (b s).works ≡ w → AllowsPlain n f i (m2 (Cell f i)) (b s) k w → held (sizes_of n) m b f ≡ 0
  filled_none (Some e) w at on allows = claimed_none e at
  filled_none None (Some e) at on allows =
      no_table (kind_at m f) _ (ap (λ y. is_table y.kind) (work_word n m b s f e (works_facts n m b s f e sound vcpu on)) ∙ ap is_table allows.kind)
  filled_none None None at on allows =
      let kind = ((sound.found s vcpu).lives f allows.kind allows.live).1 in
      no_table (kind_at m f) _
      (elim allows.ordinary [
        | inl writable ↦ ap is_table (kind ∙ writable)
        | inr desc ↦ ap is_table (kind ∙ desc.0)
      ])

  pub filled_outcome : Filled n x f i m m2 (b s) (c s) → Outcome n m2 c
  filled_outcome d =
      plain_outcome (m (Cell f i)) d.wrote.others d.hand (filled_none _ _ refl refl d.may) (d.wrote.running refl)
      (wrote_spelled n s x (Cell f i) _ m m2 (b s) d.wrote may sound.machine sound.spelled (λ by l. absurd l) (λ v l. absurd l))
