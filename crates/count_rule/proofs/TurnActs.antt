-- The exchanges of a kind word, by their rows.
use Rattle.std.proofs.Common.{◌≡◌, ◌≢◌, ℕ, ◌+◌, ◌<◌, ◌≤◌, true, false, refl, sym, ◌∙◌, ap, subst, arith, IsTrue}
use Rattle.std.proofs.lemmas.Bool.Decides.{nat_tests}
use Rattle.xp_words.specs.declared.kind.KindWord.{KindWord}
use Rattle.xp_words.specs.KindWords.{has_form}
use Rattle.xp_words.specs.RefWords.{bit}
use Rattle.xp_words.specs.Machine.{Machine}
use Rattle.xp_words.specs.declared.place.Place.{Place}
use Rattle.xp_words.specs.declared.place.Place.TheVariants.{Clock, Kind}
use Rattle.xp_words.specs.Places.{sizes_of}
use Rattle.xp_board.specs.declared.holdings.Holdings.{Holdings}
use Rattle.xp_board.specs.declared.step.Step.{Step}
use Rattle.xp_board.specs.Lists.{EachOf}
use Rattle.xp_board.specs.Readings.{kind_at, kind_stamp, is_live}
use Rattle.xp_board.specs.Recorded.{HasType}
use Rattle.xp_board.specs.KindSteps.{KindRow, Count, Locks, Pin, Unpin, TakeBack, raised_kind, locked_kind, still_looking, after_kind_row}
use Rattle.xp_board.specs.After.{noted}
use Rattle.xp_board.specs.Keeping.{MayAct}
use Rattle.xp_board.specs.Sound.{Sound}
use Rattle.step_effects.proofs.ActEffects.{Turned}
use Rattle.count_rule.proofs.ListMoves.{cons_other, out_other, cons_here, out_here}
use Rattle.count_rule.proofs.KindForms.{Says, live_says, partial_says}
use Rattle.count_rule.proofs.KindActs.{beside, free_outcome, keeps_kind}
use Rattle.count_rule.proofs.Outcome.{Outcome}
use Rattle.xp_board.proofs.HandLists.{EachOf-without}
use Rattle.xp_board.proofs.KindForms.{form_read}
use Rattle.xp_board.proofs.HeldByForm.{held_same}
use Rattle.xp_board.proofs.KindReadings.{stamp_live}

pub left_says : (l r : KindWord) (c m b k : ℕ) → l ≡ r → Says r c m b k → Says l c m b k
left_says l r c m b k e says = subst (λ y. Says y c m b k) (sym e) says

pinned_some : (k : KindWord) → has_form k ≡ true → IsTrue (is_live k) → k.pinned ≡ true → 0 < k.number
unfolding has_form
pinned_some k form live pinned = grind (arith, nat_tests)

module _ (n : Machine) (s : ℕ) (x : Step) (m m2 : Place → ℕ) (b c : ℕ → Holdings) (vcpu : s < (sizes_of n).vcpus) (others : (t : ℕ) → t ≢ s → c t ≡ b t) (may : MayAct n s x (b s)) (sound : Sound n m b) (f : ℕ) where
  -- the hand after an exchange by that row
  abbrev pub turned_hand : KindRow → KindWord → KindWord → Holdings
  turned_hand row k l =
      noted x (m (Kind f)) (after_kind_row row f k l (m2 (Kind f)) (record (b s) { looking = still_looking f (m2 (Kind f)) (b s).looking }))

  -- a stamp that stays
  pub stamp_kept : (k l : KindWord) → kind_at m f ≡ k → kind_at m2 f ≡ l → l.number ≡ k.number → l.validated ≡ k.validated → kind_stamp (m2 (Kind f)) ≤ m Clock
  unfolding kind_stamp
  stamp_kept k l was is number valid = let old = sound.stamped.kinds f in rw (is, valid, number) (rw was at old)

  pub count_outcome : Turned n s x f Count m m2 (b s) (c s) → Outcome n m2 c
  unfolding EachOf
  count_outcome d =
      let k = d.k in
      let l = d.l in
      let u = turned_hand Count k l in
      let left = d.may.left in
      let was = live_says k (form_read _ k d.was) d.may.live d.may.counted in
      let is = live_says (raised_kind k) (ap has_form (sym left) ∙ form_read _ l d.is) d.may.live (omega arith) in
      let out = out_here (λ y. y.frame) f (b s).refs u.refs refl d.may.in_hand in
      let in_ = cons_here (λ y. y.frame) f (b s).typed u.typed _ refl refl in
      let kind : l.kind ≡ k.kind = ap (λ (y : KindWord). y.kind) left in
      free_outcome n s x m m2 b c vcpu others may sound f d.wrote u d.hand (beside n s x m m2 b c vcpu others may sound f u refl refl refl refl refl refl refl) refl
      (record {
        refs = out_other (λ y. y.frame) f (b s).refs u.refs refl;
        typed = cons_other (λ y. y.frame) f (b s).typed u.typed _ refl refl;
        locks = λ g off. refl;
      })
      k l k.number (bit k.pinned) (bit k.locked) (k.number + 1) (bit k.pinned) (bit k.locked)
      (record { was = d.fields_was; is = d.fields_is; says = was; tells = left_says l (raised_kind k) _ _ _ _ left is })
      (held_same k l kind (ap (λ (y : KindWord). y.validated) left) (ap (λ (y : KindWord). y.partial) left) (ap (λ (y : KindWord). y.progress) left)) kind
      (let z = stamp_live (m2 (Kind f)) l d.fields_is (ap (λ (y : KindWord). y.validated) left ∙ d.may.live) in omega arith)
      (omega arith) (omega arith) refl
      (λ e. (keeps_kind n s x m m2 b c vcpu others may sound f k l d.fields_was d.fields_is kind ∙ ap (λ (y : KindWord). y.kind) d.fields_was, e)) (λ e. e)

  pub lock_outcome : Turned n s x f Locks m m2 (b s) (c s) → Outcome n m2 c
  unfolding EachOf
  lock_outcome d =
      let k = d.k in
      let l = d.l in
      let u = turned_hand Locks k l in
      let left = d.may.left in
      let was = live_says k (form_read _ k d.was) d.may.live d.may.counted in
      let is = live_says (locked_kind k) (ap has_form (sym left) ∙ form_read _ l d.is) d.may.live (omega arith) in
      let out = out_here (λ y. y.frame) f (b s).refs u.refs refl d.may.in_hand in
      let in_ = cons_here (λ y. y.frame) f (b s).locks u.locks _ refl refl in
      let kind : l.kind ≡ k.kind = ap (λ (y : KindWord). y.kind) left in
      let off = ap bit d.may.unlocked in
      free_outcome n s x m m2 b c vcpu others may sound f d.wrote u d.hand (beside n s x m m2 b c vcpu others may sound f u refl refl refl refl refl refl refl) refl
      (record {
        refs = out_other (λ y. y.frame) f (b s).refs u.refs refl;
        typed = λ g off. refl;
        locks = cons_other (λ y. y.frame) f (b s).locks u.locks _ refl refl;
      })
      k l k.number (bit k.pinned) (bit k.locked) (k.number + 1) (bit k.pinned) 1
      (record { was = d.fields_was; is = d.fields_is; says = was; tells = left_says l (locked_kind k) _ _ _ _ left is })
      (held_same k l kind (ap (λ (y : KindWord). y.validated) left) (ap (λ (y : KindWord). y.partial) left) (ap (λ (y : KindWord). y.progress) left)) kind
      (let z = stamp_live (m2 (Kind f)) l d.fields_is (ap (λ (y : KindWord). y.validated) left ∙ d.may.live) in omega arith)
      (omega arith) (omega arith) (omega arith) (λ e. e)
      (λ e. (keeps_kind n s x m m2 b c vcpu others may sound f k l d.fields_was d.fields_is kind ∙ ap (λ (y : KindWord). y.kind) d.fields_was, e))

  pub pin_outcome : Turned n s x f Pin m m2 (b s) (c s) → Outcome n m2 c
  pin_outcome d =
      let k = d.k in
      let l = d.l in
      let u = turned_hand Pin k l in
      let left = d.may.left in
      let r = record k { pinned = true } in
      let was = live_says k (form_read _ k d.was) d.may.live d.may.counted in
      let is = live_says (record k { pinned = true }) (ap has_form (sym left) ∙ form_read _ l d.is) d.may.live d.may.counted in
      let out = out_here (λ y. y.frame) f (b s).typed u.typed refl d.may.in_hand in
      let kind : l.kind ≡ k.kind = ap (λ (y : KindWord). y.kind) left in
      let off = ap bit d.may.unpinned in
      free_outcome n s x m m2 b c vcpu others may sound f d.wrote u d.hand (beside n s x m m2 b c vcpu others may sound f u refl refl refl refl refl refl refl) refl
      (record {
        refs = λ g off. refl;
        typed = out_other (λ y. y.frame) f (b s).typed u.typed refl;
        locks = λ g off. refl;
      })
      k l k.number (bit k.pinned) (bit k.locked) k.number 1 (bit k.locked)
      (record { was = d.fields_was; is = d.fields_is; says = was; tells = left_says l (record k { pinned = true }) _ _ _ _ left is })
      (held_same k l kind (ap (λ (y : KindWord). y.validated) left) (ap (λ (y : KindWord). y.partial) left) (ap (λ (y : KindWord). y.progress) left)) kind
      (let z = stamp_live (m2 (Kind f)) l d.fields_is (ap (λ (y : KindWord). y.validated) left ∙ d.may.live) in omega arith)
      (omega arith) (omega arith) refl
      (λ e. EachOf-without (λ y. HasType m2 y.frame y.kind) (λ y. y.frame) f (b s).typed e) (λ e. e)

  pub unpin_outcome : Turned n s x f Unpin m m2 (b s) (c s) → Outcome n m2 c
  unfolding EachOf
  unpin_outcome d =
      let k = d.k in
      let l = d.l in
      let u = turned_hand Unpin k l in
      let left = d.may.left in
      let some = pinned_some k (form_read _ k d.was) d.may.live d.may.pinned in
      let was = live_says k (form_read _ k d.was) d.may.live some in
      let is = live_says (record k { pinned = false }) (ap has_form (sym left) ∙ form_read _ l d.is) d.may.live some in
      let in_ = cons_here (λ y. y.frame) f (b s).typed u.typed _ refl refl in
      let kind : l.kind ≡ k.kind = ap (λ (y : KindWord). y.kind) left in
      let on = ap bit d.may.pinned in
      free_outcome n s x m m2 b c vcpu others may sound f d.wrote u d.hand (beside n s x m m2 b c vcpu others may sound f u refl refl refl refl refl refl refl) refl
      (record {
        refs = λ g off. refl;
        typed = cons_other (λ y. y.frame) f (b s).typed u.typed _ refl refl;
        locks = λ g off. refl;
      })
      k l k.number (bit k.pinned) (bit k.locked) k.number 0 (bit k.locked)
      (record { was = d.fields_was; is = d.fields_is; says = was; tells = left_says l (record k { pinned = false }) _ _ _ _ left is })
      (held_same k l kind (ap (λ (y : KindWord). y.validated) left) (ap (λ (y : KindWord). y.partial) left) (ap (λ (y : KindWord). y.progress) left)) kind
      (let z = stamp_live (m2 (Kind f)) l d.fields_is (ap (λ (y : KindWord). y.validated) left ∙ d.may.live) in omega arith)
      (omega arith) (omega arith) refl
      (λ e. (keeps_kind n s x m m2 b c vcpu others may sound f k l d.fields_was d.fields_is kind ∙ ap (λ (y : KindWord). y.kind) d.fields_was, e)) (λ e. e)

  pub take_back_outcome : Turned n s x f TakeBack m m2 (b s) (c s) → Outcome n m2 c
  unfolding EachOf
  take_back_outcome d =
      let k = d.k in
      let l = d.l in
      let u = turned_hand TakeBack k l in
      let left = d.may.left in
      let was = partial_says k (form_read _ k d.was) d.may.partial in
      let is = partial_says (record k { kept = false }) (ap has_form (sym left) ∙ form_read _ l d.is) d.may.partial in
      let in_ = cons_here (λ y. y.frame) f (b s).typed u.typed _ refl refl in
      let kind : l.kind ≡ k.kind = ap (λ (y : KindWord). y.kind) left in
      let on = ap bit d.may.kept in
      free_outcome n s x m m2 b c vcpu others may sound f d.wrote u d.hand (beside n s x m m2 b c vcpu others may sound f u refl refl refl refl refl refl refl) refl
      (record {
        refs = λ g off. refl;
        typed = cons_other (λ y. y.frame) f (b s).typed u.typed _ refl refl;
        locks = λ g off. refl;
      })
      k l 1 (bit k.kept) 0 1 0 0
      (record { was = d.fields_was; is = d.fields_is; says = was; tells = left_says l (record k { kept = false }) _ _ _ _ left is })
      (held_same k l kind (ap (λ (y : KindWord). y.validated) left) (ap (λ (y : KindWord). y.partial) left) (ap (λ (y : KindWord). y.progress) left)) kind
      (stamp_kept k l d.fields_was d.fields_is (ap (λ (y : KindWord). y.number) left) (ap (λ (y : KindWord). y.validated) left))
      (omega arith) (omega arith) refl
      (λ e. (keeps_kind n s x m m2 b c vcpu others may sound f k l d.fields_was d.fields_is kind ∙ ap (λ (y : KindWord). y.kind) d.fields_was, e)) (λ e. e)
