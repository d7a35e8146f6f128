-- The own entry lock goes off a table: what is in hand behind each step, and that these serve.
use Rattle.std.proofs.Common.{◌≡◌, ℕ, ◌+◌, ◌-◌, ◌<◌, ◌≤◌, ◌==◌, true, false, List, [], ◌∷◌, length, Some, None, IsTrue, refl, sym, ap, ◌∙◌, subst, arith, inl, inr}
use Rattle.std.proofs.lemmas.Bool.Decides.{nat_tests}
use Rattle.xp_words.specs.KindWords.{is_kind, kind_fields, kind_write}
use Rattle.xp_words.specs.declared.kind.KindWord.{KindWord}
use Rattle.xp_words.specs.declared.place.Place.TheVariants.{Kind}
use Rattle.xp_board.specs.declared.holdings.Holdings.{Holdings}
use Rattle.xp_board.specs.declared.holdings.Liveness.TheVariants as lives
use Rattle.xp_board.specs.declared.holdings.Lock.{Lock}
use Rattle.xp_board.specs.declared.holdings.Reference.{Reference}
use Rattle.xp_board.specs.declared.holdings.TypedReference.{TypedReference}
use Rattle.xp_board.specs.declared.holdings.Work.{Work}
use Rattle.xp_board.specs.declared.step.Act.TheVariants.{Store}
use Rattle.xp_board.specs.declared.step.StepKind.TheVariants as kinds
use Rattle.xp_board.specs.Acts.{left_by}
use Rattle.xp_board.specs.Hands.{lock_owner, ref_owner, refs_to, typed_to, without_lock, without_ref, without_work, work_on}
use Rattle.xp_board.specs.Readings.{is_closing, is_live}
use Rattle.xp_board.specs.Told.{Post, PortValue}
use Rattle.xp_board.proofs.KindForms.{fields_unlocked}
use Rattle.xp_board.proofs.ListCounts.{first_by-cons_here, newest_held}
use Rattle.step_maker.specs.Holds.{Holds, still}
use Rattle.step_maker.specs.Moves.{Moves}
use Rattle.frame_words.specs.Freeing.{gave}
use Rattle.frame_words.specs.Refs.{MayPut}
use Rattle.kind_words.specs.Kinds.{MayLeave, left, partial_kind}
use Rattle.kind_words.proofs.KindFacts.{kind_found}
use Rattle.kind_words.proofs.KindHands.{apart_spares, typed_held}
use Rattle.kind_words.proofs.KindWriting.{partial_is}
use Rattle.kind_words.proofs.Leaving.{left_partial_closing, may_leave_partial, without_newest}
use Rattle.entry_locks.specs.Locks.{Unlocks, closing_unlocked}
use Rattle.partial_state.specs.Levels.{level_type}
use Rattle.partial_state.proofs.LevelFacts.{level_type-table, level_type-typed}
use Rattle.table_words.specs.OldWords.{kept_in_old, old_place}
use Rattle.table_words.specs.declared.old_words.OldWord.TheVariants.{Second}
use Rattle.entry_exchange.specs.Course.{last, shared}
use Rattle.entry_exchange.specs.Holding.{HoldsLockOf}
use Rattle.entry_exchange.specs.Parts.{LockLeft}
use Rattle.entry_exchange.proofs.ServesGiving.{named_serves}
use Rattle.step_maker.specs.Answers.{Serves}
use Rattle.step_maker.specs.Asked.{of_back}
use Rattle.step_maker.proofs.Piecing.{serves_came, serves_then}
use Rattle.table_entries.specs.Acquiring.{GaveRef}

-- without its last type count a live table is closing
closes : (k : KindWord) → IsTrue (is_live k) → (k.number == 1) ≡ true → IsTrue (is_closing (record k { number = k.number - 1; locked = false }))
closes k live one =
    let n : k.number ≡ 1 = grind (arith, nat_tests) in
    let none : (k.number - 1 == 0) ≡ true = grind (arith, nat_tests) in
    rw (none, live) refl

module _ {v : PortValue} {f level : ℕ} (locked : HoldsLockOf v f level) where
  abbrev off_it : Holdings
  off_it = record v.holdings { locks = without_lock f v.holdings.locks }

  abbrev lock_ref : Reference
  lock_ref = record { frame = f; owner = lock_owner f v.holdings }

  -- ---- other type counts are left
  module _ {u : PortValue} (unlocks : Unlocks v u f false) where
    pub may_put : MayPut f u.holdings
    may_put =
        record {
          held = subst (λ (rs : List Reference). 0 < refs_to f rs) (sym (ap (λ (q : PortValue). q.holdings.refs) unlocks.hand)) (newest_held f lock_ref v.holdings.refs refl);
          spares = apart_spares f u.holdings (ap (λ (q : PortValue). work_on f q.holdings.works) unlocks.hand ∙ unlocks.unlocks.apart);
        }

    pub shared_left : {w : PortValue} → Serves v u (of_back f) [] → Serves u w (of_back f) [] → Holds u w (gave f u.holdings) → GaveRef u w f → LockLeft v w f level
    shared_left {w} off gives put gave_ref =
        let both = serves_then v u w (of_back f) [] [] off gives in
        record {
          came = serves_came v w (of_back f) [] both;
          serves = both;
          hand = inl (
              put ∙ ap (λ (q : PortValue). still (record q { holdings = gave f q.holdings })) unlocks.hand
              ∙ ap (λ (rs : List Reference). still (record v { holdings = record off_it { refs = rs } }))
              (without_newest (λ (y : Reference). y.frame) f lock_ref v.holdings.refs (lock_ref ∷ v.holdings.refs) refl refl)
              );
          course = shared u w unlocks gave_ref;
        }

  -- ---- it was the last one: the table is closing in the hand
  module _ {u : PortValue} (frame : f < v.post.machine.frames) (low : 1 ≤ level) (unlocks : Unlocks v u f true) where
    abbrev closing : Work
    closing = closing_unlocked f unlocks.found v.holdings

    abbrev mark : KindWord
    mark = partial_kind (level_type level) false false 512 0

    fields : kind_fields closing.word ≡ record (kind_fields unlocks.found) { number = (kind_fields unlocks.found).number - 1; locked = false }
    unfolding left_by
    fields =
        fields_unlocked unlocks.found (kind_found v.post.machine v.post.vcpu v.holdings f unlocks.found frame unlocks.unlocks.step.finds).small unlocks.unlocks.counted unlocks.unlocks.locked

    pub is_closed : IsTrue (is_closing (kind_fields closing.word))
    is_closed = rw fields (closes (kind_fields unlocks.found) unlocks.unlocks.live (sym unlocks.counts))

    same_lock : unlocks.lock.kind ≡ level_type level
    same_lock =
        let both : Some unlocks.lock ≡ Some locked.lock = sym unlocks.here ∙ locked.here in
        let same : unlocks.lock ≡ locked.lock = cc in
        ap (λ (e : Lock). e.kind) same ∙ locked.kind

    kind_is : (kind_fields closing.word).kind ≡ level_type level
    kind_is = ap (λ (k : KindWord). k.kind) fields ∙ unlocks.unlocks.kind ∙ same_lock

    unmarked : (kind_fields closing.word).unflushed ≡ false
    unmarked = ap (λ (k : KindWord). k.unflushed) fields ∙ unlocks.unlocks.unmarked

    works_now : u.holdings.works ≡ closing ∷ v.holdings.works
    works_now = ap (λ (q : PortValue). q.holdings.works) unlocks.hand

    refs_now : u.holdings.refs ≡ lock_ref ∷ v.holdings.refs
    refs_now = ap (λ (q : PortValue). q.holdings.refs) unlocks.hand

    here : work_on f u.holdings.works ≡ Some closing
    here = ap (λ ws. work_on f ws) works_now ∙ first_by-cons_here (λ (y : Work). y.frame) f closing v.holdings.works refl

    spelled : IsTrue (is_kind mark)
    spelled = partial_is (level_type level) (level_type-typed level) false 512 (level_type-table level low) (omega arith)

    pub may_leave : MayLeave u f mark
    may_leave =
        may_leave_partial u f (level_type level) closing here (level_type-typed level) kind_is false (λ on. absurd cc) (level_type-table level low) (omega arith) (inl unmarked)
        (λ shut. subst (λ (rs : List Reference). 0 < refs_to f rs) (sym refs_now) (newest_held f lock_ref v.holdings.refs refl))

    refs_gone : without_ref f u.holdings.refs ≡ v.holdings.refs
    refs_gone = without_newest (λ (y : Reference). y.frame) f lock_ref v.holdings.refs u.holdings.refs refl refs_now

    works_gone : without_work f u.holdings.works ≡ v.holdings.works
    works_gone = without_newest (λ (y : Work). y.frame) f closing v.holdings.works u.holdings.works refl works_now

    abbrev new_count : TypedReference
    new_count = record { frame = f; kind = Some (kind_fields closing.word).kind; owner = ref_owner f u.holdings; live = lives.Since (length u.holdings.steps) }

    -- the reference is in hand as a typed one
    partial_hand : (x : PortValue) → Holds u x (left u f mark) → Holds v x (record off_it { typed = new_count ∷ v.holdings.typed })
    partial_hand x leaves =
        leaves ∙ ap (λ (h : Holdings). still (record u { holdings = h })) (left_partial_closing u f (level_type level) closing here false 512 0 is_closed spelled)
        ∙ ap (λ (rs : List Reference). still (record u { holdings = record u.holdings { refs = rs; typed = new_count ∷ u.holdings.typed; works = without_work f u.holdings.works } })) refs_gone
        ∙ ap (λ (ws : List Work). still (record u { holdings = record u.holdings { refs = v.holdings.refs; typed = new_count ∷ u.holdings.typed; works = ws } })) works_gone
        ∙ ap (λ (q : PortValue). still (record q { holdings = record q.holdings { refs = v.holdings.refs; typed = new_count ∷ q.holdings.typed; works = v.holdings.works } })) unlocks.hand

    module _ {l : KindWord} (is : l ≡ partial_kind (level_type level) false false 512 0) {x : PortValue} {found : ℕ} (store : Moves u x (Kind f) (Store (kind_write l)) kinds.Kind None found)
        (leaves : Holds u x (left u f l)) where
      hand : Holds v x (record off_it { typed = new_count ∷ v.holdings.typed })
      hand = partial_hand x (subst (λ k. Holds u x (left u f k)) is leaves)

      pub still_held : 0 < typed_to f x.holdings.typed
      still_held = subst (λ ys. 0 < typed_to f ys) (sym (ap (λ (q : PortValue). q.holdings.typed) hand)) (typed_held f new_count v.holdings.typed refl)

      -- and goes into the second old word
      pub last_left : {w : PortValue} → Serves v u (of_back f) [] → Moves x w (old_place x.post.vcpu Second) (Store (f + 1)) kinds.Context None 0 → Holds x w (kept_in_old Second f x.holdings) →
          LockLeft v w f level
      last_left {w} off names keeps =
          let posts : x.post ≡ v.post = ap (λ (q : PortValue). q.post) store.to ∙ ap (λ (q : PortValue). q.post) unlocks.hand in
          let gives = named_serves v u x w f mark may_leave refl found (subst (λ k. Moves u x (Kind f) (Store (kind_write k)) kinds.Kind None found) is store) names off in
          record {
            came = serves_came v w (of_back f) [] gives;
            serves = gives;
            hand = inr (
                keeps ∙ ap (λ (q : PortValue). still (record q { holdings = kept_in_old Second f q.holdings })) hand
                ∙ ap (λ (ys : List TypedReference). still (record v { holdings = record off_it { typed = ys; old1 = Some (f + 1) } }))
                (without_newest (λ (y : TypedReference). y.frame) f new_count v.holdings.typed (new_count ∷ v.holdings.typed) refl refl)
                );
            course = last u x w found unlocks (subst (λ k. Moves u x (Kind f) (Store (kind_write k)) kinds.Kind None found) is store)
                (subst (λ (p : Post). Moves x w (old_place p.vcpu Second) (Store (f + 1)) kinds.Context None 0) posts names);
          }
