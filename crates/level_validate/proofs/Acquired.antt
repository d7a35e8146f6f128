-- A frame that is taken as a page table under a reference that was taken first: what is in hand then.
use Rattle.std.proofs.Common.{◌≡◌, ℕ, ◌<◌, ◌≤◌, not, Bool, true, false, List, [], ◌∷◌, length, Some, None, Result, Ok, Err, refl, sym, ap, ◌∙◌, subst, inl, inr, ◌≢◌, ◌⊎◌, ◌==◌, Option, IfErr, append-nil, arith}
use Rattle.flush_words.proofs.Shared.{may_held}
use Rattle.xp_words.specs.Machine.{IsMachine}
use Rattle.kind_words.proofs.KindHands.{no_work}
use Rattle.xp_words.specs.Places.{sizes_of}
use Rattle.xp_words.specs.declared.kind.PageType.{PageType}
use Rattle.xp_words.specs.declared.reply.Stop.{Stop}
use Rattle.xp_words.specs.declared.reply.Stop.TheVariants.{Refused, Paused}
use Rattle.xp_board.specs.declared.holdings.Holdings.{Holdings}
use Rattle.xp_board.specs.declared.holdings.Reference.{Reference}
use Rattle.xp_board.specs.declared.holdings.TypedReference.{TypedReference}
use Rattle.xp_board.specs.declared.holdings.Work.{Work}
use Rattle.xp_board.specs.Hands.{typed_to, without_ref}
use Rattle.xp_board.specs.KindSteps.{live_typed}
use Rattle.xp_board.specs.Lists.{times_by}
use Rattle.xp_board.specs.Told.{PortValue, is_telling, told_word, Post}
use Rattle.step_maker.specs.Holds.{FlushedHolds, Holds, MayWork, Same, quiet}
use Rattle.frame_words.specs.Freeing.{gave, Puts}
use Rattle.frame_words.specs.Refs.{took, Gets, IsRefStop}
use Rattle.kind_words.proofs.Leaving.{without_newest}
use Rattle.frame_types.specs.Found.{TakesFound}
use Rattle.frame_types.specs.Plain.{is_refused, TwinTake}
use Rattle.frame_types.specs.Taking.{IsOfOther, TakesAs, WorksFrom, typed_as, working, working_typed, IsTypeStop, ShowsWait, WaitsWith, LentBy}
use Rattle.frame_types.specs.declared.taking.Taken.TheVariants.{InWork}
use Rattle.table_words.proofs.Shedding.{none_unsettled}
use Rattle.partial_state.specs.declared.stack.TableWork.{TableWork}
use Rattle.partial_state.specs.Levels.{level_type}
use Rattle.partial_state.specs.Stacks.{IsTable}
use Rattle.level_validate.specs.Acquiring.{LeavesAcquired, WaitedHand, named_if, AcquiresBy, is_due_answer, is_due_stop, ServesAcquired, is_paused_answer, of_acquire}
use Rattle.level_validate.specs.Tables.{AreTables, AreTyped, Carries, IsIdle, IsTableWork, IsTopReady, innermost, refs_for}
use Rattle.level_validate.specs.Unwinding.{UnwoundHand, named_unless, own_domain}
use Rattle.level_validate.proofs.Going.{ComesIn}
use Rattle.level_validate.proofs.Serving.{StopsRisen}
use Rattle.level_validate.proofs.Standing.{may_stands}
use Rattle.level_validate.proofs.Opening.{taken_open, wait_stops}
use Rattle.level_validate.proofs.Pushing.{ready_by}
use Rattle.step_maker.specs.Plain.{Leaves}
use Rattle.step_maker.specs.Answers.{Stops, Deed, Misses, Serves, missed, misses}
use Rattle.step_maker.specs.Asked.{of_frame, Asked, IsFor, Request, named, of, of_back, of_table}
use Rattle.frame_words.specs.Plain.{TwinGet, put}
use Rattle.frame_types.specs.declared.taking.Taken.{Taken}
use Rattle.table_entries.proofs.PiecesTaking.{ref_kinds, type_kinds, wait_kinds}
use Rattle.xp_preempt.proofs.Consulting.{gated_as, gated_none}
use Rattle.table_entries.specs.Acquiring.{Acquired, GotRef, TookType, WaitingLeft, keeps_it, outermost_table}
use Rattle.level_validate.specs.Courses.{ValidatesBy}
use Rattle.level_validate.proofs.Filling.{entry_undue}
use Rattle.std.proofs.lemmas.Bool.Decides.{nat_tests}
use Rattle.xp_words.specs.declared.place.Place.TheVariants.{Kind}
use Rattle.xp_board.proofs.Sums.{when_eq}
use Rattle.step_maker.specs.Moves.{Came, Met}
use Rattle.step_maker.proofs.Coming.{came_post, met_after}
use Rattle.step_maker.specs.Finding.{Finding}
use Rattle.step_maker.proofs.Later.{stops_later}
use Rattle.step_maker.proofs.Piecing.{serves_back, serves_call, serves_came, serves_within, stops_before, stops_within, within_frame}
use Rattle.flush_waits.specs.Waiting.{IsWait}
use Rattle.flush_waits.proofs.Shared.{wait_missed as none_missed}
use Rattle.frame_types.proofs.Serving.{type_uncounted}
use Rattle.kept_marks.specs.Marks.{IsForeign}
use Rattle.kept_marks.proofs.Keeping.{foreign_on as foreign_still}
use Rattle.level_validate.specs.Serving.{IsPiece, ServesLeft, ServesMarked, ServesWaiting}
use Rattle.xp_board.specs.declared.holdings.OwnerFound.TheVariants as owners
use Rattle.frame_types.specs.declared.taking.Taken.TheVariants as types
use Rattle.xp_preempt.specs.Gates.{Gate, Gated}

-- the only table in work
abbrev pub taken_table : ℕ → ℕ → ℕ → Bool → TableWork
taken_table f level progress own = record { frame = f; level = level; done = progress; own = own; recorded = false }

no_typed : (f : ℕ) (ys : List TypedReference) → ys ≡ [] → typed_to f ys ≡ 0
unfolding times_by
no_typed f ys none = ap (λ zs. typed_to f zs) none

-- ---- from an idle port one table came into work
module _ {v : PortValue} (x : PortValue) (owner : ℕ) (t : TableWork) (idle : IsIdle v) (e : Work) (rs : List Reference) (ys : List TypedReference) (hand : FlushedHolds v x (record v.holdings { refs = rs; typed = ys; works = e ∷ v.holdings.works })) where
  pub works_one : x.holdings.works ≡ e ∷ []
  works_one = ap (λ (q : PortValue). q.holdings.works) hand ∙ ap (λ (ws : List Work). e ∷ ws) idle.works

  pub carries_one : IsTable t → IsTableWork (sizes_of v.post.machine) t e → e.recorded ≡ t.done → rs ≡ refs_for owner (t ∷ []) v.holdings.refs → AreTyped (length x.holdings.steps) owner (t ∷ []) ys → Carries v x owner (t ∷ [])
  carries_one table is all refs typed =
      record {
        idle = idle;
        stack = (table, tt, tt);
        tables = subst (λ ws. AreTables (sizes_of v.post.machine) x.holdings.steps None (t ∷ []) ws) (sym works_one) (is, innermost all, tt);
        refs = ap (λ (q : PortValue). q.holdings.refs) hand ∙ refs;
        typed = subst (λ zs. AreTyped (length x.holdings.steps) owner (t ∷ []) zs) (sym (ap (λ (q : PortValue). q.holdings.typed) hand)) typed;
        hand = hand ∙ ap (λ (q : PortValue). quiet (record v { holdings = record v.holdings { refs = q.holdings.refs; typed = q.holdings.typed; works = q.holdings.works } })) (sym hand);
      }

-- ---- behind its reference
module _ {v : PortValue} (b : PortValue) (f owner : ℕ) (idle : IsIdle v) (referred : Holds v b (took f owner v.holdings)) where
  abbrev lent_ref : Reference
  lent_ref = record { frame = f; owner = owners.Of owner }

  works_none : b.holdings.works ≡ []
  works_none = ap (λ (q : PortValue). q.holdings.works) referred ∙ idle.works

  typed_none : b.holdings.typed ≡ []
  typed_none = ap (λ (q : PortValue). q.holdings.typed) referred ∙ idle.typed

  -- nothing of the frame is in hand beside it
  pub idle_aside : typed_to f b.holdings.typed ≡ 0
  idle_aside = no_typed f b.holdings.typed typed_none

  pub idle_other : (want : PageType) → IsOfOther f want b.holdings
  idle_other want e here = absurd (apart (sym (no_work f b.holdings.works works_none) ∙ here))
    where
      apart : (None ≡ Some e) → ⊥
      apart is = absurd cc

  gone : without_ref f (lent_ref ∷ v.holdings.refs) ≡ v.holdings.refs
  gone = without_newest (λ (y : Reference). y.frame) f lent_ref v.holdings.refs _ refl refl

  pub idle_inside : f < v.post.machine.frames → f < b.post.machine.frames
  idle_inside low = subst (λ (p : Post). f < p.machine.frames) (sym (ap (λ (q : PortValue). q.post) referred)) low

  pub idle_may : MayWork v → MayWork b
  idle_may may = may_held v b (took f owner v.holdings) referred refl refl may

  pub idle_lent : LentBy f owner b.holdings
  idle_lent = record { others = v.holdings.refs; refs = ap (λ (q : PortValue). q.holdings.refs) referred }

  pub idle_looks : b.holdings.looking ≡ []
  idle_looks = ap (λ (q : PortValue). q.holdings.looking) referred ∙ idle.looking

  -- it waits for a flush
  module _ {x : PortValue} {want : PageType} {own : Bool} {stamp : ℕ} (waits : WaitsWith b x f owner want own stamp) where
    abbrev by : Work
    by = waits.work

    waits_same : (k : Bool) → (working f owner want k by waits.works.since b.holdings).run ≡ b.holdings.run × (working f owner want k by waits.works.since b.holdings).walk ≡ b.holdings.walk × (working f owner want k by waits.works.since b.holdings).old0 ≡ b.holdings.old0
    waits_same true = (refl, refl, refl)
    waits_same false = (refl, refl, refl)

    pub waits_post : x.post ≡ v.post
    waits_post = ap (λ (q : PortValue). q.post) waits.works.hand ∙ ap (λ (q : PortValue). q.post) referred

    pub waits_may : MayWork v → MayWork x
    waits_may may =
        let b_may = idle_may may in
        record {
          running = ap (λ (q : PortValue). q.holdings.run) waits.works.hand ∙ (waits_same own).0 ∙ b_may.running;
          no_walk = ap (λ (q : PortValue). q.holdings.walk) waits.works.hand ∙ (waits_same own).1 ∙ b_may.no_walk;
          machine = subst (λ (p : Post). IsMachine p.machine) (sym waits_post) may.machine;
        }

    pub waits_room : v.holdings.old0 ≡ Some 0 → x.holdings.old0 ≡ Some 0
    waits_room room = ap (λ (q : PortValue). q.holdings.old0) waits.works.hand ∙ (waits_same own).2 ∙ ap (λ (q : PortValue). q.holdings.old0) referred ∙ room

  module _ (x : PortValue) where
    -- it was live
    pub counted_hand : (want : PageType) → FlushedHolds b x (typed_as f owner want b.holdings) → FlushedHolds v x (record v.holdings { typed = live_typed f want (owners.Of owner) ∷ v.holdings.typed })
    counted_hand want taken =
        taken ∙ ap (λ (q : PortValue). quiet (record q { holdings = typed_as f owner want q.holdings })) referred
        ∙ ap (λ rs. quiet (record v { holdings = record v.holdings { refs = rs; typed = live_typed f want (owners.Of owner) ∷ v.holdings.typed } })) gone

    -- its type is not to be had, and its reference was given back
    pub given_hand : (w : PortValue) → Same b x → Holds x w (gave f x.holdings) → FlushedHolds v w v.holdings
    given_hand w same put =
        ap quiet put ∙ ap (λ (q : PortValue). quiet (record q { holdings = gave f q.holdings })) same ∙ ap (λ (q : PortValue). quiet (record q { holdings = gave f q.holdings })) referred
        ∙ ap (λ rs. quiet (record v { holdings = record v.holdings { refs = rs } })) gone

    -- it came into work, with its type count in hand
    module _ (e : Work) (since : ℕ) (want : PageType) where
      own_hand : FlushedHolds b x (working f owner want true e since b.holdings) → FlushedHolds v x (record v.holdings { refs = v.holdings.refs; typed = working_typed f owner want since ∷ v.holdings.typed; works = e ∷ v.holdings.works })
      own_hand taken =
          taken ∙ ap (λ (q : PortValue). quiet (record q { holdings = working f owner want true e since q.holdings })) referred
          ∙ ap (λ rs. quiet (record v { holdings = record v.holdings { refs = rs; typed = working_typed f owner want since ∷ v.holdings.typed; works = e ∷ v.holdings.works } })) gone

      -- or as another holder's
      lent_hand : FlushedHolds b x (working f owner want false e since b.holdings) → FlushedHolds v x (record v.holdings { refs = lent_ref ∷ v.holdings.refs; typed = v.holdings.typed; works = e ∷ v.holdings.works })
      lent_hand taken = taken ∙ ap (λ (q : PortValue). quiet (record q { holdings = working f owner want false e since q.holdings })) referred

    module _ (level progress : ℕ) (few : progress ≤ 512) (low : 1 ≤ level) (high : level ≤ 4) (inside : f < v.post.machine.frames) where
      is_table : (own : Bool) → IsTable (taken_table f level progress own)
      is_table own = record { low = low; high = high; done = few }

      is_work : (own : Bool) (o : WorksFrom b x f owner (level_type level) progress own) → IsTableWork (sizes_of v.post.machine) (taken_table f level progress own) o.work
      is_work own o = record { inside = inside; frame = o.works.frame; work = o.works.in_work; kind = o.works.kind; unmarked = o.unmarked; lent = λ old. absurd cc }

      taken_carries : (own : Bool) → WorksFrom b x f owner (level_type level) progress own → Carries v x owner (taken_table f level progress own ∷ [])
      taken_carries true o =
          let t = taken_table f level progress true in
          carries_one x owner t idle o.work v.holdings.refs (working_typed f owner (level_type level) o.works.since ∷ v.holdings.typed) (own_hand o.work o.works.since (level_type level) o.works.hand) (is_table true) (is_work true o) o.recorded refl
          (o.works.since, o.works.taken, v.holdings.typed, refl, idle.typed)
      taken_carries false o =
          let t = taken_table f level progress false in
          carries_one x owner t idle o.work (lent_ref ∷ v.holdings.refs) v.holdings.typed (lent_hand o.work o.works.since (level_type level) o.works.hand) (is_table false) (is_work false o) o.recorded refl
          (no_typed f v.holdings.typed idle.typed, idle.typed)

    -- nothing of it is recorded
    works_taken : (own : Bool) (want : PageType) (progress : ℕ) (o : WorksFrom b x f owner want progress own) → x.holdings.works ≡ o.work ∷ []
    works_taken true want progress o = works_one x owner (taken_table f 0 0 true) idle o.work v.holdings.refs (working_typed f owner want o.works.since ∷ v.holdings.typed) (own_hand o.work o.works.since want o.works.hand)
    works_taken false want progress o = works_one x owner (taken_table f 0 0 false) idle o.work (lent_ref ∷ v.holdings.refs) v.holdings.typed (lent_hand o.work o.works.since want o.works.hand)

    pub taken_ready : (own : Bool) (want : PageType) (progress : ℕ) → WorksFrom b x f owner want progress own → progress ≡ 0 → IsTopReady x
    taken_ready own want progress o zero = ready_by x o.work [] (works_taken own want progress o) (none_unsettled (sizes_of x.post.machine) x.holdings o.work (o.settled zero))

pub comes_in : {v : PortValue} (b : PortValue) {x : PortValue} {f owner level progress : ℕ} {own : Bool} {want : PageType} {t : Taken} → IsIdle v → MayWork v → Holds v b (took f owner v.holdings) → want ≡ level_type level → 1 ≤ level → level ≤ 4 → f < v.post.machine.frames →
    t ≡ InWork progress own → TakesAs b x f owner want t → TakesFound b x f owner want (Ok t) → ComesIn v x owner (taken_table f level progress own)
comes_in {v} b {x} {f} {owner} {level} {progress} {own} {want} idle may referred is low high inside so hand found =
    let takes = subst (λ (t : Taken). TakesAs b x f owner want t × TakesFound b x f owner want (Ok t)) so (hand, found) in
    let works = takes.0.1 in
    let carries = taken_carries b f owner idle referred x level progress (taken_open b x f owner want progress own takes.1).few low high inside own (subst (λ k. WorksFrom b x f owner k progress own) is works) in
    record { carries = carries; fresh = taken_ready b f owner idle referred x own want progress works; may = may_stands v x owner (taken_table f level progress own ∷ []) carries may }

-- ---- by the answer
unwound_named : (g level progress : ℕ) (own kept : Bool) (h : Holdings) → named_unless kept (taken_table g level progress own) h ≡ named_if g own kept h
unwound_named g level progress true true h = refl
unwound_named g level progress true false h = refl
unwound_named g level progress false true h = refl
unwound_named g level progress false false h = refl

unwound_waited : (v w : PortValue) (g owner level progress : ℕ) (own kept : Bool) → UnwoundHand v w owner kept (taken_table g level progress own ∷ []) → WaitedHand v w g owner own kept
unwound_waited v w g owner level progress own kept (inl hand) = inl (subst (λ h. FlushedHolds v w h) (unwound_named g level progress own kept v.holdings) hand)
unwound_waited v w g owner level progress own kept (inr hand) = inr (hand.0, hand.1, subst (λ h. FlushedHolds v w h) (unwound_named g level progress own false v.holdings) hand.2)

module _ (v w : PortValue) (f owner level : ℕ) where
  pub same_leaves : (e : Stop) → FlushedHolds v w v.holdings → LeavesAcquired v w f owner level (Err e)
  same_leaves (Refused x) same = inl same
  same_leaves (Paused x) same = inl same

  named_leaves : (own : Bool) (e : Stop) → WaitedHand v w f owner own (not (is_refused e)) → LeavesAcquired v w f owner level (Err e)
  named_leaves true (Refused x) (inl left) = inr left
  named_leaves true (Refused x) (inr b) = let no : false ≡ true = b.1 in absurd cc
  named_leaves true (Paused x) (inl left) = inl left
  named_leaves true (Paused x) (inr b) = inr (b.0, b.2)
  named_leaves false (Refused x) (inl left) = inl left
  named_leaves false (Refused x) (inr b) = let no : false ≡ true = b.1 in absurd cc
  named_leaves false (Paused x) (inl left) = inl left
  named_leaves false (Paused x) (inr b) = inl b.2

  pub answer_leaves : (g : ℕ) (own kept : Bool) (e : Stop) → g ≡ f → kept ≡ not (is_refused e) → WaitedHand v w g owner own kept → LeavesAcquired v w f owner level (Err e)
  answer_leaves g own kept e same is left = named_leaves own e (subst (λ b. WaitedHand v w f owner own b) is (subst (λ y. WaitedHand v w y owner own kept) same left))

  -- all tables in work were left
  pub unwound_leaves : (g progress : ℕ) (own : Bool) (e : Stop) → g ≡ f → UnwoundHand v w owner (keeps_it e) (taken_table g level progress own ∷ []) → LeavesAcquired v w f owner level (Err e)
  unwound_leaves g progress own e same left = answer_leaves g own (keeps_it e) e same refl (unwound_waited v w g owner level progress own (keeps_it e) left)

  pub leaves_as : (answer : Result ℕ Stop) (e : Stop) → answer ≡ Err e → LeavesAcquired v w f owner level (Err e) → LeavesAcquired v w f owner level answer
  leaves_as answer e is left = subst (λ y. LeavesAcquired v w f owner level y) (sym is) left

-- A frame is taken as a page table: the whole course, by what its reference and its type came to.
module _ (v : PortValue) (f owner level : ℕ) where
  -- ---- its reference is not to be had
  pub unreferred_by : {now : Gate} (w : PortValue) (answer : Result ℕ Stop) (e : Stop) → answer ≡ Err e → IsRefStop e → Gets {A = ℕ} v w f owner (Err e) → TwinGet {A = ℕ} v w f owner (Err e) → Stops v w (of_frame f owner None) e → AcquiresBy v w f owner level now now answer
  unreferred_by {now} w answer e is kind gets plain stops =
      subst (λ (r : Result ℕ Stop). AcquiresBy v w f owner level now now r) (sym is)
      (gated_none (entry_undue e (ref_kinds e kind)) (Acquired.unreferred w e (record { found = gets; plain = plain; stops = stops })))

  module _ (u : PortValue) {g : ℕ} (same : g ≡ f) (gets : Gets v u f owner (Ok g)) (get : TwinGet v u f owner (Ok g)) (x : PortValue) {k : PageType} (is : k ≡ level_type level) where
    got : GotRef v u f owner (Ok f)
    got = record { found = subst (λ (n : ℕ). Gets v u f owner (Ok n)) same gets; plain = subst (λ (n : ℕ). TwinGet v u f owner (Ok n)) same get; stops = tt }

    -- the frame that came of it is the one that was asked
    of_frame_asked : (w : PortValue) {now then : Gate} → AcquiresBy v w f owner level now then (Ok f) → AcquiresBy v w f owner level now then (Ok g)
    of_frame_asked w {now} {then} a = subst (λ (n : ℕ). AcquiresBy v w f owner level now then (Ok n)) (sym same) a

    -- ---- its type is not to be had
    pub untyped_by : {now : Gate} (w : PortValue) (e : Stop) → IsTypeStop e → TakesFound u x g owner k (Err e) → TwinTake u x g k (Err e) → Stops u x (of_frame g owner (Some k)) e → Puts x w g → (is_telling x ≡ true → Leaves w (put g (told_word x))) →
        AcquiresBy v w f owner level now now (Err e)
    untyped_by w e kind found take stops puts leaves =
        gated_none (entry_undue e (type_kinds e kind))
        (Acquired.untyped u x w e got
        (record {
          found = subst (λ (j : PageType). TakesFound u x f owner j (Err e)) is (subst (λ (n : ℕ). TakesFound u x n owner k (Err e)) same found);
          plain = subst (λ (j : PageType). TwinTake u x f j (Err e)) is (subst (λ (n : ℕ). TwinTake u x n k (Err e)) same take);
          stops = subst (λ (j : PageType). Stops u x (of_frame f owner (Some j)) e) is (subst (λ (n : ℕ). Stops u x (of_frame n owner (Some k)) e) same stops);
          waits = tt;
        })
        (record { found = subst (λ (n : ℕ). Puts x w n) same puts; plain = λ telling. subst (λ (n : ℕ). Leaves w (put n (told_word x))) same (leaves telling) }))

    module _ (b : Taken) (found : TakesFound u x g owner k (Ok b)) (take : TwinTake u x g k (Ok b)) (waits : ShowsWait u x g owner k b) where
      typed_so : (a : Taken) → b ≡ a → TookType u x f owner level (Ok a)
      typed_so a so =
          record {
            found = subst (λ (j : PageType). TakesFound u x f owner j (Ok a)) is (subst (λ (n : ℕ). TakesFound u x n owner k (Ok a)) same (subst (λ (t : Taken). TakesFound u x g owner k (Ok t)) so found));
            plain = subst (λ (j : PageType). TwinTake u x f j (Ok a)) is (subst (λ (n : ℕ). TwinTake u x n k (Ok a)) same (subst (λ (t : Taken). TwinTake u x g k (Ok t)) so take));
            stops = tt;
            waits = subst (λ (j : PageType). ShowsWait u x f owner j a) is (subst (λ (n : ℕ). ShowsWait u x n owner k a) same (subst (λ (t : Taken). ShowsWait u x g owner k t) so waits));
          }

      -- ---- it was live
      pub counted_by : {now : Gate} → b ≡ types.Counted → AcquiresBy v x f owner level now now (Ok g)
      counted_by so = of_frame_asked x (gated_none refl (Acquired.counted u x got (typed_so types.Counted so)))

      -- ---- it waits for a flush
      pub waiting_by : {now : Gate} (own : Bool) (stamp : ℕ) (e : Stop) → b ≡ types.Waiting own stamp e → (w : PortValue) (kept : Bool) → kept ≡ keeps_it e → WaitingLeft x w g level owner stamp own kept → AcquiresBy v w f owner level now now (Err e)
      waiting_by own stamp e so w kept keeps left =
          let shows : ShowsWait u x g owner k (types.Waiting own stamp e) = subst (λ (t : Taken). ShowsWait u x g owner k t) so waits in
          gated_none (entry_undue e (wait_stops e shows.0))
          (Acquired.waiting u x w own stamp e got (typed_so (types.Waiting own stamp e) so) (subst (λ (c : Bool). WaitingLeft x w f level owner stamp own c) keeps (subst (λ (n : ℕ). WaitingLeft x w n level owner stamp own kept) same left)))

      -- ---- it is in work
      module _ {progress : ℕ} {own : Bool} (so : b ≡ types.InWork progress own) (w : PortValue) {now then : Gate} where
        pub finished_by : Gated now then false (λ answers. ValidatesBy owner x (outermost_table g level progress own) w answers (Ok tt)) → AcquiresBy v w f owner level now then (Ok g)
        finished_by c =
            of_frame_asked w (gated_as refl (λ answers gave.
            let p : ValidatesBy owner x (outermost_table f level progress own) w answers (Ok tt) = subst (λ (n : ℕ). ValidatesBy owner x (outermost_table n level progress own) w answers (Ok tt)) same gave in
            Acquired.finished u x p.0 w progress own (record (outermost_table f level progress own) { done = 512 }) answers got (typed_so (types.InWork progress own) so) p.1 refl p.2) c)

        pub unfinished_by : (answer : Result ℕ Stop) (e : Stop) → answer ≡ Err e → Gated now then (is_due_stop e) (λ answers. ValidatesBy owner x (outermost_table g level progress own) w answers (Err e)) →
            AcquiresBy v w f owner level now then answer
        unfinished_by answer e is c =
            subst (λ (r : Result ℕ Stop). AcquiresBy v w f owner level now then r) (sym is)
            (gated_as refl (λ answers gave.
            let p : ValidatesBy owner x (outermost_table f level progress own) w answers (Err e) = subst (λ (n : ℕ). ValidatesBy owner x (outermost_table n level progress own) w answers (Err e)) same gave in
            Acquired.unfinished u x p.0 w progress own p.1 answers e got (typed_so (types.InWork progress own) so) p.2 p.3.course) c)

-- A call that takes a frame as a page table: its steps go on with its request, and show why it stops.
not_same : (m n : ℕ) → m ≢ n → not (m == n) ≡ true
not_same m n off = grind (arith, nat_tests)

module _ (v : PortValue) (f owner level pages : ℕ) (rose : Bool) where
  abbrev pub request : Request
  request = record (of_table f owner (Some (level_type level)) pages rose) { locks = not (owner == own_domain v) }

  -- of another domain's frame it may take marks off
  locks_foreign : (x : PortValue) → Came v x → IsForeign x owner → request.locks ≡ true
  locks_foreign x came off = not_same owner (own_domain v) (foreign_still v x owner came off)

  -- the frame is asked, for the type of that level and for any
  asks : (F : Finding) (g : ℕ) (want : Option PageType) → g ≡ f → IsFor want (Some (level_type level)) → Asked v.post.machine v.post.vcpu request F g owner want
  asks F g want same is = named (when_eq g f same) refl is

  -- ---- its reference
  module _ (b : PortValue) where
    pub reference_serves : (ds : List Deed) → Serves v b (of_frame f owner None) ds → Serves v b request ds
    reference_serves ds a = serves_within v b (of_frame f owner None) request ds (within_frame v.post.machine v.post.vcpu f owner None request (Met v b) (Met v b) (λ m x. x) (asks (Met v b) f None refl tt)) a

    pub reference_stops : (e : Stop) → Stops v b (of_frame f owner None) e → Stops v b request e
    reference_stops e a = stops_within v b (of_frame f owner None) request e (within_frame v.post.machine v.post.vcpu f owner None request (Met v b) (Met v b) (λ m x. x) (asks (Met v b) f None refl tt)) a

  -- ---- its type
  module _ (b : PortValue) (got : Serves v b (of_frame f owner None) []) {g : ℕ} (same : g ≡ f) {want : PageType} (is : want ≡ level_type level) where
    came_b : Came v b
    came_b = serves_came v b (of_frame f owner None) [] got

    type_serves : (x : PortValue) (ds : List Deed) → Serves b x (of_frame g owner (Some want)) ds → Serves v x request ds
    type_serves x ds a =
        subst (λ es. Serves v x request es) (append-nil ds)
        (serves_call v b x request [] ds (reference_serves b [] got) g owner (Some want) (asks (Met v b) g (Some want) same (ap (λ k. Some k) (sym is))) (serves_came b x (of_frame g owner (Some want)) ds a) a)

    pub taken_serves : (x : PortValue) → Serves b x (of_frame g owner (Some want)) [] → Serves v x request []
    taken_serves x a = type_serves x [] a

    pub type_stops : (x : PortValue) (e : Stop) → IsTypeStop e → Stops b x (of_frame g owner (Some want)) e → Stops v x request e
    type_stops x e kind a =
        stops_later v b x request (of_frame g owner (Some want)) e (type_uncounted e kind)
        (within_frame v.post.machine v.post.vcpu g owner (Some want) request (Met b x) (Met v x) (λ m y. met_after v b x m came_b y) (asks (Met v x) g (Some want) same (ap (λ k. Some k) (sym is)))) came_b a

    -- it is not to be had: its reference is given back
    pub stopped_serves : (x w : PortValue) (e : Stop) → Serves b x (of_frame g owner (Some want)) (missed b.post.machine e) → Serves x w (of_back g) [] → Serves v w request (missed v.post.machine e)
    stopped_serves x w e a put =
        let before = subst (λ (p : Post). Serves v x request (missed p.machine e)) (came_post v b came_b) (type_serves x (missed b.post.machine e) a) in
        serves_back v x w request (missed v.post.machine e) [] before g (of owner None (asks (Met v w) g None same tt)) put

    pub stopped_stops : (x w : PortValue) (e : Stop) → IsTypeStop e → Stops b x (of_frame g owner (Some want)) e → Serves x w (of_back g) [] → Stops v w request e
    stopped_stops x w e kind a put = stops_before v x w request e (type_stops x e kind a) (serves_came x w (of_back g) [] put)

    -- it waits for a flush, and is left
    pub waited_stops : (x w : PortValue) (e : Stop) → IsWait e → Stops b x (of_frame g owner (Some want)) e → Came x w → Stops v w request e
    waited_stops x w e wait a came = stops_before v x w request e (type_stops x e (wait_kinds e wait) a) came

  -- ---- behind its type
  module _ (x : PortValue) (before : Serves v x request []) {g : ℕ} (same : g ≡ f) where
    came_x : Came v x
    came_x = serves_came v x request [] before

    -- it is left, where it waits for a flush
    pub waited_serves : (w : PortValue) (e : Stop) (kept : Bool) → IsWait e → ServesWaiting x w g level owner kept → ServesMarked v w request owner kept g (missed v.post.machine e)
    unfolding ServesWaiting
    waited_serves w e kept is left =
        subst (λ ds. ServesMarked v w request owner kept g ds) (sym (none_missed v.post.machine e is)) (left v request [] before (asks (Met v x) g (Some (level_type level)) same refl) (λ off. locks_foreign x came_x off))

    -- it is the only table in work
    module _ (progress : ℕ) (own : Bool) where
      table_piece : IsPiece v x request owner (taken_table g level progress own ∷ []) []
      table_piece = record { entries = refl; whose = refl; serves = before; asked = (asks (Met v x) g (Some (level_type level)) same refl, tt) }

      pub validated_serves : (w : PortValue) (kept : Bool) (ds : List Deed) → ServesLeft x w owner kept g (taken_table g level progress own ∷ []) ds → ServesMarked v w request owner kept g ds
      unfolding ServesLeft
      validated_serves w kept ds left = subst (λ es. ServesMarked v w request owner kept g es) (append-nil ds) (left v request [] table_piece (λ off. locks_foreign x came_x off))

      -- an exchange that was lost there is one of the whole
      pub validated_misses : (w : PortValue) (kept : Bool) (e : Stop) → ServesLeft x w owner kept g (taken_table g level progress own ∷ []) (missed x.post.machine e) → ServesMarked v w request owner kept g (missed v.post.machine e)
      validated_misses w kept e left = subst (λ (p : Post). ServesMarked v w request owner kept g (missed p.machine e)) (came_post v x came_x) (validated_serves w kept (missed x.post.machine e) left)

      pub validated_stops : (w : PortValue) (e : Stop) → (is_due_stop e ≡ true → rose ≡ true) → Carries v x owner (taken_table g level progress own ∷ []) → StopsRisen x w owner (taken_table g level progress own ∷ []) e → Stops v w request e
      unfolding StopsRisen
      validated_stops w e rises carries stops = stops v request [] rises carries table_piece

-- ---- by the answer
module _ (v w : PortValue) (f owner level pages g : ℕ) where
  marked_may : (kept : Bool) (ds : List Deed) (answer : Result ℕ Stop) → g ≡ f → kept ≡ is_paused_answer answer → (ds ≡ []) ⊎ (IsForeign v owner × (kept ≡ true) × (ds ≡ Misses (Kind g) ∷ [])) →
      (ds ≡ []) ⊎ (IsForeign v owner × (is_paused_answer answer ≡ true) × (ds ≡ Misses (Kind f) ∷ []))
  marked_may kept ds answer same is (inl none) = inl none
  marked_may kept ds answer same is (inr one) = inr (one.0, sym is ∙ one.1, one.2 ∙ ap (λ n. Misses (Kind n) ∷ []) same)

  pub marked_acquired : (kept : Bool) (answer : Result ℕ Stop) → g ≡ f → kept ≡ is_paused_answer answer → ServesMarked v w (request v f owner level pages (is_due_answer answer)) owner kept g (misses v.post.machine answer) → ServesAcquired v w f owner level pages answer
  marked_acquired kept answer same is a = record { hidden = a.more; may = marked_may kept a.more answer same is a.hidden; serves = a.serves }

-- no exchange is lost but that for which it is paused
pub plain_acquired : (v w : PortValue) (f owner level pages : ℕ) (answer : Result ℕ Stop) → Serves v w (request v f owner level pages (is_due_answer answer)) (misses v.post.machine answer) → ServesAcquired v w f owner level pages answer
plain_acquired v w f owner level pages answer a = record { hidden = []; may = inl refl; serves = a }

pub serves_as : (v w : PortValue) (f owner level pages : ℕ) (answer : Result ℕ Stop) (e : Stop) → answer ≡ Err e → ServesAcquired v w f owner level pages (Err e) → ServesAcquired v w f owner level pages answer
serves_as v w f owner level pages answer e is a = subst (λ y. ServesAcquired v w f owner level pages y) (sym is) a

pub stops_as : (v w : PortValue) (f owner level pages : ℕ) (answer : Result ℕ Stop) (e : Stop) → answer ≡ Err e → Stops v w (request v f owner level pages (is_due_stop e)) e →
    IfErr answer (λ k. Stops v w (of_acquire v f owner level pages answer) k)
stops_as v w f owner level pages answer e is a = subst (λ y. IfErr y (λ k. Stops v w (of_acquire v f owner level pages y) k)) (sym is) a
