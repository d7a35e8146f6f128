-- A page in the own works is made live, or left dead for a word that has no fixed form.
use Rattle.std.proofs.Common.{◌≡◌, ℕ, ◌<◌, ◌≤◌, ◌^◌, false, List, [], ◌∷◌, length, Some, None, Ok, Err, IsTrue, refl, sym, ap, ◌∙◌, subst, arith, lit<, inl}
use Rattle.xp_words.specs.KindWords.{kind_write}
use Rattle.xp_words.specs.declared.kind.PageType.TheVariants.{Desc}
use Rattle.xp_words.specs.declared.place.Place.TheVariants.{Cell, Clock, Kind}
use Rattle.xp_words.specs.declared.reply.Refusal.TheVariants as refusals
use Rattle.xp_words.specs.declared.reply.Stop.TheVariants.{Refused}
use Rattle.xp_board.specs.declared.holdings.Holdings.{Holdings}
use Rattle.xp_board.specs.declared.holdings.OwnerFound.{OwnerFound}
use Rattle.xp_board.specs.declared.holdings.OwnerFound.TheVariants as owners
use Rattle.xp_board.specs.declared.holdings.Reference.{Reference}
use Rattle.xp_board.specs.declared.holdings.TypedReference.{TypedReference}
use Rattle.xp_board.specs.declared.holdings.Work.{Work}
use Rattle.xp_board.specs.declared.step.Act.TheVariants.{Load, Store}
use Rattle.xp_board.specs.declared.step.StepKind.TheVariants as kinds
use Rattle.xp_board.specs.Hands.{refs_to, typed_owner, typed_to, without_ref, without_typed, without_work, work_on}
use Rattle.xp_board.specs.KindSteps.{live_typed}
use Rattle.xp_board.specs.Lists.{first_by}
use Rattle.xp_board.specs.Told.{PortValue}
use Rattle.xp_board.proofs.ListCounts.{times_by-cons_here}
use Rattle.xp_board.proofs.Sums.{when_eq}
use Rattle.step_maker.specs.Holds.{FlushedHolds, Holds, MayWork, Same, quiet}
use Rattle.step_maker.specs.Moves.{Came, Met, Moves}
use Rattle.step_maker.proofs.Coming.{came_trans, met_after, met_before, moment_of, moves_came, moves_met}
use Rattle.step_maker.specs.Answers.{Deed, Serves, Stops}
use Rattle.step_maker.specs.Asked.{named, of, of_back, of_frame}
use Rattle.step_maker.specs.Finding.{FoundWith}
use Rattle.step_maker.specs.Licences.{is_desc_work}
use Rattle.step_maker.proofs.Piecing.{serves_back, serves_call, serves_came, serves_nothing, serves_step}
use Rattle.step_maker.proofs.Visiting.{does_came}
use Rattle.frame_words.specs.Freeing.{gave}
use Rattle.frame_words.specs.Refs.{MayPut}
use Rattle.frame_types.specs.Taking.{typed_as, working_typed}
use Rattle.frame_types.proofs.Entering.{typed_owned}
use Rattle.frame_types.proofs.Serving.{store_serves}
use Rattle.kind_words.specs.Kinds.{IsWholeWork, MayLeave, dead_kind, left, live_kind}
use Rattle.kind_words.proofs.KindFacts.{clock_is_small}
use Rattle.kind_words.proofs.KindHands.{apart_spares, clock_since, typed_held, work_here}
use Rattle.kind_words.proofs.KindWriting.{dead_is, live_is}
use Rattle.kind_words.proofs.Leaving.{left_dead, left_live, may_leave_dead, may_leave_live, without_newest}
use Rattle.desc_pages.specs.Fixing.{IsPage, IsPageWork, Unfixes}
use Rattle.desc_pages.specs.Pages.{PageValidated, TakenFrom, Validates, of_desc}

module _ (b v : PortValue) (f owner : ℕ) (t : TakenFrom b v f owner) where
  abbrev e : Work
  e = t.works.work

  abbrev typed : TypedReference
  typed = working_typed f owner Desc t.works.works.since

  works_are : v.holdings.works ≡ e ∷ b.holdings.works
  works_are = ap (λ (q : PortValue). q.holdings.works) t.works.works.hand

  typed_are : v.holdings.typed ≡ typed ∷ b.holdings.typed
  typed_are = ap (λ (q : PortValue). q.holdings.typed) t.works.works.hand

  -- it is a page, and none of its words is known to be fixed
  pub page_work : IsPageWork v f 0 e b.holdings.works
  page_work =
      record {
        page = record { frame = t.works.works.frame; work = t.works.works.in_work; kind = t.works.works.kind; unmarked = t.works.unmarked; upto = t.works.unfixed };
        works = works_are;
        locks = ap (λ (q : PortValue). q.holdings.locks) t.works.works.hand ∙ t.locks;
        claimed = ap (λ (q : PortValue). q.holdings.claimed) t.works.works.hand ∙ t.claimed;
      }

  -- ---- where words of it were looked at, and fixed
  module _ (a : PortValue) (i : ℕ) (k : Work) (page : IsPage f i k) (hand : Holds v a (record v.holdings { works = k ∷ b.holdings.works })) where
    works_a : a.holdings.works ≡ k ∷ b.holdings.works
    works_a = ap (λ (q : PortValue). q.holdings.works) hand

    here : work_on f a.holdings.works ≡ Some k
    here = work_here f k b.holdings.works a.holdings.works page.frame works_a

    typed_a : a.holdings.typed ≡ typed ∷ b.holdings.typed
    typed_a = ap (λ (q : PortValue). q.holdings.typed) hand ∙ typed_are

    held_a : 0 < typed_to f a.holdings.typed
    held_a = subst (λ xs. 0 < typed_to f xs) (sym typed_a) (typed_held f typed b.holdings.typed refl)

    owner_a : typed_owner f a.holdings ≡ owners.Of owner
    owner_a = typed_owned f owner typed b.holdings.typed a.holdings typed_a refl refl

    no_typed : without_typed f a.holdings.typed ≡ b.holdings.typed
    no_typed = without_newest (λ (y : TypedReference). y.frame) f typed b.holdings.typed a.holdings.typed refl typed_a

    no_works : without_work f a.holdings.works ≡ b.holdings.works
    no_works = without_newest (λ (y : Work). y.frame) f k b.holdings.works a.holdings.works page.frame works_a

    -- from b on
    hand_a : quiet a ≡ quiet (record b { holdings = record b.holdings { refs = without_ref f b.holdings.refs; typed = typed ∷ b.holdings.typed; works = k ∷ b.holdings.works } })
    hand_a = ap quiet hand ∙ ap (λ (q : PortValue). quiet (record q { holdings = record q.holdings { works = k ∷ b.holdings.works } })) t.works.works.hand

    -- ---- live
    module _ (all : i ≡ 512) where
      whole : IsWholeWork a.post.machine f Desc a.holdings k
      whole =
          record {
            work = page.work;
            kind = page.kind;
            past = λ on. absurd (let off = page.unmarked in cc);
            table = λ no_table. absurd cc;
            descriptors = λ is. page.upto ∙ all;
          }

      pub live_may : MayWork a → MayLeave a f (live_kind Desc 1)
      live_may may = may_leave_live a f Desc k here refl may whole held_a

      pub live_hand : (w : PortValue) → Holds a w (left a f (live_kind Desc 1)) → FlushedHolds b w (typed_as f owner Desc b.holdings)
      live_hand w holds =
          ap quiet holds ∙ ap (λ (h : Holdings). quiet (record a { holdings = h })) (left_live a f Desc k here refl)
          ∙ ap (λ (o : OwnerFound). quiet (record a { holdings = record a.holdings { typed = live_typed f Desc o ∷ without_typed f a.holdings.typed; works = without_work f a.holdings.works } })) owner_a
          ∙ ap (λ (xs : List TypedReference). quiet (record a { holdings = record a.holdings { typed = live_typed f Desc (owners.Of owner) ∷ xs; works = without_work f a.holdings.works } })) no_typed
          ∙ ap (λ (ys : List Work). quiet (record a { holdings = record a.holdings { typed = live_typed f Desc (owners.Of owner) ∷ b.holdings.typed; works = ys } })) no_works
          ∙ ap (λ (q : PortValue). quiet (record q { holdings = record q.holdings { typed = live_typed f Desc (owners.Of owner) ∷ b.holdings.typed; works = b.holdings.works } })) hand_a

      pub live_validates : (so : (u : PortValue) (ds : List Deed) → Serves u v (of_desc f owner) ds → Serves u a (of_desc f owner) ds) → Came v a → (w : PortValue) (x : ℕ) →
          Moves a w (Kind f) (Store (kind_write (live_kind Desc 1))) kinds.Kind None x → Holds a w (left a f (live_kind Desc 1)) → PageValidated v w f (Ok tt) → Validates b v w f owner (Ok tt)
      live_validates so came w x store holds course =
          let step : Serves a w (of_frame f owner (Some Desc)) [] = store_serves a a w f owner Desc [] (serves_nothing a (of_frame f owner (Some Desc))) k (live_kind Desc 1) x here page.work page.kind (live_is Desc refl 1 (lit< tt)) refl store in
          let after : Came a w = moves_came a w (Kind f) (Store (kind_write (live_kind Desc 1))) kinds.Kind None x store in
          record {
            came = came_trans v a w came after;
            hand = live_hand w holds;
            serves = λ u ds before. serves_call u a w (of_desc f owner) ds [] (so u ds before) f owner (Some Desc) (named (when_eq f f refl) refl refl) after step;
            stops = tt;
            course = course;
          }

    -- ---- dead
    module _ (c : PortValue) (clock : ℕ) (look : Moves a c Clock Load kinds.Look None clock) (same : Same a c) (bare : k.recorded ≡ 0) (early : k.since ≤ length a.holdings.steps) where
      at_c : work_on f c.holdings.works ≡ Some k
      at_c = ap (λ (q : PortValue). work_on f q.holdings.works) same ∙ here

      small : clock < 2 ^ 36
      small = clock_is_small a.post.machine a.post.vcpu a.holdings clock look.finds

      typed_c : c.holdings.typed ≡ typed ∷ b.holdings.typed
      typed_c = ap (λ (q : PortValue). q.holdings.typed) same ∙ typed_a

      owner_c : typed_owner f c.holdings ≡ owners.Of owner
      owner_c = typed_owned f owner typed b.holdings.typed c.holdings typed_c refl refl

      pub dead_may : MayLeave c f (dead_kind Desc false clock)
      dead_may =
          may_leave_dead c f Desc k at_c refl false clock page.kind bare (inl (sym page.unmarked)) small (clock_since a c clock k.since look early)
          (λ work. subst (λ xs. 0 < typed_to f xs) (sym typed_c) (typed_held f typed b.holdings.typed refl))

      abbrev back_ref : Reference
      back_ref = record { frame = f; owner = owners.Of owner }

      module _ (d : PortValue) (x : ℕ) (store : Moves c d (Kind f) (Store (kind_write (dead_kind Desc false clock))) kinds.Kind None x) (holds : Holds c d (left c f (dead_kind Desc false clock))) where
        pub dead_hand : quiet d ≡ quiet (record b { holdings = record b.holdings { refs = back_ref ∷ without_ref f b.holdings.refs } })
        dead_hand =
            ap quiet holds ∙ ap (λ (h : Holdings). quiet (record c { holdings = h })) (left_dead c f Desc k at_c refl false clock small page.work)
            ∙ ap (λ (o : OwnerFound). quiet (record c { holdings = record c.holdings { refs = record { frame = f; owner = o } ∷ c.holdings.refs; typed = without_typed f c.holdings.typed; works = without_work f c.holdings.works } })) owner_c
            ∙ ap (λ (q : PortValue). quiet (record q { holdings = record q.holdings { refs = back_ref ∷ q.holdings.refs; typed = without_typed f q.holdings.typed; works = without_work f q.holdings.works } })) (ap quiet same)
            ∙ ap (λ (xs : List TypedReference). quiet (record a { holdings = record a.holdings { refs = back_ref ∷ a.holdings.refs; typed = xs; works = without_work f a.holdings.works } })) no_typed
            ∙ ap (λ (ys : List Work). quiet (record a { holdings = record a.holdings { refs = back_ref ∷ a.holdings.refs; typed = b.holdings.typed; works = ys } })) no_works
            ∙ ap (λ (q : PortValue). quiet (record q { holdings = record q.holdings { refs = back_ref ∷ q.holdings.refs; typed = b.holdings.typed; works = b.holdings.works } })) hand_a

        pub dead_gives : MayPut f d.holdings
        unfolding first_by
        dead_gives =
            let one = times_by-cons_here (λ (y : Reference). y.frame) f back_ref (without_ref f b.holdings.refs) refl in
            record {
              held = subst (λ rs. 0 < refs_to f rs) (sym (ap (λ (q : PortValue). q.holdings.refs) dead_hand)) (omega (arith, one));
              spares = apart_spares f d.holdings (ap (λ ws. work_on f ws) (ap (λ (q : PortValue). q.holdings.works) dead_hand ∙ t.none));
            }

        module _ (w : PortValue) (put : Holds d w (gave f d.holdings)) (gives : Serves d w (of_back f) []) where
          dead_gone : FlushedHolds b w (gave f b.holdings)
          dead_gone =
              ap quiet put ∙ ap (λ (q : PortValue). quiet (record q { holdings = gave f q.holdings })) dead_hand
              ∙ ap (λ (rs : List Reference). quiet (record b { holdings = record b.holdings { refs = rs } })) (without_newest (λ (y : Reference). y.frame) f back_ref (without_ref f b.holdings.refs) (back_ref ∷ without_ref f b.holdings.refs) refl refl)

          came_c : Came a c
          came_c = moves_came a c Clock Load kinds.Look None clock look

          came_d : Came c d
          came_d = moves_came c d (Kind f) (Store (kind_write (dead_kind Desc false clock))) kinds.Kind None x store

          came_w : Came d w
          came_w = serves_came d w (of_back f) [] gives

          pub died_came : Came a w
          died_came = came_trans a c w came_c (came_trans c d w came_d came_w)

          stored : Serves c d (of_frame f owner (Some Desc)) []
          stored = store_serves c c d f owner Desc [] (serves_nothing c (of_frame f owner (Some Desc))) k (dead_kind Desc false clock) x at_c page.work page.kind (dead_is Desc refl false clock small) refl store

          pub died_serves : (u : PortValue) (ds : List Deed) → Serves u a (of_desc f owner) ds → Serves u w (of_desc f owner) ds
          died_serves u ds before =
              let r = of_desc f owner in
              serves_back u d w r ds []
              (serves_call u c d r ds [] (serves_step u a c r ds Clock Load kinds.Look None clock before look tt) f owner (Some Desc) (named (when_eq f f refl) refl refl) came_d stored)
              f (of owner None (named (when_eq f f refl) refl tt)) gives

          -- the word was found there
          module _ (i2 word : ℕ) (so : Unfixes v a f i2 word e b.holdings.works) where
            there : work_on f so.at.holdings.works ≡ Some so.fixes.work
            there = work_here f so.fixes.work b.holdings.works so.at.holdings.works so.fixes.page.frame (ap (λ (q : PortValue). q.holdings.works) so.fixes.hand)

            desc_work : IsTrue (is_desc_work (work_on f so.at.holdings.works))
            desc_work = ap is_desc_work there ∙ rw (so.fixes.page.kind, so.fixes.page.unmarked) refl

            bad_there : (u : PortValue) → Came u v → FoundWith (Met u w) (Cell f i2) word so.at.holdings
            unfolding moment_of
            bad_there u came =
                record {
                  moment = moment_of so.at (Cell f i2) Load kinds.Look None word;
                  was = met_after u so.at w _ (came_trans u v so.at came (does_came v so.at _ so.fixes.visits)) (met_before so.at a w _ (moves_met so.at a (Cell f i2) Load kinds.Look None word so.looks) died_came);
                  place = refl;
                  word = refl;
                  hand = refl;
                }

            bad_stops : (u : PortValue) → Came u v → Stops u w (of_desc f owner) (Refused (refusals.BadDescriptor f i2 word))
            unfolding Stops
            bad_stops u came = (so.none, inl (so.at.holdings, of owner None (named (when_eq f f refl) refl tt), bad_there u came, desc_work))

            pub dead_validates : Came v a → PageValidated v w f (Err (Refused (refusals.BadDescriptor f i2 word))) → Validates b v w f owner (Err (Refused (refusals.BadDescriptor f i2 word)))
            dead_validates came course =
                record {
                  came = came_trans v a w came died_came;
                  hand = dead_gone;
                  serves = λ u ds before. died_serves u ds (so.serves u (of_desc f owner) ds before (when_eq f f refl) refl);
                  stops = bad_stops;
                  course = course;
                }
