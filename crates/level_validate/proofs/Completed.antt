-- The innermost table is made live: when it may be, and what is in hand then.
use Rattle.std.proofs.Common.{◌≡◌, ℕ, ◌<◌, not, ◌==◌, Bool, true, false, List, [], ◌∷◌, length, Some, IsTrue, refl, sym, ap, ◌∙◌, subst, Ok, ◌-◌, ◌≤◌, Option, None, arith, inl}
use Rattle.xp_words.specs.KindWords.{kind_fields, is_kind, kind_write}
use Rattle.xp_words.specs.PageTypes.{type_number, is_table}
use Rattle.xp_words.specs.Places.{sizes_of, Sizes}
use Rattle.xp_board.specs.declared.holdings.OwnerFound.{OwnerFound}
use Rattle.xp_board.specs.declared.holdings.Reference.{Reference}
use Rattle.xp_board.specs.declared.holdings.TypedReference.{TypedReference}
use Rattle.xp_board.specs.Hands.{refs_to, without_ref, without_typed, without_work, lock_on, work_on, works_on}
use Rattle.xp_board.specs.KindSteps.{live_typed}
use Rattle.xp_board.specs.Told.{PortValue, Post}
use Rattle.xp_board.proofs.ListCounts.{newest_held, first_by-cons_here, first_by-cons_other, times_by-cons_here}
use Rattle.step_maker.specs.Holds.{FlushedHolds, Holds, MayWork, quiet}
use Rattle.kind_words.specs.Kinds.{IsWholeWork, MayLeave, left, live_kind}
use Rattle.kind_words.proofs.Leaving.{left_live, left_shared, may_leave_live, may_leave_shared, without_newest}
use Rattle.partial_state.proofs.LevelFacts.{level_type-plain, level_type-typed, level_type-table}
use Rattle.partial_state.specs.declared.stack.TableWork.{TableWork}
use Rattle.partial_state.specs.Levels.{level_type}
use Rattle.table_entries.specs.Acquiring.{type_counts, Advanced, Joined, MadeLive}
use Rattle.level_validate.specs.Tables.{IsTopReady, Carries, refs_for, IsLastWord, Reaches, innermost, taken_on, under_way}
use Rattle.level_validate.proofs.Leaving.{refs_are, typed_gone, TopGone, gone_held, gone_records, gone_stands, gone_typed, gone_works, outer, recorded_ready, recorded_stands_on}
use Rattle.level_validate.proofs.Standing.{top, top_done, top_gone, top_held, top_here, top_owned, top_typed, ref_owned, refs_lent, tables_none, typed_lent, TopTable, inner_is}
use Rattle.xp_words.specs.Entries.{demand_at}
use Rattle.xp_words.specs.Machine.{Machine, IsMachine}
use Rattle.xp_words.specs.declared.entry.Demand.TheVariants.{Typed}
use Rattle.xp_words.specs.declared.kind.KindWord.{KindWord}
use Rattle.xp_words.specs.declared.kind.PageType.{PageType}
use Rattle.xp_words.specs.declared.place.Place.TheVariants.{Kind, Clock}
use Rattle.xp_board.specs.declared.holdings.Holdings.{Holdings}
use Rattle.xp_board.specs.declared.holdings.Made.{Made}
use Rattle.xp_board.specs.declared.holdings.Unsettled.{Unsettled}
use Rattle.xp_board.specs.declared.holdings.Work.{Work}
use Rattle.xp_board.specs.declared.step.Act.TheVariants.{Store, Load}
use Rattle.xp_board.specs.Acts.{left_by}
use Rattle.xp_board.specs.Knowledge.{knows_live}
use Rattle.xp_board.specs.Lists.{EachOf}
use Rattle.xp_board.specs.Marks.{leaves_unsettled}
use Rattle.xp_board.specs.Readings.{is_live_word}
use Rattle.xp_board.specs.Settling.{is_settled, settles, settles_last, settles_word}
use Rattle.xp_board.specs.Steps.{some_since}
use Rattle.xp_board.specs.WellFormed.{IsWorkFormed}
use Rattle.step_maker.specs.Moves.{Came, Moves, Met}
use Rattle.step_maker.proofs.Coming.{came_post, came_trans, moves_came, moment_of, moves_met}
use Rattle.step_maker.proofs.Noting.{moves_since}
use Rattle.flush_waits.proofs.Growing.{came_grows}
use Rattle.frame_types.specs.Taking.{gave_type}
use Rattle.kind_words.proofs.KindHands.{known_first, work_here}
use Rattle.kind_words.proofs.KindWriting.{fields_write}
use Rattle.table_words.specs.Entries.{RecordsNext, entry_recorded}
use Rattle.level_validate.specs.Giving.{MayGiveBack}
use Rattle.level_validate.proofs.Pushing.{ready_by}
use Rattle.level_validate.proofs.Entered.{shared_by}
use Rattle.xp_board.specs.declared.step.Mark.TheVariants.{Record}
use Rattle.xp_board.proofs.Works.{one_works}
use Rattle.step_maker.specs.Asked.{IsDemandOf}
use Rattle.step_maker.specs.Pauses.{Progress, entry, settles as settling}
use Rattle.step_maker.proofs.Progressing.{held_by}
use Rattle.xp_words.specs.declared.kind.PageType.TheVariants as pages
use Rattle.xp_board.specs.declared.holdings.OwnerFound.TheVariants as owners
use Rattle.xp_board.specs.declared.step.StepKind.TheVariants as kinds

no_page : (l : ℕ) → level_type l ≡ pages.Desc → ⊥
no_page l is = absurd (let k = subst (λ y. IsTrue (not (type_number y == 5))) is (level_type-plain l) in cc)

unmarked_past : (b : Bool) → b ≡ false → b ≡ true → ⊥
unmarked_past b off on = absurd cc

module _ {v w : PortValue} {owner : ℕ} {t : TableWork} {ts : List TableWork} (s : Carries v w owner (t ∷ ts)) where
  module _ (full : t.done ≡ 512) (ready : IsTopReady w) where
    whole : IsWholeWork w.post.machine t.frame (level_type t.level) w.holdings (top s).work
    whole =
        let e = top s in
        record {
          work = e.is.work;
          kind = e.is.kind;
          past = λ on. absurd (unmarked_past (kind_fields e.work.word).unflushed e.is.unmarked on);
          table = λ table. (top_done s ∙ full, ready e.work e.others e.are);
          descriptors = λ is. absurd (no_page t.level is);
        }

    pub live_leaves : (own : Bool) → t.own ≡ own → MayWork w → MayLeave w t.frame (live_kind (level_type t.level) (type_counts own))
    live_leaves true own may = may_leave_live w t.frame (level_type t.level) (top s).work (top_here s) (level_type-typed t.level) may whole (top_held s own)
    live_leaves false lent may =
        may_leave_shared w t.frame (level_type t.level) (top s).work (top_here s) (level_type-typed t.level) may whole
        (typed_lent (length w.holdings.steps) owner t ts w.holdings.typed lent s.typed).0
        (subst (λ rs. 0 < refs_to t.frame rs) (sym (s.refs ∙ refs_lent owner t ts v.holdings.refs lent)) (newest_held t.frame (record { frame = t.frame; owner = owners.Of owner }) (refs_for owner ts v.holdings.refs) refl))

  -- its typed reference, known live, is in hand
  abbrev pub live_ref : TypedReference
  live_ref = live_typed t.frame (level_type t.level) (owners.Of owner)

  pub live_may : {d : PortValue} → TopGone s live_ref d → MayWork w → MayWork d
  live_may l may =
      record {
        running = ap (λ (q : PortValue). q.holdings.run) l.hand ∙ may.running;
        no_walk = ap (λ (q : PortValue). q.holdings.walk) l.hand ∙ may.no_walk;
        machine = subst (λ (p : Post). IsMachine p.machine) (sym (ap (λ (q : PortValue). q.post) l.hand)) may.machine;
      }

  pub live_hand : (own : Bool) → t.own ≡ own → (d : PortValue) → Holds w d (left w t.frame (live_kind (level_type t.level) (type_counts own))) → TopGone s live_ref d
  live_hand true own d holds =
      let y = top_typed s own in
      record {
        rest = y.others;
        around = y.around;
        hand = ap quiet holds ∙ ap (λ h. quiet (record w { holdings = h })) (left_live w t.frame (level_type t.level) (top s).work (top_here s) (level_type-typed t.level))
            ∙ ap (λ (o : OwnerFound). quiet (record w { holdings = record w.holdings { typed = live_typed t.frame (level_type t.level) o ∷ without_typed t.frame w.holdings.typed; works = without_work t.frame w.holdings.works } })) (top_owned s own)
            ∙ ap (λ ys. quiet (record w { holdings = record w.holdings { typed = live_ref ∷ ys; works = without_work t.frame w.holdings.works } })) (typed_gone s own)
            ∙ ap (λ ws. quiet (record w { holdings = record w.holdings { typed = live_ref ∷ y.others; works = ws } })) (top_gone s)
            ∙ ap (λ rs. quiet (record w { holdings = record w.holdings { refs = rs; typed = live_ref ∷ y.others; works = (top s).others } })) (refs_are s own);
      }
  live_hand false lent d holds =
      let refs = s.refs ∙ refs_lent owner t ts v.holdings.refs lent in
      let r : Reference = record { frame = t.frame; owner = owners.Of owner } in
      record {
        rest = w.holdings.typed;
        around = (typed_lent (length w.holdings.steps) owner t ts w.holdings.typed lent s.typed).1;
        hand = ap quiet holds ∙ ap (λ h. quiet (record w { holdings = h })) (left_shared w t.frame (level_type t.level) (top s).work (top_here s) (level_type-typed t.level))
            ∙ ap (λ (o : OwnerFound). quiet (record w { holdings = record w.holdings { refs = without_ref t.frame w.holdings.refs; typed = live_typed t.frame (level_type t.level) o ∷ w.holdings.typed; works = without_work t.frame w.holdings.works } }))
            (ref_owned t.frame owner r (refs_for owner ts v.holdings.refs) w.holdings refs refl refl)
            ∙ ap (λ rs. quiet (record w { holdings = record w.holdings { refs = rs; typed = live_ref ∷ w.holdings.typed; works = without_work t.frame w.holdings.works } })) (without_newest (λ (y : Reference). y.frame) t.frame r (refs_for owner ts v.holdings.refs) w.holdings.refs refl refs)
            ∙ ap (λ ws. quiet (record w { holdings = record w.holdings { refs = refs_for owner ts v.holdings.refs; typed = live_ref ∷ w.holdings.typed; works = ws } })) (top_gone s);
      }

-- ---- the outermost one: nothing else of the tables is in hand
pub outer_live : (v w d : PortValue) (owner : ℕ) (t : TableWork) (s : Carries v w owner (t ∷ [])) → TopGone s (live_typed t.frame (level_type t.level) (owners.Of owner)) d → FlushedHolds v d (record v.holdings { typed = live_typed t.frame (level_type t.level) (owners.Of owner) ∷ v.holdings.typed })
outer_live v w d owner t s l =
    let e = top s in
    let r = live_typed t.frame (level_type t.level) (owners.Of owner) in
    l.hand ∙ ap (λ (q : PortValue). quiet (record q { holdings = record q.holdings { refs = v.holdings.refs; typed = r ∷ l.rest; works = e.others } })) s.hand
    ∙ ap (λ ys. quiet (record v { holdings = record v.holdings { typed = r ∷ ys; works = e.others } })) (l.around ∙ sym s.idle.typed)
    ∙ ap (λ ws. quiet (record v { holdings = record v.holdings { typed = r ∷ v.holdings.typed; works = ws } })) (tables_none (sizes_of v.post.machine) w.holdings.steps (Some t) e.others e.around ∙ sym s.idle.works)

-- A full table inside another one is made live, and joined to that one: a step of the course.
pub completed_so : (v u w : PortValue) (t outer : TableWork) (recorded : Bool) → t.recorded ≡ recorded → t.done ≡ 512 → MadeLive v u t → Joined u w t outer recorded →
    (owner : ℕ) (ts : List TableWork) → Advanced owner v (t ∷ outer ∷ ts) w (outer ∷ ts) (Ok true)
completed_so v u w t outer recorded is full live joined owner ts = Advanced.completed v u w t outer ts full live (subst (λ (b : Bool). Joined u w t outer b) (sym is) joined)

-- A table inside another one is live: the entry that names it is recorded; or it was before, and the reference in hand is given back.
-- ---- the entry that was recorded before
pub record TakenOn (t : TableWork) (e : Work) (g : TableWork) : Type 0 where
  pub word : ℕ
  pub all : e.recorded ≡ t.done
  pub some : 0 < t.done
  pub last : IsLastWord word e.unsettled
  pub seen : e.seen ≡ Some (record { index = t.done - 1; word = word })
  pub asks : demand_at (level_type t.level) (t.done - 1) word ≡ Typed g.frame (level_type g.level)

pub reaches_on : (z : Sizes) (steps : List Made) (t : TableWork) (e : Work) (g : TableWork) (o : Option TableWork) → o ≡ Some g → g.recorded ≡ true → Reaches z steps t e o → TakenOn t e g
reaches_on z steps t e g o inner old (innermost all) = absurd cc
reaches_on z steps t e g o inner old (under_way h word new next settled seen asks) = absurd cc
reaches_on z steps t e g o inner old (taken_on h word old2 all some last seen asks) =
    record { word = word; all = all; some = some; last = last; seen = seen; asks = asks ∙ ap (λ (y : TableWork). Typed y.frame (level_type y.level)) (inner_is h g inner) }

-- it is settled once its frame was found or left live
last_by : (z : Sizes) (e : Work) (steps : List Made) (word g : ℕ) (t : PageType) (o : Option Unsettled) → demand_at (kind_fields e.word).kind (e.recorded - 1) word ≡ Typed g t → IsLastWord word o →
    ((y : Unsettled) → o ≡ Some y → IsTrue (some_since z y.since (Kind g) is_live_word steps)) → IsTrue (settles_last z e steps o)
last_by z e steps word g t None asks last live = refl
last_by z e steps word g t (Some y) asks last live =
    subst (λ w. IsTrue (settles_word z (kind_fields e.word).kind (e.recorded - 1) y.since steps w)) (sym last) (subst (λ d. IsTrue (settles z y.since steps d)) (sym asks) (live y refl))

unsettled_not : (b : Bool) → b ≡ true → not b ≡ false
unsettled_not b on = rw on refl

second_of : (n : Machine) (h : Holdings) (x y : Work) (zs ws : List Work) → ws ≡ x ∷ y ∷ zs → EachOf (IsWorkFormed n h) ws → IsWorkFormed n h y
unfolding EachOf
second_of n h x y zs ws are each = (subst (λ us. EachOf (IsWorkFormed n h) us) are each).1.0

module _ {v w : PortValue} {owner : ℕ} {t u : TableWork} {us : List TableWork} {s : Carries v w owner (t ∷ u ∷ us)} {d : PortValue} {found : ℕ} (store : Moves w d (Kind t.frame) (Store (kind_write (live_kind (level_type t.level) (type_counts t.own)))) kinds.Kind None found) (l : TopGone s (live_typed t.frame (level_type t.level) (owners.Of owner)) d) where
  abbrev inner : TopTable (sizes_of v.post.machine) w.holdings.steps None t (u ∷ us) w.holdings.works
  inner = top s

  abbrev mine : TypedReference
  mine = live_typed t.frame (level_type t.level) (owners.Of owner)

  came_d : Came w d
  came_d = moves_came w d _ _ _ _ found store

  knows : (n : Sizes) → IsTrue (knows_live n t.frame (level_type t.level) d.holdings)
  knows n = known_first n t.frame (level_type t.level) (owners.Of owner) l.rest d.holdings (gone_typed l)

  -- ---- recorded now
  module _ (new : t.recorded ≡ false) where
    pub live_records : RecordsNext d.post.machine u.frame u.done d.holdings
    live_records = gone_records l refl refl came_d new (inl (knows (sizes_of d.post.machine)))

    module _ (x : PortValue) (holds : Holds d x (entry_recorded d.post.machine u.frame d.holdings)) (came : Came w x) where
      settles_it : leaves_unsettled (sizes_of d.post.machine) d.holdings (Typed t.frame (level_type t.level)) ≡ false
      settles_it = unsettled_not (knows_live (sizes_of d.post.machine) t.frame (level_type t.level) d.holdings) (knows (sizes_of d.post.machine))

      pub new_stands : Carries v x owner (u ∷ us)
      new_stands = recorded_stands_on l refl refl came_d new (inl (knows (sizes_of d.post.machine))) false settles_it x holds came

      pub new_ready : IsTopReady x
      new_ready = recorded_ready l refl refl came_d new (inl (knows (sizes_of d.post.machine))) false settles_it x holds came refl

  -- ---- recorded before
  module _ (old : t.recorded ≡ true) where
    pub on : TakenOn u (outer s).work t
    on = reaches_on (sizes_of v.post.machine) w.holdings.steps u (outer s).work t (Some t) refl old (outer s).reaches

    pub asks_on : demand_at (kind_fields (outer s).work.word).kind (u.done - 1) on.word ≡ Typed t.frame (level_type t.level)
    asks_on = ap (λ k. demand_at k (u.done - 1) on.word) (outer s).is.kind ∙ on.asks

    pub live_gives : MayGiveBack d.post.machine d.post.vcpu t.frame d.holdings
    live_gives =
        let all = on.all in
        let some = on.some in
        record {
          drops = record { in_hand = gone_held l refl; kind = level_type t.level; live = knows (sizes_of d.post.machine) };
          shared = shared_by d.post.machine d.post.vcpu d.holdings u.frame (work_here u.frame (outer s).work (outer s).others d.holdings.works (outer s).is.frame (gone_works l)) (ap is_table (outer s).is.kind ∙ level_type-table u.level s.stack.2.0.low) (u.done - 1) on.word
              (omega (arith, all, some)) on.seen asks_on (gone_held l refl);
        }

    since_low : (y : Unsettled) → (outer s).work.unsettled ≡ Some y → y.since ≤ length w.holdings.steps
    since_low y is =
        let f = store.finds in
        let each = subst (λ (h : Holdings). EachOf (IsWorkFormed w.post.machine h) h.works) f.mine (f.sound.formed w.post.vcpu f.real).works in
        ((second_of w.post.machine w.holdings inner.work (outer s).work (outer s).others w.holdings.works (inner.are ∙ ap (λ ws. inner.work ∷ ws) (outer s).are) each).unsettled y is).1

    module _ (spelled : IsTrue (is_kind (live_kind (level_type t.level) (type_counts t.own)))) (x : PortValue) (holds : Holds d x (gave_type t.frame d.holdings)) (came : Came d x) where
      given_hand : FlushedHolds w x (record w.holdings { refs = refs_for owner (u ∷ us) v.holdings.refs; typed = l.rest; works = (outer s).work ∷ (outer s).others })
      given_hand =
          ap quiet holds ∙ ap (λ (q : PortValue). quiet (record q { holdings = gave_type t.frame q.holdings })) l.hand
          ∙ ap (λ ys. quiet (record w { holdings = record w.holdings { refs = refs_for owner (u ∷ us) v.holdings.refs; typed = ys; works = inner.others } })) (without_newest (λ (y : TypedReference). y.frame) t.frame mine l.rest _ refl refl)
          ∙ ap (λ ws. quiet (record w { holdings = record w.holdings { refs = refs_for owner (u ∷ us) v.holdings.refs; typed = l.rest; works = ws } })) (outer s).are

      pub old_stands : Carries v x owner (u ∷ us)
      old_stands = gone_stands l x (outer s).work (came_trans w d x came_d came) given_hand (outer s).is on.all

      live_there : (y : Unsettled) → (outer s).work.unsettled ≡ Some y → IsTrue (some_since (sizes_of w.post.machine) y.since (Kind t.frame) is_live_word x.holdings.steps)
      unfolding left_by
      live_there y is =
          let k = live_kind (level_type t.level) (type_counts t.own) in
          came_grows d x came _ (moves_since w d (Kind t.frame) (Store (kind_write k)) kinds.Kind None found store y.since is_live_word (since_low y is) (ap (λ (q : KindWord). q.validated) (fields_write k spelled)))

      pub old_ready : IsTopReady x
      unfolding is_settled
      old_ready =
          ready_by x (outer s).work (outer s).others (ap (λ (q : PortValue). q.holdings.works) given_hand)
          (subst (λ (p : Post). IsTrue (settles_last (sizes_of p.machine) (outer s).work x.holdings.steps (outer s).work.unsettled)) (sym (came_post w x (came_trans w d x came_d came)))
          (last_by (sizes_of w.post.machine) (outer s).work x.holdings.steps on.word t.frame (level_type t.level) (outer s).work.unsettled
          (ap (λ n. demand_at (kind_fields (outer s).work.word).kind (n - 1) on.word) on.all ∙ asks_on) on.last live_there))

-- Progress: an entry of a table in the own works is recorded; or a recorded one is settled, as the table that it names is live.
-- ---- an entry is recorded
pub progress_records : (v w : PortValue) (f upto clock : ℕ) → Moves v w Clock Load kinds.Look (Some (Record f upto)) clock → Progress (Met v w)
unfolding moment_of
progress_records v w f upto clock look = entry (moment_of v Clock Load kinds.Look (Some (Record f upto)) clock) (moves_met v w Clock Load kinds.Look (Some (Record f upto)) clock look) refl

-- ---- a recorded entry is settled
-- a frame is in the own works once
two_works : (f : ℕ) (x y : Work) (zs ws : List Work) → ws ≡ x ∷ y ∷ zs → works_on f ws ≤ 1 → x.frame ≡ f → y.frame ≡ f → ⊥
two_works f x y zs ws are few first second =
    let all = ap (λ us. works_on f us) are in
    let one = times_by-cons_here (λ (e : Work). e.frame) f x (y ∷ zs) first in
    let two = times_by-cons_here (λ (e : Work). e.frame) f y zs second in
    omega (arith, all, few, one, two)

pub second_here : (f : ℕ) (x y : Work) (zs ws : List Work) → ws ≡ x ∷ y ∷ zs → works_on f ws ≤ 1 → y.frame ≡ f → work_on f ws ≡ Some y
second_here f x y zs ws are few second =
    ap (λ us. work_on f us) are ∙ first_by-cons_other (λ (e : Work). e.frame) f x (y ∷ zs) (λ first. two_works f x y zs ws are few first second)
    ∙ first_by-cons_here (λ (e : Work). e.frame) f y zs second

module _ {v w : PortValue} {owner : ℕ} {t u : TableWork} {us : List TableWork} {s : Carries v w owner (t ∷ u ∷ us)} {d : PortValue} {found : ℕ} (store : Moves w d (Kind t.frame) (Store (kind_write (live_kind (level_type t.level) (type_counts t.own)))) kinds.Kind None found) (l : TopGone s (live_typed t.frame (level_type t.level) (owners.Of owner)) d) where
  few : works_on u.frame w.holdings.works ≤ 1
  few =
      let f = store.finds in
      subst (λ h. works_on u.frame h.works ≤ 1) f.mine (one_works w.post.machine f.words f.hands f.sound.alone u.frame w.post.vcpu f.real)

  around_here : work_on u.frame w.holdings.works ≡ Some (outer s).work
  around_here =
      let i = top s in
      let o = outer s in
      second_here u.frame i.work o.work o.others w.holdings.works (i.are ∙ ap (λ ws. i.work ∷ ws) o.are) few o.is.frame

  pub progress_settles : t.recorded ≡ true → IsTrue (is_kind (live_kind (level_type t.level) (type_counts t.own))) → Progress (Met w d)
  unfolding moment_of
  progress_settles old spelled =
      let o = outer s in
      let k = on store l old in
      let live = live_kind (level_type t.level) (type_counts t.own) in
      let all = k.all in
      let some = k.some in
      let held = held_by (u.done - 1) k.word (work_on u.frame w.holdings.works) o.work (lock_on u.frame w.holdings.locks) (Typed t.frame (level_type t.level)) around_here
      (ap is_table o.is.kind ∙ level_type-table u.level s.stack.2.0.low) o.is.unmarked (asks_on store l old) in
      settling (moment_of w (Kind t.frame) (Store (kind_write live)) kinds.Kind None found) t.frame u.frame (kind_write live) o.work (record { index = u.done - 1; word = k.word })
      (moves_met w d (Kind t.frame) (Store (kind_write live)) kinds.Kind None found store) refl refl
      (subst (λ (q : KindWord). IsTrue q.validated) (sym (fields_write live spelled)) refl) around_here k.seen (omega (arith, all, some))
      (subst (λ y. IsDemandOf t.frame None y) (sym held) (refl, tt))
