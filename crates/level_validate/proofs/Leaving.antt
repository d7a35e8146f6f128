-- The innermost table is not in work any more, and a typed reference to it is in hand: the entry that names it is recorded with that one.
use Rattle.std.proofs.Common.{◌≡◌, ◌⊎◌, ℕ, ◌<◌, Bool, false, List, ◌∷◌, length, Some, IsTrue, refl, sym, ap, ◌∙◌, subst, arith, inl, ◌≢◌, ◌-◌, ◌≤◌, true, [], None, inr, ◌||◌, if◌then◌else◌}
use Rattle.xp_words.specs.PageTypes.{is_table}
use Rattle.xp_words.specs.Entries.{demand_at}
use Rattle.xp_words.specs.Places.{Sizes, sizes_of}
use Rattle.xp_words.specs.declared.entry.Demand.TheVariants.{Typed}
use Rattle.xp_board.specs.declared.holdings.Holdings.{Holdings}
use Rattle.xp_board.specs.declared.holdings.TypedReference.{TypedReference}
use Rattle.xp_board.specs.declared.holdings.Work.{Work}
use Rattle.xp_board.specs.Hands.{changed_work, typed_to, refs_to, without_work, work_on, without_typed}
use Rattle.xp_board.specs.Knowledge.{knows_live, knows_owner, knows_partial}
use Rattle.xp_board.specs.Marks.{leaves_unsettled}
use Rattle.xp_board.specs.Settling.{HasLastDemand, demand_out, is_settled, settles_last}
use Rattle.xp_board.specs.Told.{PortValue, Post}
use Rattle.step_maker.specs.Holds.{FlushedHolds, Holds, quiet}
use Rattle.step_maker.specs.Moves.{Came, Moves}
use Rattle.flush_words.proofs.Lasting.{came_longer}
use Rattle.flush_waits.proofs.Growing.{came_grows, Grows}
use Rattle.kind_words.proofs.KindHands.{changed_first, typed_held, work_here, apart_spares}
use Rattle.kind_words.proofs.Leaving.{without_newest}
use Rattle.table_words.specs.Entries.{RecordsNext, entry_recorded}
use Rattle.table_words.proofs.EntryHands.{next_asks, record_left, unsettled_for}
use Rattle.table_words.proofs.Shedding.{none_unsettled}
use Rattle.table_entries.proofs.HandOwners.{typed_knows_its, typed_knows_still}
use Rattle.table_entries.proofs.HandReady.{settled_more}
use Rattle.partial_state.proofs.LevelFacts.{level_type-table}
use Rattle.partial_state.specs.Levels.{level_type}
use Rattle.partial_state.specs.declared.stack.TableWork.{TableWork}
use Rattle.level_validate.specs.Tables.{AreTyped, Carries, IsTableWork, IsTopReady, innermost, refs_for, AreTables}
use Rattle.level_validate.proofs.Pushing.{ready_by}
use Rattle.level_validate.proofs.Standing.{TopTable, UnderWay, reaches_under, stands_by, stands_post, tables_later, tables_top, top, top_known, typed_later, reaches_taken, top_gone, top_spelled, top_typed, refs_done, refs_lent, tables_inner, typed_done, typed_lent, work_done, TopTyped, refs_own}
use Rattle.xp_words.specs.KindWords.{kind_write}
use Rattle.xp_words.specs.declared.place.Place.TheVariants.{Kind}
use Rattle.xp_board.specs.declared.holdings.Made.{Made}
use Rattle.xp_board.specs.declared.holdings.Reference.{Reference}
use Rattle.xp_board.specs.declared.step.Act.TheVariants.{Store}
use Rattle.xp_board.proofs.ListCounts.{newest_held}
use Rattle.frame_words.specs.Freeing.{gave}
use Rattle.frame_words.specs.Refs.{MayPut}
use Rattle.kind_words.specs.Kinds.{partial_kind}
use Rattle.kind_words.proofs.KindFacts.{out_of_works}
use Rattle.partial_state.proofs.StackFacts.{stack_retreated}
use Rattle.partial_state.specs.Stacks.{IsStack, done_on_top, retreated}
use Rattle.level_validate.specs.Unwinding.{around_lent, left_so}
use Rattle.xp_board.specs.Acts.{left_by}
use Rattle.step_maker.proofs.Coming.{moves_came}
use Rattle.frame_types.specs.Taking.{working_typed}
use Rattle.kind_words.proofs.KindWriting.{partial_as}
use Rattle.kind_words.proofs.Knowing.{partial_by_step}
use Rattle.xp_words.specs.declared.kind.KindWord.{KindWord}
use Rattle.xp_words.specs.declared.kind.PageType.{PageType}
use Rattle.step_maker.specs.Visits.{Does}
use Rattle.kept_marks.specs.Marks.{KeptFor}
use Rattle.frame_types.specs.Found.{SharedBy, StoresKind}
use Rattle.table_entries.specs.Acquiring.{GaveRef, InnerLeft, LeftPartial, Named, OutermostLeft, Unwound, WaitingLeft, around_left}
use Rattle.level_validate.specs.Courses.{UnwindsOn}
use Rattle.xp_board.specs.declared.holdings.OwnerFound.TheVariants as owners
use Rattle.xp_board.specs.declared.step.StepKind.TheVariants as kinds

module _ {v w : PortValue} {owner : ℕ} {t : TableWork} {ts : List TableWork} (s : Carries v w owner (t ∷ ts)) where
  pub record TopGone (ref : TypedReference) (d : PortValue) : Type 0 where
    pub rest : List TypedReference
    pub around : AreTyped (length w.holdings.steps) owner ts rest
    pub hand : FlushedHolds w d (record w.holdings { refs = refs_for owner ts v.holdings.refs; typed = ref ∷ rest; works = (top s).others })

module _ {v w : PortValue} {owner : ℕ} {t u : TableWork} {us : List TableWork} (s : Carries v w owner (t ∷ u ∷ us)) where
  pub outer : TopTable (sizes_of v.post.machine) w.holdings.steps (Some t) u us (top s).others
  outer = tables_top (sizes_of v.post.machine) w.holdings.steps (Some t) u us (top s).others (top s).around

module _ {v w : PortValue} {owner : ℕ} {t u : TableWork} {us : List TableWork} {s : Carries v w owner (t ∷ u ∷ us)} {ref : TypedReference} {d : PortValue} (l : TopGone s ref d) where
  abbrev z : Sizes
  z = sizes_of v.post.machine

  abbrev o : TopTable z w.holdings.steps (Some t) u us (top s).others
  o = outer s

  post_d : d.post ≡ v.post
  post_d = ap (λ (q : PortValue). q.post) l.hand ∙ stands_post v w owner (t ∷ u ∷ us) s

  pub gone_works : d.holdings.works ≡ o.work ∷ o.others
  gone_works = ap (λ (q : PortValue). q.holdings.works) l.hand ∙ o.are

  pub gone_typed : d.holdings.typed ≡ ref ∷ l.rest
  gone_typed = ap (λ (q : PortValue). q.holdings.typed) l.hand

  refs_d : d.holdings.refs ≡ refs_for owner (u ∷ us) v.holdings.refs
  refs_d = ap (λ (q : PortValue). q.holdings.refs) l.hand

  -- what stands then, without that reference
  pub gone_stands : (x : PortValue) (e : Work) → Came w x → FlushedHolds w x (record w.holdings { refs = refs_for owner (u ∷ us) v.holdings.refs; typed = l.rest; works = e ∷ o.others }) → IsTableWork z u e → e.recorded ≡ u.done → Carries v x owner (u ∷ us)
  gone_stands x e came hand is all =
      let longer = came_longer w x came in
      stands_by v w x owner (t ∷ u ∷ us) (u ∷ us) (refs_for owner (u ∷ us) v.holdings.refs) l.rest (e ∷ o.others) s hand s.stack.2
      (is, innermost all, tables_later z (Some u) us o.others w.holdings x.holdings (came_grows w x came) longer o.around) refl
      (typed_later (length w.holdings.steps) (length x.holdings.steps) owner (u ∷ us) l.rest longer l.around)

  module _ (frame : ref.frame ≡ t.frame) where
    pub gone_held : 0 < typed_to t.frame d.holdings.typed
    gone_held = subst (λ ys. 0 < typed_to t.frame ys) (sym gone_typed) (typed_held t.frame ref l.rest frame)

    module _ (owned : ref.owner ≡ owners.Of owner) (came : Came w d) (new : t.recorded ≡ false) (known : IsTrue (knows_live (sizes_of d.post.machine) t.frame (level_type t.level) d.holdings) ⊎ IsTrue (knows_partial (sizes_of d.post.machine) t.frame (level_type t.level) d.holdings)) where
      way : UnderWay z w.holdings.steps u o.work t
      way = reaches_under z w.holdings.steps u o.work t (Some t) refl new o.reaches

      abbrev behind : Holdings
      behind = record d.holdings { typed = l.rest }

      has_typed : HasLastDemand d.post.machine u.frame (level_type u.level) d.holdings (Typed t.frame (level_type t.level))
      has_typed =
          let zd = sizes_of d.post.machine in (
            record {
              in_hand = gone_held;
              owners = record {
                table = owner;
                frame = owner;
                table_known = typed_knows_still zd owner behind d.holdings ref owned refl gone_typed u.frame (top_known (length w.holdings.steps) owner u us v.holdings.refs behind refs_d l.around);
                frame_known = subst (λ f. IsTrue (knows_owner zd f owner d.holdings)) frame (typed_knows_its zd owner behind d.holdings ref owned refl gone_typed);
                meet = inl refl;
              };
            },
            known,
          )

      settled_d : IsTrue (is_settled (sizes_of d.post.machine) d.holdings o.work)
      unfolding is_settled
      settled_d =
          subst (λ (p : Post). IsTrue (settles_last (sizes_of p.machine) o.work d.holdings.steps o.work.unsettled)) (sym post_d)
          (settled_more z w.holdings d.holdings o.work (came_grows w d came) way.settled)

      pub gone_records : RecordsNext d.post.machine u.frame u.done d.holdings
      gone_records =
          record {
            work = o.work;
            may = record {
              here = work_here u.frame o.work o.others d.holdings.works o.is.frame gone_works;
              table = subst (λ k. IsTrue (is_table k)) (sym o.is.kind) (level_type-table u.level s.stack.2.0.low);
              unmarked = o.is.unmarked;
              next = sym way.next;
              inside = (let next = way.next in let few = s.stack.2.0.done in omega (arith, next, few));
              settled = settled_d;
              word = way.word;
              seen = way.seen;
              in_hand = subst (λ k. HasLastDemand d.post.machine u.frame k d.holdings (demand_at k o.work.recorded way.word)) (sym o.is.kind)
                  (subst (λ y. HasLastDemand d.post.machine u.frame (level_type u.level) d.holdings y) (sym way.asks) has_typed);
            };
          }

      asks_is : next_asks d.post.machine u.frame u.done d.holdings gone_records ≡ Typed t.frame (level_type t.level)
      unfolding gone_records
      asks_is = ap (λ k. demand_at k o.work.recorded way.word) o.is.kind ∙ way.asks

      module _ (b : Bool) (stays : leaves_unsettled (sizes_of d.post.machine) d.holdings (Typed t.frame (level_type t.level)) ≡ b) (x : PortValue) (holds : Holds d x (entry_recorded d.post.machine u.frame d.holdings)) (on : Came w x) where
        recorded_now : Work → Work
        recorded_now e = record e { recorded = u.done; unsettled = unsettled_for b gone_records.may.word d.holdings }

        recorded_left : entry_recorded d.post.machine u.frame d.holdings ≡ record d.holdings { typed = l.rest; works = recorded_now o.work ∷ o.others }
        unfolding recorded_now
        recorded_left =
            record_left d.post.machine u.frame u.done d.holdings gone_records b (ap (λ y. leaves_unsettled (sizes_of d.post.machine) d.holdings y) asks_is ∙ stays)
            ∙ ap (λ y. record (demand_out y d.holdings) { works = changed_work u.frame recorded_now d.holdings.works }) asks_is
            ∙ ap (λ ys. record d.holdings { typed = ys; works = changed_work u.frame recorded_now d.holdings.works }) (without_newest (λ (y : TypedReference). y.frame) t.frame ref l.rest d.holdings.typed frame gone_typed)
            ∙ ap (λ ws. record d.holdings { typed = l.rest; works = ws }) (changed_first u.frame recorded_now o.work o.others d.holdings.works gone_works o.is.frame)

        recorded_hand : FlushedHolds w x (record w.holdings { refs = refs_for owner (u ∷ us) v.holdings.refs; typed = l.rest; works = recorded_now o.work ∷ o.others })
        recorded_hand =
            ap quiet holds ∙ ap (λ h. quiet (record d { holdings = h })) recorded_left
            ∙ ap (λ (q : PortValue). quiet (record q { holdings = record q.holdings { typed = l.rest; works = recorded_now o.work ∷ o.others } })) l.hand

        pub recorded_stands_on : Carries v x owner (u ∷ us)
        unfolding recorded_now
        recorded_stands_on = gone_stands x (recorded_now o.work) on recorded_hand (record { inside = o.is.inside; frame = o.is.frame; work = o.is.work; kind = o.is.kind; unmarked = o.is.unmarked; lent = o.is.lent }) refl

        pub recorded_ready : b ≡ false → IsTopReady x
        unfolding recorded_now
        recorded_ready off =
            ready_by x (recorded_now o.work) o.others (ap (λ (q : PortValue). q.holdings.works) recorded_hand)
            (none_unsettled (sizes_of x.post.machine) x.holdings (recorded_now o.work) (ap (λ y. unsettled_for y gone_records.may.word d.holdings) off))

-- The innermost table is left partial as another holder's, and the reference in hand is given back.
-- ---- the tables around it
-- its entry was recorded before
pub around_taken : (z : Sizes) (h k : Holdings) (t : TableWork) (ts : List TableWork) (es : List Work) → Grows h k → length h.steps ≤ length k.steps → t.recorded ≡ true → AreTables z h.steps (Some t) ts es → AreTables z k.steps None ts es
around_taken z h k t [] [] grows longer old are = tt
around_taken z h k t [] (e ∷ es) grows longer old are = absurd are
around_taken z h k t (u ∷ us) [] grows longer old are = absurd are
around_taken z h k t (u ∷ us) (e ∷ es) grows longer old are =
    (are.0, innermost (reaches_taken z h.steps u e t (Some t) refl old are.1), tables_later z (Some u) us es h k grows longer are.2)

-- it is not done with any more
pub around_retreated : (z : Sizes) (h k : Holdings) (t : TableWork) (ts : List TableWork) (es : List Work) → Grows h k → length h.steps ≤ length k.steps → t.recorded ≡ false → AreTables z h.steps (Some t) ts es → AreTables z k.steps None (retreated ts) es
around_retreated z h k t [] [] grows longer new are = tt
around_retreated z h k t [] (e ∷ es) grows longer new are = absurd are
around_retreated z h k t (u ∷ us) [] grows longer new are = absurd are
around_retreated z h k t (u ∷ us) (e ∷ es) grows longer new are =
    let way = reaches_under z h.steps u e t (Some t) refl new are.1 in
    let next = way.next in
    (work_done z u e (u.done - 1) are.0, innermost (omega (arith, next)), tables_inner z k.steps u (u.done - 1) us es (tables_later z (Some u) us es h k grows longer are.2))

pub around_by : (b : Bool) (z : Sizes) (h k : Holdings) (t : TableWork) (ts : List TableWork) (es : List Work) → Grows h k → length h.steps ≤ length k.steps → t.recorded ≡ b → AreTables z h.steps (Some t) ts es → AreTables z k.steps None (around_lent b ts) es
around_by true z h k t ts es grows longer is are = around_taken z h k t ts es grows longer is are
around_by false z h k t ts es grows longer is are = around_retreated z h k t ts es grows longer is are

stack_around : (b : Bool) (ts : List TableWork) → IsStack ts → IsStack (around_lent b ts)
stack_around true ts is = is
stack_around false ts is = stack_retreated ts is

refs_around : (b : Bool) (owner : ℕ) (ts : List TableWork) (rs : List Reference) → refs_for owner ts rs ≡ refs_for owner (around_lent b ts) rs
refs_around true owner ts rs = refl
refs_around false owner [] rs = refl
refs_around false owner (u ∷ us) rs = refs_done owner u (u.done - 1) us rs

typed_around : (b : Bool) (made owner : ℕ) (ts : List TableWork) (ys : List TypedReference) → AreTyped made owner ts ys → AreTyped made owner (around_lent b ts) ys
typed_around true made owner ts ys are = are
typed_around false made owner [] ys are = are
typed_around false made owner (u ∷ us) ys are = typed_done made owner u (u.done - 1) us ys are

-- an entry is under way there
under_some : (z : Sizes) (steps : List Made) (t : TableWork) (ts : List TableWork) (es : List Work) → t.recorded ≡ false → ts ≢ [] → AreTables z steps (Some t) ts es → 0 < done_on_top ts
under_some z steps t [] es new some are = absurd (some refl)
under_some z steps t (u ∷ us) [] new some are = absurd are
under_some z steps t (u ∷ us) (e ∷ es) new some are = let next = (reaches_under z steps u e t (Some t) refl new are.1).next in omega (arith, next)

pub retreat_some : (v w : PortValue) (owner : ℕ) (t : TableWork) (ts : List TableWork) → Carries v w owner (t ∷ ts) → t.recorded ≡ false → ts ≢ [] → 0 < done_on_top ts
retreat_some v w owner t ts s new some = let e = top s in under_some (sizes_of v.post.machine) w.holdings.steps t ts e.others new some e.around

module _ {v w : PortValue} {owner : ℕ} {t : TableWork} {ts : List TableWork} (s : Carries v w owner (t ∷ ts)) (lent : t.own ≡ false) {d : PortValue} {found : ℕ} (store : Moves w d (Kind t.frame) (Store (kind_write (partial_kind (level_type t.level) false false t.done 0))) kinds.Kind None found) (hand : Holds w d (left_so t.frame w.holdings)) where
  abbrev lent_ref : Reference
  lent_ref = record { frame = t.frame; owner = owners.Of owner }

  refs_were : w.holdings.refs ≡ lent_ref ∷ refs_for owner ts v.holdings.refs
  refs_were = s.refs ∙ refs_lent owner t ts v.holdings.refs lent

  pub lent_puts : MayPut t.frame d.holdings
  lent_puts =
      record {
        held = subst (λ rs. 0 < refs_to t.frame rs) (sym (ap (λ (q : PortValue). q.holdings.refs) hand ∙ refs_were)) (newest_held t.frame lent_ref (refs_for owner ts v.holdings.refs) refl);
        spares = apart_spares t.frame d.holdings (ap (λ (q : PortValue). work_on t.frame q.holdings.works) hand ∙ out_of_works w.post.machine w.post.vcpu w.holdings (Kind t.frame) found store.finds t.frame);
      }

  module _ (x : PortValue) (put : Holds d x (gave t.frame d.holdings)) (came : Came w x) where
    pub lent_gone : FlushedHolds w x (record w.holdings { refs = refs_for owner ts v.holdings.refs; typed = w.holdings.typed; works = (top s).others })
    lent_gone =
        ap quiet put ∙ ap (λ (q : PortValue). quiet (record q { holdings = gave t.frame q.holdings })) hand
        ∙ ap (λ rs. quiet (record w { holdings = record w.holdings { refs = rs; works = without_work t.frame w.holdings.works } })) (without_newest (λ (y : Reference). y.frame) t.frame lent_ref (refs_for owner ts v.holdings.refs) w.holdings.refs refl refs_were)
        ∙ ap (λ ws. quiet (record w { holdings = record w.holdings { refs = refs_for owner ts v.holdings.refs; works = ws } })) (top_gone s)

    pub lent_stands : (b : Bool) → t.recorded ≡ b → Carries v x owner (around_lent b ts)
    lent_stands b is =
        let longer = came_longer w x came in
        stands_by v w x owner (t ∷ ts) (around_lent b ts) (refs_for owner ts v.holdings.refs) w.holdings.typed (top s).others s lent_gone (stack_around b ts s.stack.2)
        (around_by b (sizes_of v.post.machine) w.holdings x.holdings t ts (top s).others (came_grows w x came) longer is (top s).around)
        (refs_around b owner ts v.holdings.refs)
        (typed_around b (length x.holdings.steps) owner ts w.holdings.typed (typed_later (length w.holdings.steps) (length x.holdings.steps) owner ts w.holdings.typed longer (typed_lent (length w.holdings.steps) owner t ts w.holdings.typed lent s.typed).1))

-- The innermost table is left partial, and its type count goes into the entry that names it.
module _ {v w : PortValue} {owner : ℕ} {t : TableWork} {ts : List TableWork} (s : Carries v w owner (t ∷ ts)) (own : t.own ≡ true) where
  abbrev own_typed : TopTyped (length w.holdings.steps) owner t ts w.holdings.typed
  own_typed = top_typed s own

  abbrev own_ref : TypedReference
  own_ref = working_typed t.frame owner (level_type t.level) own_typed.since

  pub refs_are : w.holdings.refs ≡ refs_for owner ts v.holdings.refs
  refs_are = s.refs ∙ refs_own owner t ts v.holdings.refs own

  -- its entry is under way
  pub own_new : t.recorded ≡ false
  own_new = not_recorded t.recorded refl
    where
      not_recorded : (b : Bool) → t.recorded ≡ b → t.recorded ≡ false
      not_recorded true old = let no : true ≡ false = sym own ∙ (top s).is.lent old in absurd cc
      not_recorded false new = new

  pub typed_gone : without_typed t.frame w.holdings.typed ≡ own_typed.others
  typed_gone = without_newest (λ (y : TypedReference). y.frame) t.frame own_ref own_typed.others w.holdings.typed refl own_typed.are

-- ---- into the entry of the table around it
module _ {v w : PortValue} {owner : ℕ} {t u : TableWork} {us : List TableWork} (s : Carries v w owner (t ∷ u ∷ us)) (own : t.own ≡ true) (new : t.recorded ≡ false) {d : PortValue} {found : ℕ} (store : Moves w d (Kind t.frame) (Store (kind_write (partial_kind (level_type t.level) false false t.done 0))) kinds.Kind None found) (hand : Holds w d (left_so t.frame w.holdings)) where
  abbrev mine : TopTyped (length w.holdings.steps) owner t (u ∷ us) w.holdings.typed
  mine = top_typed s own

  abbrev my_ref : TypedReference
  my_ref = working_typed t.frame owner (level_type t.level) mine.since

  own_gone : TopGone s my_ref d
  own_gone =
      record {
        rest = mine.others;
        around = mine.around;
        hand = ap quiet hand ∙ ap (λ ys. quiet (record w { holdings = record w.holdings { typed = ys; works = without_work t.frame w.holdings.works } })) mine.are
            ∙ ap (λ ws. quiet (record w { holdings = record w.holdings { typed = my_ref ∷ mine.others; works = ws } })) (top_gone s)
            ∙ ap (λ rs. quiet (record w { holdings = record w.holdings { refs = rs; typed = my_ref ∷ mine.others; works = (top s).others } })) (refs_are s own);
      }

  partial_there : IsTrue (knows_partial (sizes_of d.post.machine) t.frame (level_type t.level) d.holdings)
  unfolding left_by own_gone
  partial_there =
      subst (λ (p : Post). IsTrue (knows_partial (sizes_of p.machine) t.frame (level_type t.level) d.holdings)) (sym (ap (λ (q : PortValue). q.post) hand))
      (partial_by_step w d t.frame (level_type t.level) (Store (kind_write (partial_kind (level_type t.level) false false t.done 0))) kinds.Kind None found store my_ref mine.others mine.since (gone_typed own_gone) refl refl mine.low
      (partial_as (level_type t.level) t.done (top_spelled s false (λ on. absurd cc))))

  pub own_records : RecordsNext d.post.machine u.frame u.done d.holdings
  own_records = gone_records own_gone refl refl (moves_came w d _ _ _ _ found store) new (inr partial_there)

  pub own_stands : (x : PortValue) → Holds d x (entry_recorded d.post.machine u.frame d.holdings) → Came w x → Carries v x owner (u ∷ us)
  own_stands x holds on = recorded_stands_on own_gone refl refl (moves_came w d _ _ _ _ found store) new (inr partial_there) _ refl x holds on

-- Tables that are left unfinished: that part of the course.
-- ---- a frame that waits for a flush
module _ (v w : PortValue) (f level owner stamp : ℕ) (own kept : Bool) {k : PageType} (is : k ≡ level_type level) where
  pub waiting_lent : own ≡ false → Does v w (λ vs. SharedBy f k stamp vs) → WaitingLeft v w f level owner stamp own kept
  waiting_lent lent does = subst (λ (b : Bool). WaitingLeft v w f level owner stamp b kept) (sym lent) (subst (λ (j : PageType). Does v w (λ vs. SharedBy f j stamp vs)) is does)

  pub waiting_kept : own ≡ true → kept ≡ true → (word : KindWord) → word ≡ partial_kind k true true 0 stamp → KeptFor v w f word owner → WaitingLeft v w f level owner stamp own kept
  waiting_kept mine on word so left =
      subst (λ (b : Bool). WaitingLeft v w f level owner stamp b kept) (sym mine)
      (subst (λ (b : Bool). WaitingLeft v w f level owner stamp true b) (sym on)
      (subst (λ (j : PageType). KeptFor v w f (partial_kind j true true 0 stamp) owner) is (subst (λ (l : KindWord). KeptFor v w f l owner) so left)))

  pub waiting_named : own ≡ true → kept ≡ false → (u : PortValue) → Does v u (λ vs. StoresKind f (partial_kind k false true 0 stamp) vs) → Named u w f → WaitingLeft v w f level owner stamp own kept
  waiting_named mine off u does named =
      subst (λ (b : Bool). WaitingLeft v w f level owner stamp b kept) (sym mine)
      (subst (λ (b : Bool). WaitingLeft v w f level owner stamp true b) (sym off) (u, subst (λ (j : PageType). Does v u (λ vs. StoresKind f (partial_kind j false true 0 stamp) vs)) is does, named))

-- ---- tables in work, from the innermost one on
module _ (v w : PortValue) (owner : ℕ) (t : TableWork) where
  -- the only one
  pub outer_unwinds : (kept : Bool) (stack : List TableWork) → stack ≡ [] → OutermostLeft v w owner t t.own kept → UnwindsOn v w owner kept (t ∷ stack) stack
  unfolding UnwindsOn
  outer_unwinds kept stack none left =
      subst (λ (ts : List TableWork). (x : PortValue) → Unwound w owner ts kept x → Unwound v owner (t ∷ ts) kept x) (sym none) (λ x same. subst (λ (y : PortValue). OutermostLeft v y owner t t.own kept) (sym same) left)

  -- its type count goes into its mark
  pub kept_left : (kept : Bool) → kept ≡ true → KeptFor v w t.frame (partial_kind (level_type t.level) true false t.done 0) owner → OutermostLeft v w owner t true kept
  kept_left kept on left = subst (λ (b : Bool). OutermostLeft v w owner t true b) (sym on) left

  -- inside another one: its type count is in hand, and the one around it stays as it was
  pub own_unwinds : (kept : Bool) (stack : List TableWork) → (stack ≡ [] → ⊥) → t.own ≡ true → ((outer : TableWork) (ts : List TableWork) → stack ≡ outer ∷ ts → InnerLeft v w t outer true) → UnwindsOn v w owner kept (t ∷ stack) stack
  unfolding UnwindsOn
  own_unwinds kept [] inner own left x rest = absurd (inner refl)
  own_unwinds kept (outer ∷ ts) inner own left x rest =
      let same : around_left t outer ≡ outer = ap (λ (b : Bool). if b || t.recorded then outer else record outer { done = outer.done - 1 }) own in
      (w, subst (λ (b : Bool). InnerLeft v w t outer b) (sym own) (left outer ts refl), subst (λ (o : TableWork). Unwound w owner (o ∷ ts) kept x) (sym same) rest)

  -- or it is another holder's
  pub lent_unwinds : (kept : Bool) (stack us : List TableWork) (recorded : Bool) → (stack ≡ [] → ⊥) → t.own ≡ false → t.recorded ≡ recorded → us ≡ around_lent recorded stack → (u : PortValue) × LeftPartial v u t × GaveRef u w t.frame → UnwindsOn v w owner kept (t ∷ stack) us
  unfolding UnwindsOn
  lent_unwinds kept [] us recorded inner lent was is left x rest = absurd (inner refl)
  lent_unwinds kept (outer ∷ ts) us recorded inner lent was is left x rest =
      let around : us ≡ around_left t outer ∷ ts =
      is ∙ around_is recorded ∙ ap (λ (b : Bool). (if b then outer else record outer { done = outer.done - 1 }) ∷ ts) (sym was) ∙ ap (λ (b : Bool). (if b || t.recorded then outer else record outer { done = outer.done - 1 }) ∷ ts) (sym lent) in
      (w, subst (λ (b : Bool). InnerLeft v w t outer b) (sym lent) left, subst (λ (os : List TableWork). Unwound w owner os kept x) around rest)
    where
      around_is : (b : Bool) → around_lent b (outer ∷ ts) ≡ (if b then outer else record outer { done = outer.done - 1 }) ∷ ts
      around_is true = refl
      around_is false = refl

-- the next one behind
pub unwinds_then : (v w x : PortValue) (owner : ℕ) (kept : Bool) (ts us rs : List TableWork) → UnwindsOn v w owner kept ts us → UnwindsOn w x owner kept us rs → UnwindsOn v x owner kept ts rs
unfolding UnwindsOn
unwinds_then v w x owner kept ts us rs first next y rest = first y (next y rest)
