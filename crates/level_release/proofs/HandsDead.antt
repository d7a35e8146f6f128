-- The innermost table, of which nothing is recorded any more, is left dead, and its reference given back.
use Rattle.std.proofs.Common.{◌≡◌, ◌≢◌, ℕ, ◌^◌, ◌<◌, ◌≤◌, ◌==◌, Bool, true, false, List, ◌∷◌, length, Some, None, IsTrue, refl, sym, ap, ◌∙◌, subst, arith, inl}
use Rattle.xp_words.specs.KindWords.{kind_fields, kind_write}
use Rattle.xp_words.specs.Places.{sizes_of}
use Rattle.xp_words.specs.declared.kind.KindWord.{KindWord}
use Rattle.xp_words.specs.declared.kind.PageType.{PageType}
use Rattle.xp_words.specs.declared.place.Place.TheVariants.{Clock, Kind}
use Rattle.xp_board.specs.Hands.{refs_to, typed_owner, typed_to, without_work, work_on}
use Rattle.xp_board.specs.Readings.{is_work}
use Rattle.xp_board.specs.Steps.{some_since}
use Rattle.xp_board.specs.Told.{PortValue}
use Rattle.xp_board.specs.declared.holdings.Holdings.{Holdings}
use Rattle.xp_board.specs.declared.holdings.Reference.{Reference}
use Rattle.xp_board.specs.declared.holdings.TypedReference.{TypedReference}
use Rattle.xp_board.specs.declared.holdings.Work.{Work}
use Rattle.xp_board.specs.declared.step.Act.TheVariants.{Load, Store}
use Rattle.xp_board.specs.declared.step.StepKind.TheVariants as kinds
use Rattle.xp_board.proofs.KindReadings.{closing_alone}
use Rattle.xp_board.proofs.ListCounts.{newest_held}
use Rattle.step_maker.proofs.Coming.{came_trans, moves_came}
use Rattle.step_maker.specs.Holds.{Holds, MayWork, Same, still}
use Rattle.step_maker.specs.Moves.{Came, Moves}
use Rattle.flush_words.proofs.Lasting.{came_longer}
use Rattle.flush_words.proofs.Shared.{may_held}
use Rattle.flush_waits.proofs.Growing.{came_grows}
use Rattle.frame_words.specs.Freeing.{gave}
use Rattle.frame_words.specs.Refs.{MayPut}
use Rattle.kind_words.specs.Kinds.{MayLeave, dead_kind, left}
use Rattle.kind_words.proofs.KindFacts.{clock_is_small}
use Rattle.kind_words.proofs.KindHands.{apart_spares, clock_since}
use Rattle.kind_words.proofs.Leaving.{left_dead, left_dead_closing, may_leave_dead, without_newest}
use Rattle.partial_state.proofs.LevelFacts.{level_type-typed}
use Rattle.partial_state.specs.Levels.{level_type}
use Rattle.partial_state.specs.declared.stack.TableWork.{TableWork}
use Rattle.table_releases.specs.Tops.{IsSettledTop}
use Rattle.level_release.specs.Holding.{AreRefs, AreOwnTyped, Empties}
use Rattle.level_release.proofs.Hands.{around_settled, hands_by, tables_later, tables_outer, typed_later}
use Rattle.level_release.proofs.HandsApart.{none_else, others_apart, tables_apart}
use Rattle.level_release.proofs.HandsKnown.{Still, known_still, owned_apart, still_less, still_same}
use Rattle.level_release.proofs.HandsTop.{closing_closes, closing_ref, closing_typed, hands_same, own_gone, own_held, own_refs, own_typed, own_works, top, top_gone, top_here}

-- what is left of the references then: an untyped one to that frame in front of the others
pub record DeadHand (h : Holdings) (x d : PortValue) (t : TableWork) (ts : List TableWork) (others : List Work) : Type 0 where
  pub ref : Reference
  pub refs : List Reference
  pub typed : List TypedReference
  pub frame : ref.frame ≡ t.frame
  pub are_refs : AreRefs h.refs ts refs
  pub are_typed : AreOwnTyped (length x.holdings.steps) ts typed
  pub still_refs : (g : ℕ) → t.frame ≢ g → Still (λ (e : Reference). e.frame) g x.holdings.refs refs
  pub still_typed : (g : ℕ) → t.frame ≢ g → Still (λ (e : TypedReference). e.frame) g x.holdings.typed typed
  pub hand : Holds x d (record x.holdings { refs = ref ∷ refs; typed = typed; works = others })

module _ {h : Holdings} {x : PortValue} {t : TableWork} {ts : List TableWork} (s : Empties h x (t ∷ ts)) (empty : t.done ≡ 512) where
  none_left : (top s).work.recorded ≡ 0
  none_left = omega (arith, ((top s).is.recorded), empty)

  counts : (b : Bool) → t.own ≡ b → IsTrue (is_work (kind_fields (top s).work.word)) → 0 < typed_to t.frame x.holdings.typed
  counts true own work = own_held s own
  counts false lent work = absurd (let idle = closing_alone (kind_fields (top s).work.word) (closing_closes s lent) in cc)

  module _ (clock : ℕ) (small : clock < 2 ^ 36) where
    pub dead_leaves : IsTrue (some_since (sizes_of x.post.machine) (top s).work.since Clock (λ w. w == clock) x.holdings.steps) → MayLeave x t.frame (dead_kind (level_type t.level) false clock)
    dead_leaves since =
        let e = top s in
        may_leave_dead x t.frame (level_type t.level) e.work (top_here s) (level_type-typed t.level) false clock e.is.kind none_left (inl (sym e.is.unmarked)) small since (counts t.own refl)

    pub dead_hand : {d : PortValue} → Holds x d (left x t.frame (dead_kind (level_type t.level) false clock)) → DeadHand h x d t ts (top s).others
    dead_hand {d} hand = by_own t.own refl
      where
        by_own : (b : Bool) → t.own ≡ b → DeadHand h x d t ts (top s).others
        by_own true own =
            let e = top s in
            let y = own_typed s own in
            let r : Reference = record { frame = t.frame; owner = typed_owner t.frame x.holdings } in
            record {
              ref = r;
              refs = x.holdings.refs;
              typed = y.others;
              frame = refl;
              are_refs = own_refs s own;
              are_typed = y.around;
              still_refs = λ g other. still_same (λ (k : Reference). k.frame) g refl;
              still_typed = λ g other. still_less (λ (k : TypedReference). k.frame) g (λ same. other (sym y.frame ∙ same)) y.are;
              hand =
                  hand ∙ ap (λ (k : Holdings). still (record x { holdings = k })) (left_dead x t.frame (level_type t.level) e.work (top_here s) (level_type-typed t.level) false clock small (own_works s own))
                  ∙ ap (λ ys. still (record x { holdings = record x.holdings { refs = r ∷ x.holdings.refs; typed = ys; works = without_work t.frame x.holdings.works } })) (own_gone s own)
                  ∙ ap (λ es. still (record x { holdings = record x.holdings { refs = r ∷ x.holdings.refs; typed = y.others; works = es } })) (top_gone s);
            }
        by_own false lent =
            let e = top s in
            let r = closing_ref s lent in
            record {
              ref = r.ref;
              refs = r.others;
              typed = x.holdings.typed;
              frame = r.frame;
              are_refs = r.around;
              are_typed = closing_typed s lent;
              still_refs = λ g other. still_less (λ (k : Reference). k.frame) g (λ same. other (sym r.frame ∙ same)) r.are;
              still_typed = λ g other. still_same (λ (k : TypedReference). k.frame) g refl;
              hand =
                  hand ∙ ap (λ (k : Holdings). still (record x { holdings = k })) (left_dead_closing x t.frame (level_type t.level) e.work (top_here s) (level_type-typed t.level) false clock small (closing_closes s lent))
                  ∙ ap (λ es. still (record x { holdings = record x.holdings { works = es } })) (top_gone s)
                  ∙ ap (λ rs. still (record x { holdings = record x.holdings { refs = rs; works = e.others } })) r.are;
            }

  -- ---- its reference
  module _ {d : PortValue} (k : DeadHand h x d t ts (top s).others) {new found : ℕ} (store : Moves x d (Kind t.frame) (Store new) kinds.Kind None found) where
    pub dead_gives : MayPut t.frame d.holdings
    dead_gives =
        let e = top s in
        record {
          held = subst (λ xs. 0 < refs_to t.frame xs) (sym (ap (λ (q : PortValue). q.holdings.refs) k.hand)) (newest_held t.frame k.ref k.refs k.frame);
          spares = apart_spares t.frame d.holdings
              (ap (λ (q : PortValue). work_on t.frame q.holdings.works) k.hand ∙ none_else store.finds e.are e.is.frame);
        }

    module _ (w : PortValue) (put : Holds d w (gave t.frame d.holdings)) (came : Came x w) where
      given : Holds x w (record x.holdings { refs = k.refs; typed = k.typed; works = (top s).others })
      given =
          put ∙ ap (λ (q : PortValue). still (record q { holdings = gave t.frame q.holdings })) k.hand
          ∙ ap (λ rs. still (record x { holdings = record x.holdings { refs = rs; typed = k.typed; works = (top s).others } })) (without_newest (λ (z : Reference). z.frame) t.frame k.ref k.refs (k.ref ∷ k.refs) k.frame refl)

      pub dead_settled : IsSettledTop w.holdings
      dead_settled work others are =
          let e = top s in around_settled (sizes_of x.post.machine) (length x.holdings.steps) t ts e.others e.around work others (sym (ap (λ (q : PortValue). q.holdings.works) given) ∙ are)

      pub dead_stands : Empties h w ts
      dead_stands =
          let e = top s in
          let z = sizes_of x.post.machine in
          let longer = came_longer x w came in
          let apart = tables_apart z (length x.holdings.steps) (Some t) t.frame ts e.others e.around (others_apart store.finds e.are e.is.frame) in
          hands_by w ts k.refs k.typed e.others s given s.stack.2
          (tables_later z (length x.holdings.steps) (length w.holdings.steps) None ts e.others longer (tables_outer z (length x.holdings.steps) t ts e.others e.around)) k.are_refs
          (typed_later (length x.holdings.steps) (length w.holdings.steps) ts k.typed longer k.are_typed)
          (owned_apart z s.owner t.frame ts x.holdings w.holdings
          (λ g other. known_still z g s.owner x.holdings w.holdings (came_grows x w came)
          (subst (λ rs. Still (λ (y : Reference). y.frame) g x.holdings.refs rs) (sym (ap (λ (q : PortValue). q.holdings.refs) given)) (k.still_refs g other))
          (subst (λ ys. Still (λ (y : TypedReference). y.frame) g x.holdings.typed ys) (sym (ap (λ (q : PortValue). q.holdings.typed) given)) (k.still_typed g other))
          (ap (λ (q : PortValue). q.holdings.locks) given)) apart s.owned.1)

-- ---- the clock is looked at first
module _ {h : Holdings} {v x : PortValue} {t : TableWork} {ts : List TableWork} (s : Empties h v (t ∷ ts)) (empty : t.done ≡ 512) {clock : ℕ} (look : Moves v x Clock Load kinds.Look None clock) (same : Same v x)
    {k : KindWord} {kind : PageType} (is_type : kind ≡ level_type t.level) (is : k ≡ dead_kind kind false clock) where
  is_dead : k ≡ dead_kind (level_type t.level) false clock
  is_dead = is ∙ ap (λ y. dead_kind y false clock) is_type

  now : Empties h x (t ∷ ts)
  now = hands_same same (moves_came v x Clock Load kinds.Look None clock look) s

  small : clock < 2 ^ 36
  small = clock_is_small v.post.machine v.post.vcpu v.holdings clock look.finds

  same_work : (top now).work.since ≤ length v.holdings.steps
  same_work =
      let old = top s in
      let new = top now in
      let both : new.work ∷ new.others ≡ old.work ∷ old.others = sym new.are ∙ ap (λ (q : PortValue). q.holdings.works) same ∙ old.are in let one : new.work ≡ old.work = cc in let
      low = old.is.earlier in subst (λ (e : Work). e.since ≤ length v.holdings.steps) (sym one) low

  pub close_leaves : MayLeave x t.frame k
  close_leaves = subst (λ y. MayLeave x t.frame y) (sym is_dead) (dead_leaves now empty clock small (clock_since v x clock (top now).work.since look same_work))

  module _ {d : PortValue} {found : ℕ} (store : Moves x d (Kind t.frame) (Store (kind_write k)) kinds.Kind None found) (hand : Holds x d (left x t.frame k)) where
    close_hand : DeadHand h x d t ts (top now).others
    close_hand = dead_hand now empty clock small (subst (λ y. Holds x d (left x t.frame y)) is_dead hand)

    pub close_may : MayWork x → MayWork d
    close_may may = may_held x d (record x.holdings { refs = close_hand.ref ∷ close_hand.refs; typed = close_hand.typed; works = (top now).others }) close_hand.hand refl refl may

    pub close_gives : MayPut t.frame d.holdings
    close_gives = dead_gives now empty close_hand store

    module _ (w : PortValue) (put : Holds d w (gave t.frame d.holdings)) (behind : Came d w) where
      came_dead : Came x w
      came_dead = came_trans x d w (moves_came x d (Kind t.frame) (Store (kind_write k)) kinds.Kind None found store) behind

      pub close_stands : Empties h w ts
      close_stands = dead_stands now empty close_hand store w put came_dead

      pub close_settled : IsSettledTop w.holdings
      close_settled = dead_settled now empty close_hand store w put came_dead
