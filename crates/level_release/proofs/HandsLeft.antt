-- The innermost table is left partial, and its type count is in hand.
use Rattle.std.proofs.Common.{◌≡◌, ℕ, ◌-◌, ◌<◌, ◌≤◌, Bool, true, false, List, ◌∷◌, length, Some, None, IsTrue, refl, sym, ap, ◌∙◌, subst, arith, inl}
use Rattle.xp_words.specs.KindWords.{kind_fields, kind_write}
use Rattle.xp_words.specs.Places.{Sizes, sizes_of}
use Rattle.xp_words.specs.declared.kind.KindWord.{KindWord}
use Rattle.xp_words.specs.declared.place.Place.TheVariants.{Kind}
use Rattle.xp_board.specs.Acts.{left_by}
use Rattle.xp_board.specs.Hands.{owner_by, owner_from, ref_owner, refs_to, typed_to, without_ref}
use Rattle.xp_board.specs.Knowledge.{knows_owner, knows_partial}
use Rattle.xp_board.specs.Lists.{first_by}
use Rattle.xp_board.specs.Readings.{is_closing}
use Rattle.xp_board.specs.Told.{PortValue, Post}
use Rattle.xp_board.specs.declared.holdings.Holdings.{Holdings}
use Rattle.xp_board.specs.declared.holdings.Liveness.{Liveness}
use Rattle.xp_board.specs.declared.holdings.Liveness.TheVariants.{Found, Since}
use Rattle.xp_board.specs.declared.holdings.Reference.{Reference}
use Rattle.xp_board.specs.declared.holdings.TypedReference.{TypedReference}
use Rattle.xp_board.specs.declared.holdings.Work.{Work}
use Rattle.xp_board.specs.declared.step.Act.TheVariants.{Store}
use Rattle.xp_board.specs.declared.step.StepKind.TheVariants as kinds
use Rattle.xp_board.proofs.KindReadings.{work_alone}
use Rattle.xp_board.proofs.ListCounts.{first_by-cons_here}
use Rattle.step_maker.specs.Holds.{Holds, MayWork, still}
use Rattle.step_maker.specs.Moves.{Moves}
use Rattle.flush_words.proofs.Shared.{may_held}
use Rattle.flush_waits.proofs.Growing.{Grows}
use Rattle.kind_words.specs.Kinds.{MayLeave, left, partial_kind}
use Rattle.kind_words.proofs.KindHands.{typed_held}
use Rattle.kind_words.proofs.Knowing.{partial_by_step}
use Rattle.kind_words.proofs.Leaving.{left_partial, left_partial_closing, may_leave_partial}
use Rattle.partial_state.proofs.LevelFacts.{level_type-typed}
use Rattle.partial_state.specs.Levels.{level_type}
use Rattle.partial_state.specs.declared.stack.TableWork.{TableWork}
use Rattle.table_releases.specs.Tops.{IsSince}
use Rattle.level_release.specs.Holding.{AreRefs, AreOwnTyped, Empties}
use Rattle.level_release.proofs.HandsKnown.{known_moved, known_still, still_same}
use Rattle.level_release.proofs.HandsTop.{closing_closes, closing_gone, closing_held, closing_ref, closing_typed, own_refs, own_typed, own_works, top, top_few, top_gone, top_here, top_table}
use Rattle.kind_words.proofs.KindWriting.{partial_as}

-- what is in hand then: a typed reference to it in front of the others; and what was known of owners, is
pub record LeftHand (h : Holdings) (v d : PortValue) (t : TableWork) (ts : List TableWork) (others : List Work) : Type 0 where
  pub ref : TypedReference
  pub typed : List TypedReference
  pub refs : List Reference
  pub frame : ref.frame ≡ t.frame
  pub steps : ℕ
  pub since : ref.live ≡ Since steps
  pub earlier : steps ≤ length v.holdings.steps
  pub are_refs : AreRefs h.refs ts refs
  pub are_typed : AreOwnTyped (length v.holdings.steps) ts typed
  pub known : (z : Sizes) (g o : ℕ) (k : Holdings) → Grows v.holdings k → k.refs ≡ refs → k.typed ≡ ref ∷ typed → k.locks ≡ v.holdings.locks → IsTrue (knows_owner z g o v.holdings) → IsTrue (knows_owner z g o k)
  pub hand : Holds v d (record v.holdings { refs = refs; typed = ref ∷ typed; works = others })

since_is : (made : ℕ) (l : Liveness) → IsSince made l → (n : ℕ) × (n ≤ made) × (l ≡ Since n)
since_is made (Since n) low = (n, low, refl)
since_is made Found low = absurd low

abbrev pub left_kind : TableWork → KindWord
left_kind t = partial_kind (level_type t.level) false false (512 - t.done) 0

module _ {h : Holdings} {v : PortValue} {t : TableWork} {ts : List TableWork} (s : Empties h v (t ∷ ts)) where
  left_over : (top s).work.recorded ≡ 512 - t.done
  left_over = omega (arith, ((top s).is.recorded))

  held : (b : Bool) → t.own ≡ b → IsTrue (is_closing (kind_fields (top s).work.word)) → 0 < refs_to t.frame v.holdings.refs
  held true own closing = absurd (let off = work_alone (kind_fields (top s).work.word) (own_works s own) in cc)
  held false lent closing = closing_held s lent

  pub partial_leaves : MayLeave v t.frame (left_kind t)
  partial_leaves =
      let e = top s in
      subst (λ n. MayLeave v t.frame (partial_kind (level_type t.level) false false n 0)) left_over (may_leave_partial v t.frame (level_type t.level) e.work (top_here s) (level_type-typed t.level)
      e.is.kind false (λ on. absurd cc) (top_table s) (top_few s) (inl e.is.unmarked) (held t.own refl))

  pub partial_hand : (d : PortValue) → Holds v d (left v t.frame (left_kind t)) → LeftHand h v d t ts (top s).others
  partial_hand d hand = by_own t.own refl
    where
      by_own : (b : Bool) → t.own ≡ b → LeftHand h v d t ts (top s).others
      by_own true own =
          let e = top s in
          let y = own_typed s own in
          let l = since_is (length v.holdings.steps) y.ref.live y.since in
          record {
            ref = y.ref;
            typed = y.others;
            refs = v.holdings.refs;
            frame = y.frame;
            steps = l.0;
            since = l.2;
            earlier = l.1;
            are_refs = own_refs s own;
            are_typed = y.around;
            known = λ z g o k grows refs typed locks. known_still z g o v.holdings k grows (still_same (λ (x : Reference). x.frame) g refs) (still_same (λ (x : TypedReference). x.frame) g (typed ∙ sym y.are)) locks;
            hand =
                hand ∙ ap (λ (k : Holdings). still (record v { holdings = k })) (left_partial v t.frame (level_type t.level) e.work (top_here s) false (512 - t.done) 0 (own_works s own) partial_leaves.is)
                ∙ ap (λ es. still (record v { holdings = record v.holdings { works = es } })) (top_gone s)
                ∙ ap (λ ys. still (record v { holdings = record v.holdings { typed = ys; works = e.others } })) y.are;
          }
      by_own false lent =
          let e = top s in
          let r = closing_ref s lent in
          let y : TypedReference = record { frame = t.frame; kind = Some (kind_fields e.work.word).kind; owner = ref_owner t.frame v.holdings; live = Since (length v.holdings.steps) } in
          let owner : ref_owner t.frame v.holdings ≡ r.ref.owner = ap (λ rs. owner_by (first_by (λ (x : Reference). x.frame) t.frame rs) (owner_from v.holdings)) r.are ∙ ap (λ x. owner_by x (owner_from v.holdings)) (first_by-cons_here (λ (x : Reference). x.frame) t.frame r.ref r.others r.frame) in
          record {
            ref = y;
            typed = v.holdings.typed;
            refs = r.others;
            frame = refl;
            steps = length v.holdings.steps;
            since = refl;
            earlier = omega arith;
            are_refs = r.around;
            are_typed = closing_typed s lent;
            known = λ z g o k grows refs typed locks. known_moved z g o v.holdings k grows (r.are ∙ ap (λ rs. r.ref ∷ rs) (sym refs)) typed (sym r.frame) owner locks;
            hand =
                hand ∙ ap (λ (k : Holdings). still (record v { holdings = k })) (left_partial_closing v t.frame (level_type t.level) e.work (top_here s) false (512 - t.done) 0 (closing_closes s lent) partial_leaves.is)
                ∙ ap (λ es. still (record v { holdings = record v.holdings { refs = without_ref t.frame v.holdings.refs; typed = y ∷ v.holdings.typed; works = es } })) (top_gone s)
                ∙ ap (λ rs. still (record v { holdings = record v.holdings { refs = rs; typed = y ∷ v.holdings.typed; works = e.others } })) (closing_gone s lent);
          }

  -- ---- what is known of it
  module _ {d : PortValue} (k : LeftHand h v d t ts (top s).others) where
    pub left_inside : t.frame < d.post.machine.frames
    left_inside = subst (λ (q : Post). t.frame < q.machine.frames) (sym (ap (λ (q : PortValue). q.post) k.hand)) (top s).is.inside

    pub left_may : MayWork v → MayWork d
    left_may may = may_held v d (record v.holdings { refs = k.refs; typed = k.ref ∷ k.typed; works = (top s).others }) k.hand refl refl may

    pub left_room : v.holdings.old0 ≡ Some 0 → d.holdings.old0 ≡ Some 0
    left_room room = ap (λ (q : PortValue). q.holdings.old0) k.hand ∙ room

    pub left_typed : d.holdings.typed ≡ k.ref ∷ k.typed
    left_typed = ap (λ (q : PortValue). q.holdings.typed) k.hand

    pub left_held : 0 < typed_to t.frame d.holdings.typed
    left_held = subst (λ xs. 0 < typed_to t.frame xs) (sym left_typed) (typed_held t.frame k.ref k.typed k.frame)

    pub left_partial_known : {found : ℕ} → Moves v d (Kind t.frame) (Store (kind_write (left_kind t))) kinds.Kind None found → IsTrue (knows_partial (sizes_of v.post.machine) t.frame (level_type t.level) d.holdings)
    unfolding left_by
    left_partial_known {found} store =
        partial_by_step v d t.frame (level_type t.level) (Store (kind_write (left_kind t))) kinds.Kind None found store k.ref k.typed k.steps left_typed k.frame k.since k.earlier (partial_as (level_type t.level) (512 - t.done) partial_leaves.is)
