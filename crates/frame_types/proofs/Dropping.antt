-- A typed reference given back of a frame that holds no entries, and the frame that is left dead after the last.
use Rattle.std.proofs.Common.{◌≡◌, ℕ, ◌+◌, ◌^◌, ◌<◌, ◌≤◌, ◌==◌, ◌&&◌, nat_lt, if◌then◌else◌, not, Bool, true, false, List, ◌∷◌, length, Some, None, IsTrue, refl, sym, ap, ◌∙◌, subst, inl, arith}
use Rattle.std.proofs.lemmas.Bool.{and_parts}
use Rattle.std.proofs.lemmas.Bool.Decides.{nat_tests}
use Rattle.xp_words.specs.KindWords.{is_kind, kind_fields, has_form}
use Rattle.xp_words.specs.PageTypes.{is_none, is_table}
use Rattle.xp_words.specs.declared.kind.KindWord.{KindWord}
use Rattle.xp_words.specs.declared.kind.PageType.{PageType}
use Rattle.xp_words.specs.declared.place.Place.TheVariants.{Clock, Kind}
use Rattle.xp_board.specs.declared.holdings.Holdings.{Holdings}
use Rattle.xp_board.specs.declared.holdings.Reference.{Reference}
use Rattle.xp_board.specs.declared.holdings.Work.{Work}
use Rattle.xp_board.specs.declared.step.Act.TheVariants.{Load, Add}
use Rattle.xp_board.specs.declared.step.StepKind.TheVariants as kinds
use Rattle.xp_board.specs.Acts.{left_by}
use Rattle.xp_board.specs.Hands.{work_on, without_typed, typed_owner, without_work}
use Rattle.xp_board.specs.KindSteps.{new_work}
use Rattle.xp_board.specs.Readings.{is_closing, is_work}
use Rattle.xp_board.specs.RefSteps.{one_down}
use Rattle.xp_board.specs.Told.{PortValue}
use Rattle.step_maker.specs.Holds.{Holds, Same, still}
use Rattle.step_maker.specs.Moves.{Moves}
use Rattle.flush_words.proofs.Lasting.{moves_longer}
use Rattle.frame_words.specs.Freeing.{gave}
use Rattle.frame_words.specs.Refs.{MayPut}
use Rattle.kind_words.specs.Kinds.{MayLeave, dead_kind, left}
use Rattle.xp_board.proofs.ListCounts.{newest_held}
use Rattle.kind_words.proofs.KindFacts.{IsFoundLive, found_live, kind_found, clock_is_small}
use Rattle.kind_words.proofs.KindHands.{apart_spares, clock_since, closes, lowered_fields, lowered_last, lowered_more, work_here}
use Rattle.kind_words.proofs.Leaving.{left_dead_closing, may_leave_dead, without_newest}
use Rattle.frame_types.specs.Taking.{MayDropPlain, gave_type}
use Rattle.frame_types.proofs.Lowered.{dropped_hand}

typed_form : (k : KindWord) → has_form k ≡ true → k.validated ≡ true → IsTrue (not (is_none k.kind))
unfolding has_form
typed_form k form live = grind (arith, nat_tests)

live_is_typed : (k : KindWord) → IsTrue (is_kind k) → k.validated ≡ true → IsTrue (not (is_none k.kind))
live_is_typed k is live = typed_form k (and_parts (nat_lt k.progress (2 ^ 10)) (has_form k) (and_parts (nat_lt k.number (2 ^ 36)) _ is).1).1 live

closing_no_work : (b c d e : Bool) → IsTrue (b && c) → (not b && (not d && e)) ≡ false
closing_no_work true c d e is = refl
closing_no_work false c d e is = absurd cc

not_both : (k : KindWord) → IsTrue (is_closing k) → IsTrue (is_work k) → ⊥
not_both k closing work = let idle = closing_no_work k.validated (k.number == 0) k.partial k.locked closing in let busy = work in cc

-- the reference that the type count leaves
abbrev left_ref : ℕ → Holdings → Reference
left_ref f h = record { frame = f; owner = typed_owner f h }

module _ (v a : PortValue) (f found : ℕ) (kind : PageType) (frame : f < v.post.machine.frames) (drops : MayDropPlain v.post.machine f kind v.holdings)
    (lower : Moves v a (Kind f) (Add one_down) kinds.Kind None found) where
  pub found_is : IsFoundLive v.post.machine f found v.holdings
  found_is = found_live v.post.machine v.post.vcpu v.holdings f found lower.finds (record { in_hand = drops.held; kind = kind; live = drops.live })

  pub kind_is : (kind_fields found).kind ≡ kind
  kind_is = found_is.kind kind drops.live

  pub typed : IsTrue (not (is_none kind))
  typed =
      let k = kind_found v.post.machine v.post.vcpu v.holdings f found frame lower.finds in
      subst (λ t. IsTrue (not (is_none t))) kind_is
      (subst (λ (y : KindWord). IsTrue (not (is_none y.kind))) (sym k.fields) (live_is_typed k.kind k.is (ap (λ (y : KindWord). y.validated) (sym k.fields) ∙ found_is.live)))

  -- ---- not the last
  pub more_hand : ((kind_fields found).number == 1) ≡ false → Holds v a (record v.holdings { refs = left_ref f v.holdings ∷ v.holdings.refs; typed = without_typed f v.holdings.typed })
  more_hand off = dropped_hand v a f found lower ∙ ap (λ (h : Holdings). still (record v { holdings = h })) (lowered_more f found _ v.holdings off)

  pub more_gives : ((kind_fields found).number == 1) ≡ false → MayPut f a.holdings
  more_gives off =
      record {
        held = rw (ap (λ (q : PortValue). q.holdings.refs) (more_hand off)) (newest_held f (left_ref f v.holdings) v.holdings.refs refl);
        spares = apart_spares f a.holdings (ap (λ (q : PortValue). work_on f q.holdings.works) (more_hand off) ∙ drops.apart);
      }

  pub more_left : (w : PortValue) → ((kind_fields found).number == 1) ≡ false → Holds a w (gave f a.holdings) → Holds v w (gave_type f v.holdings)
  more_left w off put =
      put ∙ ap (λ (q : PortValue). still (record q { holdings = gave f q.holdings })) (more_hand off)
      ∙ ap (λ (rs : List Reference). still (record v { holdings = record v.holdings { refs = rs; typed = without_typed f v.holdings.typed } })) (without_newest (λ (y : Reference). y.frame) f (left_ref f v.holdings) v.holdings.refs _ refl refl)

  -- ---- the last: the frame is closing in the hand
  module _ (last : ((kind_fields found).number == 1) ≡ true) where
    abbrev pub closing : Work
    closing = new_work f (left_by (Add one_down) found) (if is_table (kind_fields found).kind then 512 else 0) None v.holdings

    last_hand : Holds v a (record v.holdings { refs = left_ref f v.holdings ∷ v.holdings.refs; typed = without_typed f v.holdings.typed; works = closing ∷ v.holdings.works })
    last_hand = dropped_hand v a f found lower ∙ ap (λ (h : Holdings). still (record v { holdings = h })) (lowered_last f found _ v.holdings last)

    pub fields : kind_fields (left_by (Add one_down) found) ≡ record (kind_fields found) { number = 0 }
    fields = lowered_fields v.post.machine f found v.holdings found_is last

    module _ (b : PortValue) (stamp : ℕ) (look : Moves a b Clock Load kinds.Look None stamp) (same : Same a b) where
      looked : Holds v b (record v.holdings { refs = left_ref f v.holdings ∷ v.holdings.refs; typed = without_typed f v.holdings.typed; works = closing ∷ v.holdings.works })
      looked = same ∙ last_hand

      pub here : work_on f b.holdings.works ≡ Some closing
      here = work_here f closing v.holdings.works b.holdings.works refl (ap (λ (q : PortValue). q.holdings.works) looked)

      pub is_closed : IsTrue (is_closing (kind_fields closing.word))
      is_closed = rw fields (closes (kind_fields found) found_is.live)

      small : stamp < 2 ^ 36
      small = clock_is_small a.post.machine a.post.vcpu a.holdings stamp look.finds

      later : length v.holdings.steps + 1 ≤ length a.holdings.steps
      later = let more = moves_longer v a (Kind f) (Add one_down) kinds.Kind None found lower in omega (arith, more)

      pub last_may : MayLeave b f (dead_kind kind false stamp)
      last_may =
          may_leave_dead b f kind closing here typed false stamp (ap (λ (y : KindWord). y.kind) fields ∙ kind_is) (rw (kind_is, drops.plain) refl)
          (inl (sym (ap (λ (y : KindWord). y.unflushed) fields ∙ found_is.unmarked))) small
          (clock_since a b stamp (length v.holdings.steps + 1) look later)
          (λ work. absurd (not_both (kind_fields closing.word) is_closed work))

      module _ (d : PortValue) (dead : Holds b d (left b f (dead_kind kind false stamp))) where
        dead_hand : Holds v d (record v.holdings { refs = left_ref f v.holdings ∷ v.holdings.refs; typed = without_typed f v.holdings.typed })
        dead_hand =
            dead ∙ ap (λ (h : Holdings). still (record b { holdings = h })) (left_dead_closing b f kind closing here typed false stamp small is_closed)
            ∙ ap (λ (q : PortValue). still (record q { holdings = record q.holdings { works = without_work f q.holdings.works } })) looked
            ∙ ap (λ (ws : List Work). still (record v { holdings = record v.holdings { refs = left_ref f v.holdings ∷ v.holdings.refs; typed = without_typed f v.holdings.typed; works = ws } }))
            (without_newest (λ (y : Work). y.frame) f closing v.holdings.works _ refl refl)

        pub last_gives : MayPut f d.holdings
        last_gives =
            record {
              held = rw (ap (λ (q : PortValue). q.holdings.refs) dead_hand) (newest_held f (left_ref f v.holdings) v.holdings.refs refl);
              spares = apart_spares f d.holdings (ap (λ (q : PortValue). work_on f q.holdings.works) dead_hand ∙ drops.apart);
            }

        pub last_left : (w : PortValue) → Holds d w (gave f d.holdings) → Holds v w (gave_type f v.holdings)
        last_left w put =
            put ∙ ap (λ (q : PortValue). still (record q { holdings = gave f q.holdings })) dead_hand
            ∙ ap (λ (rs : List Reference). still (record v { holdings = record v.holdings { refs = rs; typed = without_typed f v.holdings.typed } })) (without_newest (λ (y : Reference). y.frame) f (left_ref f v.holdings) v.holdings.refs _ refl refl)
