-- A typed reference to a live table is given back where a call cannot go on: its steps, and what is left in hand.
use Rattle.std.proofs.Common.{◌≡◌, ◌≢◌, ◌⊎◌, ℕ, ◌+◌, ◌<◌, Bool, true, false, List, [], ◌∷◌, length, None, Some, IsTrue, refl, sym, ap, ◌∙◌, subst, arith, inl, inr}
use Rattle.table_releases.proofs.HandLive.{may_dropped}
use Rattle.flush_words.proofs.Shared.{may_held}
use Rattle.std.proofs.lemmas.Bool.{cases_eq}
use Rattle.xp_words.specs.KindWords.{is_kind, kind_fields, kind_write}
use Rattle.xp_words.specs.PageTypes.{is_table}
use Rattle.xp_words.specs.Places.{sizes_of}
use Rattle.xp_words.specs.declared.kind.KindWord.{KindWord}
use Rattle.xp_words.specs.declared.kind.PageType.{PageType}
use Rattle.xp_words.specs.declared.place.Place.TheVariants.{Kind}
use Rattle.xp_board.specs.declared.holdings.Holdings.{Holdings}
use Rattle.xp_board.specs.declared.holdings.Liveness.TheVariants as since
use Rattle.xp_board.specs.declared.holdings.OwnerFound.TheVariants as owners
use Rattle.xp_board.specs.declared.holdings.Reference.{Reference}
use Rattle.xp_board.specs.declared.holdings.TypedReference.{TypedReference}
use Rattle.xp_board.specs.declared.holdings.Work.{Work}
use Rattle.xp_board.specs.declared.step.Act.TheVariants.{Store}
use Rattle.xp_board.specs.declared.step.StepKind.TheVariants as kinds
use Rattle.xp_board.specs.Hands.{owner_by, owner_from, ref_owner, ref_to, refs_to, typed_owner, typed_to, without_ref, without_work, work_on}
use Rattle.xp_board.specs.KindSteps.{kept_owner, live_typed}
use Rattle.xp_board.specs.Readings.{domain_of, is_closing}
use Rattle.xp_board.specs.Told.{Post, PortValue}
use Rattle.xp_board.proofs.ListCounts.{first_by-cons_here, newest_held}
use Rattle.xp_board.proofs.Sums.{when_eq}
use Rattle.step_maker.specs.Holds.{Holds, still, MayWork}
use Rattle.step_maker.specs.Moves.{Came, Moves}
use Rattle.step_maker.specs.Answers.{Serves}
use Rattle.step_maker.specs.Asked.{back, of_back}
use Rattle.step_maker.proofs.Coming.{came_trans}
use Rattle.step_maker.proofs.Piecing.{serves_back, serves_came, serves_then}
use Rattle.frame_words.specs.Freeing.{gave}
use Rattle.kind_words.specs.Kinds.{MayLeave, left, partial_kind}
use Rattle.kind_words.proofs.KindHands.{known_first, typed_held}
use Rattle.kind_words.proofs.KindWriting.{partial_is}
use Rattle.kind_words.proofs.Leaving.{left_kept_closing, left_kept_closing_other, left_partial_closing, may_keep_closing, may_leave_partial, without_newest}
use Rattle.frame_types.specs.Lowering.{DropsType, closing_from}
use Rattle.frame_types.proofs.Lowered.{closed_here, closed_is, closed_kind, closed_unmarked}
use Rattle.kept_marks.specs.Marks.{IsForeign, IsKeptOf, KeptFor, LeavesKept, ServesKept, left_kept}
use Rattle.kept_marks.proofs.Serving.{asked_later, left_serves, named_serves}
use Rattle.partial_state.specs.Levels.{level_type}
use Rattle.partial_state.proofs.LevelFacts.{level_type-table, level_type-typed}
use Rattle.table_entries.specs.Acquiring.{GaveRef}
use Rattle.table_words.specs.OldWords.{kept_in_old, old_place}
use Rattle.table_words.specs.declared.old_words.OldWord.TheVariants.{First}
use Rattle.level_release.specs.Holding.{HoldsLive}
use Rattle.level_release.specs.Parking.{HoldsTyped, LeavesParked, MayPark, Parks, marked, named, shared}
use Rattle.level_release.proofs.Dropped.{all_recorded, closed_hand, counted_left, owner_is}

abbrev pub lives : {v : PortValue} {f owner : ℕ} {t : PageType} → HoldsTyped v f t owner → HoldsLive v f t
lives {v} {f} {owner} {t} holds =
    record {
      works = holds.works;
      looking = holds.looking;
      reference = live_typed f t (owners.Of owner);
      typed = holds.typed;
      frame = refl;
      recent = tt;
      live = known_first (sizes_of v.post.machine) f t (owners.Of owner) [] v.holdings holds.typed;
    }

-- behind any piece that asks the frame, a call that gives it back
back_serves : (v w : PortValue) (f owner : ℕ) → Serves v w (of_back f) [] → ServesKept v w f owner
back_serves v w f owner gives u r ds before asked locks =
    record {
      more = [];
      hidden = inl refl;
      serves = serves_back u v w r ds [] before f (asked_later u v w r f (serves_came v w (of_back f) [] gives) asked) gives;
    }

-- ---- other type counts are left
pub shared_parks : {v u w : PortValue} {f level owner : ℕ} {kept : Bool} → MayPark v f level owner → DropsType v u f false → Serves v u (of_back f) [] → Serves u w (of_back f) [] →
    Holds u w (gave f u.holdings) → GaveRef u w f → Parks v w f level owner kept
shared_parks {v} {u} {w} {f} {owner = owner} {kept = kept} may drops gives puts hand gave =
    let both = serves_then v u w (of_back f) [] [] gives puts in
    record { came = serves_came v w (of_back f) [] both; serves = back_serves v w f owner both; hand = inl (counted_left (lives may.holds) drops w hand); course = shared u w kept drops gave }

-- ---- it was the last: the table is closing in the hand, and is left partial
module _ {v u : PortValue} {f level owner : ℕ} (may : MayPark v f level owner) (drops : DropsType v u f true) where
  abbrev holds : HoldsLive v f (level_type level)
  holds = lives may.holds

  abbrev closing : Work
  closing = closing_from f drops.found v.holdings

  abbrev left_ref : Reference
  left_ref = record { frame = f; owner = typed_owner f v.holdings }

  abbrev mark : Bool → KindWord
  mark kept = partial_kind (level_type level) kept false 512 0

  table : is_table (level_type level) ≡ true
  table = level_type-table level may.low

  here : work_on f u.holdings.works ≡ Some closing
  here = closed_here v u f true drops refl

  is_closed : IsTrue (is_closing (kind_fields closing.word))
  is_closed = closed_is v u f true drops refl

  newest : u.holdings.refs ≡ left_ref ∷ v.holdings.refs
  newest = ap (λ (q : PortValue). q.holdings.refs) (closed_hand holds drops)

  typed_gone : u.holdings.typed ≡ []
  typed_gone = ap (λ (q : PortValue). q.holdings.typed) (closed_hand holds drops)

  spelled : (kept : Bool) → IsTrue (is_kind (mark kept))
  spelled kept = partial_is (level_type level) (level_type-typed level) kept 512 table (omega arith)

  owner_left : ref_owner f u.holdings ≡ owners.Of owner
  owner_left =
      ap (λ (rs : List Reference). owner_by (ref_to f rs) (owner_from u.holdings)) newest
      ∙ ap (λ o. owner_by o (owner_from u.holdings)) (first_by-cons_here (λ (y : Reference). y.frame) f left_ref v.holdings.refs refl)
      ∙ owner_is holds

  pub last_owner : IsKeptOf u f owner
  last_owner e at =
      let same : e ≡ closing = (let both : Some e ≡ Some closing = sym at ∙ here in cc) in
      ap (λ (y : Work). kept_owner f y u.holdings) same ∙ kept_closing is_closed ∙ owner_left
    where
      kept_closing : IsTrue (is_closing (kind_fields closing.word)) → kept_owner f closing u.holdings ≡ ref_owner f u.holdings
      kept_closing on = rw on refl

  pub last_post : u.post ≡ v.post
  last_post = ap (λ (q : PortValue). q.post) (closed_hand holds drops)

  pub last_inside : f < u.post.machine.frames
  last_inside = subst (λ (p : Post). f < p.machine.frames) (sym last_post) may.frame

  pub last_works : MayWork u
  last_works = may_dropped v u f true drops may.may

  pub last_room : u.holdings.old0 ≡ Some 0
  last_room = ap (λ (q : PortValue). q.holdings.old0) (closed_hand holds drops) ∙ may.room

  pub last_looks : u.holdings.looking ≡ []
  last_looks = ap (λ (q : PortValue). q.holdings.looking) (closed_hand holds drops) ∙ holds.looking

  pub last_may : (kept : Bool) → MayLeave u f (mark kept)
  last_may kept =
      subst (λ n. MayLeave u f (partial_kind (level_type level) kept false n 0)) (all_recorded holds drops table)
      (may_leave_partial u f (level_type level) closing here (level_type-typed level) (closed_kind v u f true drops refl (level_type level) holds.live) kept
      (λ on. may_keep_closing f closing u.holdings owner is_closed owner_left) table (let all = all_recorded holds drops table in omega (arith, all)) (inl (closed_unmarked v u f true drops refl))
      (λ shut. subst (λ (rs : List Reference). 0 < refs_to f rs) (sym newest) (newest_held f left_ref v.holdings.refs refl)))

  -- the reference and the work go
  gone : (ys : List TypedReference) → still (record u { holdings = record u.holdings { refs = without_ref f u.holdings.refs; typed = ys; works = without_work f u.holdings.works } }) ≡ still (record v { holdings = record v.holdings { typed = ys } })
  gone ys =
      ap (λ (rs : List Reference). still (record u { holdings = record u.holdings { refs = rs; typed = ys; works = without_work f u.holdings.works } }))
      (without_newest (λ (y : Reference). y.frame) f left_ref v.holdings.refs u.holdings.refs refl newest)
      ∙ ap (λ (ws : List Work). still (record u { holdings = record u.holdings { refs = v.holdings.refs; typed = ys; works = ws } }))
      (without_newest (λ (y : Work). y.frame) f closing v.holdings.works u.holdings.works refl (ap (λ (q : PortValue). q.holdings.works) (closed_hand holds drops)))
      ∙ ap (λ (q : PortValue). still (record q { holdings = record q.holdings { refs = v.holdings.refs; typed = ys; works = v.holdings.works } })) (closed_hand holds drops)

  kept_hand : left_kept u f (mark true) ≡ record u.holdings { refs = without_ref f u.holdings.refs; works = without_work f u.holdings.works; looking = [] }
  kept_hand = by_owner (cases_eq owner (domain_of u.post.machine u.post.vcpu))
    where
      by_owner : (owner ≡ domain_of u.post.machine u.post.vcpu) ⊎ (owner ≢ domain_of u.post.machine u.post.vcpu) →
          left_kept u f (mark true) ≡ record u.holdings { refs = without_ref f u.holdings.refs; works = without_work f u.holdings.works; looking = [] }
      by_owner (inl own) =
          ap (λ (h : Holdings). record h { looking = [] }) (left_kept_closing u f (level_type level) closing here false 512 0 is_closed (spelled true) (owner_left ∙ ap (λ o. owners.Of o) own))
      by_owner (inr off) = ap (λ (h : Holdings). record h { looking = [] }) (left_kept_closing_other u f (level_type level) closing here false 512 0 is_closed owner (spelled true) owner_left off)

  kept_left : still (record u { holdings = left_kept u f (mark true) }) ≡ still (record v { holdings = record v.holdings { typed = [] } })
  kept_left =
      ap (λ (h : Holdings). still (record u { holdings = h })) kept_hand ∙ ap (λ (q : PortValue). still (record q { holdings = record q.holdings { looking = [] } })) (gone u.holdings.typed)
      ∙ ap (λ (ys : List TypedReference). still (record v { holdings = record v.holdings { typed = ys; looking = [] } })) typed_gone
      ∙ ap (λ xs. still (record v { holdings = record v.holdings { typed = []; looking = xs } })) (sym holds.looking)

  foreign : IsForeign u owner → IsForeign v owner
  foreign off = subst (λ (p : Post). owner ≢ domain_of p.machine p.vcpu) (ap (λ (q : PortValue). q.post) (closed_hand holds drops)) off

  module _ (gives : Serves v u (of_back f) []) where
    -- ---- its own mark keeps the reference
    marked_serves : (w : PortValue) → ServesKept u w f owner → ServesKept v w f owner
    marked_serves w serves x r ds before asked locks =
        let later = asked_later x v u r f (serves_came v u (of_back f) [] gives) asked in
        serves x r ds (serves_back x v u r ds [] before f later gives) later (λ off. locks (foreign off))

    marked_hand : (w : PortValue) → LeavesKept u w f (mark true) owner → LeavesParked v w f owner true
    marked_hand w (inl stays) = inl (stays ∙ kept_left)
    marked_hand w (inr names) = inr (inr (foreign names.0), names.1 ∙ ap (λ (q : PortValue). still (record q { holdings = record q.holdings { old0 = Some (f + 1) } })) kept_left)

    pub marked_parks : {w : PortValue} {l : KindWord} → l ≡ mark true → Came u w → LeavesKept u w f l owner → ServesKept u w f owner → KeptFor u w f l owner → Parks v w f level owner true
    marked_parks {w} is came hand serves kept =
        record {
          came = came_trans v u w (serves_came v u (of_back f) [] gives) came;
          serves = marked_serves w serves;
          hand = marked_hand w (subst (λ l. LeavesKept u w f l owner) is hand);
          course = marked u w drops (subst (λ l. KeptFor u w f l owner) is kept);
        }

    -- ---- or the type count stays in hand, and goes into the first old word
    module _ (y : PortValue) {l : KindWord} (is : l ≡ mark false) (leaves : Holds u y (left u f l)) where
      abbrev new_count : TypedReference
      new_count = record { frame = f; kind = Some (kind_fields closing.word).kind; owner = ref_owner f u.holdings; live = since.Since (length u.holdings.steps) }

      counted : Holds v y (record v.holdings { typed = new_count ∷ [] })
      counted =
          subst (λ k. Holds u y (left u f k)) is leaves
          ∙ ap (λ (h : Holdings). still (record u { holdings = h })) (left_partial_closing u f (level_type level) closing here false 512 0 is_closed (spelled false))
          ∙ gone (new_count ∷ u.holdings.typed) ∙ ap (λ (ys : List TypedReference). still (record v { holdings = record v.holdings { typed = new_count ∷ ys } })) typed_gone

      pub parks_inside : f < y.post.machine.frames
      parks_inside = subst (λ (p : Post). f < p.machine.frames) (sym (ap (λ (q : PortValue). q.post) counted)) may.frame

      pub parks_works : MayWork y
      parks_works = may_held v y (record v.holdings { typed = new_count ∷ [] }) counted refl refl may.may

      pub parks_room : y.holdings.old0 ≡ Some 0
      parks_room = ap (λ (q : PortValue). q.holdings.old0) counted ∙ may.room

      pub parks_held : 0 < typed_to f y.holdings.typed
      parks_held = subst (λ ys. 0 < typed_to f ys) (sym (ap (λ (q : PortValue). q.holdings.typed) counted)) (typed_held f new_count [] refl)

      named_hand : (w : PortValue) → Holds y w (kept_in_old First f y.holdings) → Holds v w (record v.holdings { typed = []; old0 = Some (f + 1) })
      named_hand w names =
          names ∙ ap (λ (q : PortValue). still (record q { holdings = kept_in_old First f q.holdings })) counted
          ∙ ap (λ (ys : List TypedReference). still (record v { holdings = record v.holdings { typed = ys; old0 = Some (f + 1) } })) (without_newest (λ (y : TypedReference). y.frame) f new_count [] (new_count ∷ []) refl refl)

      pub named_parks : {w : PortValue} {found : ℕ} → Moves u y (Kind f) (Store (kind_write l)) kinds.Kind None found → Moves y w (old_place y.post.vcpu First) (Store (f + 1)) kinds.Context None 0 →
          Holds y w (kept_in_old First f y.holdings) → Parks v w f level owner false
      named_parks {w} {found} store names hand =
          let stored = subst (λ (k : KindWord). Moves u y (Kind f) (Store (kind_write k)) kinds.Kind None found) is store in
          let before = left_serves u y f (mark false) (last_may false) refl found stored v (of_back f) [] gives (back (when_eq f f refl)) in
          let both = named_serves v y w (of_back f) [] (f + 1) before names in
          record {
            came = serves_came v w (of_back f) [] both;
            serves = back_serves v w f owner both;
            hand = inr (inl refl, named_hand w hand);
            course = named u y w found drops stored names;
          }
